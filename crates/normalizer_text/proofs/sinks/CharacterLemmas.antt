-- A character that is at a position of units: the step there is that character.
use Rattle.std.proofs.Common.{◌≡◌, ℕ, ◌+◌, ◌<◌, ◌≤◌, false, List, [], ◌∷◌, ◌++◌, length, take, drop, sym, ap, ◌∙◌, arith, length-append, length-drop, length-take-le, take-append-drop}
use Rattle.std.proofs.lemmas.List.{append-nil}
use Rattle.std.specs.Char.{IsScalar}
use Rattle.normalizer_text.specs.CheckSinks.{StandsAt}
use Rattle.normalizer_text.specs.DecodingSteps.{read}
use Rattle.normalizer_text.specs.declared.decoding_step.Step.{Step}
use Rattle.normalizer_text.specs.Encodings.{Encoding, first_in, encoded_in}
use Rattle.normalizer_text.proofs.rules.Decoding.{IsDecoding, IsEncoding, encode_in}
use Rattle.normalizer_text.proofs.rules.EncodingLemmas.{IsEncoding-in}
use Rattle.normalizer_text.proofs.rules.EncodingRules.{IsDecoding-first}

module _ (e : Encoding) (units : List ℕ) (position : ℕ) where
  abbrev rest : List ℕ
  rest = drop position units

  abbrev step : Step
  step = first_in e rest

  some_left : position < length units → 0 < length rest
  some_left h = omega (arith, h, length-drop position units)

  encoded-one : (c : ℕ) → encoded_in e (c ∷ []) ≡ encode_in e c
  encoded-one c = (IsEncoding-in e).cons c [] ∙ ap (λ l. encode_in e c ++ l) (IsEncoding-in e).nil ∙ append-nil (encode_in e c)

  pub fits : position < length units → position + step.width ≤ length units
  fits h = omega (arith, h, (IsDecoding-first e).fits rest (some_left h), length-drop position units)

  -- a step that isn't an error is the encoding of its character
  pub stands : position < length units → step.is_error ≡ false
      → (position + step.width ≡ position + length (encoded_in e (step.character ∷ []))) × StandsAt units position (encoded_in e (step.character ∷ []))
  stands h right =
      let some = some_left h in
      let is = encoded-one step.character ∙ (IsEncoding-in e).back rest some right in
      let size = ap length is ∙ length-take-le step.width rest ((IsDecoding-first e).fits rest some) in
      (ap (λ n. position + n) (sym size), (drop step.width rest, sym (take-append-drop step.width rest) ∙ ap (λ l. l ++ drop step.width rest) (sym is)))

  module _ (c : ℕ) (scalar : IsScalar c) (there : StandsAt units position (encoded_in e (c ∷ []))) where
    front : rest ≡ encode_in e c ++ there.0
    front = there.1 ∙ ap (λ l. l ++ there.0) (encoded-one c)

    -- where the encoding of a character is, the step reads it
    pub reads : step ≡ read c (length (encode_in e c))
    reads = ap (first_in e) front ∙ (IsEncoding-in e).front c there.0 scalar

    pub some : position < length units
    some = omega (arith, (IsEncoding-in e).some c scalar, ap length front, length-append (encode_in e c) there.0, length-drop position units)
