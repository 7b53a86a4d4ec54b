-- A text, its encoding, and what that decodes to.
use Rattle.std.proofs.Common.{◌≡◌, ℕ, zero, suc, ◌≤◌, List, [], ◌∷◌, ◌++◌, length, length-append, append_assoc, map, drop, take-append-drop, arith, refl, ap, sym, ◌∙◌}
use Rattle.std.specs.Prelude.{All}
use Rattle.std.specs.Char.{IsScalar}
use Rattle.std.proofs.lemmas.List.{drop_at}
use Rattle.std.proofs.lemmas.List.Elements.{All-nil, All-cons, All-head, All-tail, All-same}
use Rattle.normalizer_text.specs.declared.decoding_step.Step.{Step}
use Rattle.normalizer_text.specs.DecodingSteps.{read, steps, decoded_text, IsWellFormed}
use Rattle.normalizer_text.specs.Encodings.{Encoding, first_in, decoded_in, encoded_in}
use Rattle.normalizer_text.proofs.rules.Decoding.{IsEncoding, encode_in}
use Rattle.normalizer_text.proofs.sequences.SequenceLemmas.{IsEncoding-utf8}
use Rattle.normalizer_text.proofs.rules.Utf16Lemmas.{IsEncoding-utf16}
use Rattle.normalizer_text.proofs.steps.StepLemmas.{IsRight, steps-nil, decoded-nil, steps-some, decoded-some, rest-shorter}

pub IsEncoding-in : (e : Encoding) → IsEncoding e
IsEncoding-in Encoding.Utf8 = IsEncoding-utf8
IsEncoding-in Encoding.Utf16 = IsEncoding-utf16

-- what a text encodes to is well-formed, and decodes to the text
pub record DecodesBack (e : Encoding) (x : List ℕ) : Type 0 where
  pub well_formed : IsWellFormed (first_in e) (encoded_in e x)
  pub text : decoded_in e (encoded_in e x) ≡ x

module _ (e : Encoding) where
  abbrev first : List ℕ → Step
  first = first_in e

  abbrev encode : ℕ → List ℕ
  encode = encode_in e

  abbrev all : List ℕ → List ℕ
  all = encoded_in e

  rule : IsEncoding e
  rule = IsEncoding-in e

  steps-encode : (c : ℕ) (more : List ℕ) → IsScalar c → steps first (encode c ++ more) ≡ read c (length (encode c)) ∷ steps first more
  steps-encode c more h =
      let front = rule.front c more h in
      steps-some e (encode c ++ more) (omega (arith, length-append (encode c) more, rule.some c h))
      ∙ ap (λ s. s ∷ steps first (drop s.width (encode c ++ more))) front
      ∙ ap (λ x. read c (length (encode c)) ∷ steps first x) (drop_at (encode c) more (length (encode c)) refl)

  pub DecodesBack-in : (x : List ℕ) → All IsScalar x → DecodesBack e x
  DecodesBack-in [] h =
      let none : steps first (all []) ≡ [] = ap (steps first) rule.nil ∙ steps-nil e in
      record { well_formed = All-same IsRight (steps first (all [])) [] none (All-nil IsRight); text = ap (map (λ s. s.character)) none }
  DecodesBack-in (c ∷ x) h =
      let ih = DecodesBack-in x (All-tail IsScalar c x h) in
      let s = read c (length (encode c)) in
      let k : steps first (all (c ∷ x)) ≡ s ∷ steps first (all x) = ap (steps first) (rule.cons c x) ∙ steps-encode c (all x) (All-head IsScalar c x h) in record {
        well_formed = All-same IsRight (steps first (all (c ∷ x))) (s ∷ steps first (all x)) k (All-cons IsRight s (steps first (all x)) refl ih.well_formed);
        text = ap (map (λ s. s.character)) k ∙ ap (λ y. c ∷ y) ih.text;
      }

  pub encoded_in-nil : encoded_in e [] ≡ []
  encoded_in-nil = rule.nil

  -- two texts are encoded apart
  pub encoded_in-append : (x y : List ℕ) → all (x ++ y) ≡ all x ++ all y
  encoded_in-append [] y = sym (ap (λ l. l ++ all y) rule.nil)
  encoded_in-append (c ∷ x) y =
      rule.cons c (x ++ y) ∙ ap (λ l. encode c ++ l) (encoded_in-append x y)
      ∙ sym (append_assoc (encode c) (all x) (all y))
      ∙ ap (λ l. l ++ all y) (sym (rule.cons c x))

  -- what is well-formed is the encoding of what it decodes to
  pub encoded-decoded : (us : List ℕ) → IsWellFormed first us → all (decoded_text first us) ≡ us
  encoded-decoded us w = by (length us) us (omega arith) w
    where
      by : (n : ℕ) (us : List ℕ) → length us ≤ n → IsWellFormed first us → all (decoded_text first us) ≡ us
      by n [] h w = ap all (decoded-nil e) ∙ rule.nil
      by zero (u ∷ us) h w = absurd (omega arith)
      by (suc n) (u ∷ us) h w =
          let us' = u ∷ us in
          let s = first us' in
          let rest = drop s.width us' in
          let w' : All IsRight (s ∷ steps first rest) = All-same IsRight (s ∷ steps first rest) (steps first us') (sym (steps-some e us' (omega arith))) w in
          ap all (decoded-some e us' (omega arith))
          ∙ rule.cons s.character (decoded_text first rest)
          ∙ ap (λ x. encode s.character ++ x) (by n rest (rest-shorter e us' n (omega arith) h) (All-tail IsRight s (steps first rest) w'))
          ∙ ap (λ x. x ++ rest) (rule.back us' (omega arith) (All-head IsRight s (steps first rest) w'))
          ∙ take-append-drop s.width us'
