-- Bytes divided after a line feed.
use Rattle.std.proofs.Common.{◌≡◌, ℕ, ◌<◌, List, [], ◌∷◌, ◌++◌, length, drop, refl, ap, sym, ◌∙◌, append_assoc, arith}
use Rattle.std.proofs.Math.Seq.{take-append_seam, drop-append_seam}
use Rattle.std.proofs.lemmas.List.{length-append}
use Rattle.std.specs.Prelude.{slice_index, false, encode_utf8_all}
use Rattle.normalizer_text.specs.DecodingSteps.{IsBoundary, read}
use Rattle.normalizer_text.specs.Encodings.{Encoding, trails_in}
use Rattle.normalizer_text.specs.Utf8.{decoded_utf8, first_of_utf8}
use Rattle.normalizer_text.proofs.rules.EncodingLemmas.{encoded_in-append}
use Rattle.normalizer_text.proofs.steps.StepBoundaries.{decoded-take-drop}
use Rattle.normalizer_text.proofs.steps.StepLemmas.{decoded-nil, decoded-some}

at_line_feed : (x y : List ℕ) → slice_index (x ++ 0x0A ∷ y) (length x) ≡ 0x0A
at_line_feed [] y = refl
at_line_feed (c ∷ x) y = at_line_feed x y

module _ (begins : (units : List ℕ) (n : ℕ) → n < length units → trails_in Encoding.Utf8 (slice_index units n) ≡ false → IsBoundary first_of_utf8 units n)
    (alone : (rest : List ℕ) → first_of_utf8 (0x0A ∷ rest) ≡ read 0x0A 1) where
  decoded-at : (x y : List ℕ) → decoded_utf8 (x ++ 0x0A ∷ y) ≡ decoded_utf8 x ++ 0x0A ∷ decoded_utf8 y
  decoded-at x y =
      let units : List ℕ = x ++ 0x0A ∷ y in
      let within : length x < length units = (let l = length-append x (0x0A ∷ y) in omega (arith, l)) in
      let starts : IsBoundary first_of_utf8 units (length x) = begins units (length x) within (rw (at_line_feed x y) refl) in
      let parts = decoded-take-drop Encoding.Utf8 units (length x) starts in
      let own : decoded_utf8 (0x0A ∷ y) ≡ 0x0A ∷ decoded_utf8 y =
      decoded-some Encoding.Utf8 (0x0A ∷ y) (omega arith) ∙ ap (λ s. s.character ∷ decoded_utf8 (drop s.width (0x0A ∷ y))) (alone y) in
      parts ∙ ap (λ l. decoded_utf8 l ++ decoded_utf8 (drop (length x) units)) (take-append_seam x (0x0A ∷ y))
      ∙ ap (λ l. decoded_utf8 x ++ decoded_utf8 l) (drop-append_seam x (0x0A ∷ y)) ∙ ap (λ l. decoded_utf8 x ++ l) own

  -- so the encoded form of a text divided so is divided so
  pub encoded-after : (f : List ℕ → List ℕ) → ((x y : List ℕ) → f ((x ++ 0x0A ∷ []) ++ y) ≡ f (x ++ 0x0A ∷ []) ++ f y) → (x y : List ℕ)
      → encode_utf8_all (f (decoded_utf8 ((x ++ 0x0A ∷ []) ++ y)))
      ≡ encode_utf8_all (f (decoded_utf8 (x ++ 0x0A ∷ []))) ++ encode_utf8_all (f (decoded_utf8 y))
  encoded-after f divided x y =
      let front : decoded_utf8 (x ++ 0x0A ∷ []) ≡ decoded_utf8 x ++ 0x0A ∷ [] =
      decoded-at x [] ∙ ap (λ l. decoded_utf8 x ++ 0x0A ∷ l) (decoded-nil Encoding.Utf8) in
      let whole : decoded_utf8 ((x ++ 0x0A ∷ []) ++ y) ≡ decoded_utf8 (x ++ 0x0A ∷ []) ++ decoded_utf8 y =
      ap decoded_utf8 (append_assoc x (0x0A ∷ []) y) ∙ decoded-at x y
      ∙ sym (ap (λ l. l ++ decoded_utf8 y) front ∙ append_assoc (decoded_utf8 x) (0x0A ∷ []) (decoded_utf8 y)) in
      ap (λ l. encode_utf8_all (f l)) (whole ∙ ap (λ l. l ++ decoded_utf8 y) front)
      ∙ ap encode_utf8_all (divided (decoded_utf8 x) (decoded_utf8 y))
      ∙ encoded_in-append Encoding.Utf8 (f (decoded_utf8 x ++ 0x0A ∷ [])) (f (decoded_utf8 y))
      ∙ ap (λ l. encode_utf8_all (f l) ++ encode_utf8_all (f (decoded_utf8 y))) (sym front)
