-- A whole character with a boundary before it divides the form of bytes, whatever comes after them.
use Rattle.std.proofs.Common.{◌≡◌, ℕ, ◌<◌, false, List, ◌++◌, length, take, drop, sym, ap, subst, ◌∙◌, ◌+◌, ◌∷◌, get_or, get_or-drop, arith, length-drop, length-append}
use Rattle.std.specs.Prelude.{slice_index}
use Rattle.std.proofs.Math.Seq.{drop-append_seam, take-append_seam}
use Rattle.std.proofs.lemmas.Bool.{false_from_ne_true, true≢false}
use Rattle.icu_normalizer.specs.NormalForms.{normal_form}
use Rattle.icu_normalizer.specs.Reading.{Reading}
use Rattle.icu_normalizer.specs.Form.{Form}
use Rattle.icu_normalizer.specs.Encodings.{Encoding, first_in, decoded_in, encoded_in, trails_in}
use Rattle.icu_normalizer.proofs.EncodingRules.{HasTrails-first}
use Rattle.icu_normalizer.proofs.EncodingLemmas.{encoded_in-append}
use Rattle.icu_normalizer.proofs.BackLemmas.{boundary-at}
use Rattle.icu_normalizer.proofs.StepBoundaries.{decoded-take-drop, steps-take-drop}
use Rattle.icu_normalizer.proofs.StepLemmas.{decoded-some}
use Rattle.icu_normalizer.specs.DecodingSteps.{steps}
use Rattle.icu_normalizer.specs.EncodedForm.{encoded_form}
use Rattle.icu_normalizer.specs.BoundaryBefore.{HasBoundaryBefore}
use Rattle.normalizer_streams.specs.IllFormed.{first_of}
use Rattle.normalizer_streams.specs.inner.Moves.{IsSettled}

-- a unit that begins a whole character can't come after the first one of a step
pub leads : (e : Encoding) (units : List ℕ) (place : ℕ) → place < length units → (first_in e (drop place units)).is_error ≡ false → trails_in e (slice_index units place) ≡ false
leads e units place within right = false_from_ne_true (trails_in e (slice_index units place)) (λ trail.
    let rest = drop place units in
    let some : 0 < length rest = omega (arith, length-drop place units) in
    let plus : place + 0 ≡ place = omega arith in
    let one = (HasTrails-first e).alone rest some (ap (trails_in e) (get_or-drop place units 0 0 ∙ ap (λ i. get_or units i 0) plus) ∙ trail) in
    true≢false (sym (ap (λ s. s.is_error) one) ∙ right))

-- so it begins a step
pub steps-divided : (e : Encoding) (front rest : List ℕ) → 0 < length rest → (first_in e rest).is_error ≡ false → steps (first_in e) (front ++ rest) ≡ steps (first_in e) front ++ steps (first_in e) rest
steps-divided e front rest some right =
    let units = front ++ rest in
    let place = length front in
    let after : drop place units ≡ rest = drop-append_seam front rest in
    let before : take place units ≡ front = take-append_seam front rest in
    let within : place < length units = omega (arith, length-append front rest) in
    let boundary = boundary-at e units place within (leads e units place within (ap (λ x. (first_in e x).is_error) after ∙ right)) in
    steps-take-drop e units place boundary ∙ ap (λ x. steps (first_in e) x ++ steps (first_in e) (drop place units)) before ∙ ap (λ x. steps (first_in e) front ++ steps (first_in e) x) after

module _ (e : Encoding) (d : Reading) (form : Form) where
  -- the form of units is divided before a character that begins a new part
  pub encoded_form-parts : (units : List ℕ) (place : ℕ) → place < length units → (first_in e (drop place units)).is_error ≡ false
      → HasBoundaryBefore d form (first_in e (drop place units)).character
      → encoded_form e d form units ≡ encoded_form e d form (take place units) ++ encoded_form e d form (drop place units)
  encoded_form-parts units place within right apart =
      let first = first_in e in
      let rest = drop place units in
      let some : 0 < length rest = omega (arith, length-drop place units) in
      let lead = leads e units place within right in
      let front = decoded_in e (take place units) in
      let c = (first rest).character in
      let x = decoded_in e (drop (first rest).width rest) in
      let begins : decoded_in e rest ≡ c ∷ x = decoded-some e rest some in
      let parts : decoded_in e units ≡ front ++ decoded_in e rest =
      decoded-take-drop e units place (boundary-at e units place within lead) in
      ap (λ z. encoded_in e (normal_form d form z)) (parts ∙ ap (λ z. front ++ z) begins)
      ∙ ap (encoded_in e) (apart front x) ∙ encoded_in-append e (normal_form d form front) (normal_form d form (c ∷ x))
      ∙ ap (λ z. encoded_in e (normal_form d form front) ++ encoded_in e (normal_form d form z)) (sym begins)

  -- a front, and a rest that begins with a character that begins a new part
  encoded_form-append : (front rest : List ℕ) → 0 < length rest → (first_in e rest).is_error ≡ false → HasBoundaryBefore d form (first_in e rest).character
      → encoded_form e d form (front ++ rest) ≡ encoded_form e d form front ++ encoded_form e d form rest
  encoded_form-append front rest some right apart =
      let place = length front in
      let after : drop place (front ++ rest) ≡ rest = drop-append_seam front rest in
      let before : take place (front ++ rest) ≡ front = take-append_seam front rest in
      let within : place < length (front ++ rest) = omega (arith, length-append front rest) in
      encoded_form-parts (front ++ rest) place within (ap (λ x. (first_in e x).is_error) after ∙ right) (subst (λ x. HasBoundaryBefore d form (first_in e x).character) (sym after) apart)
      ∙ ap (λ x. encoded_form e d form x ++ encoded_form e d form (drop place (front ++ rest))) before ∙ ap (λ x. encoded_form e d form front ++ encoded_form e d form x) after

-- the form of bytes
abbrev pub form_in : Reading → Form → List ℕ → List ℕ
form_in d form bytes = encoded_form Encoding.Utf8 d form bytes

pub IsSettled-character : (d : Reading) (form : Form) (bytes : List ℕ) (place : ℕ) → 0 < place → place < length bytes
    → (first_of (drop place bytes)).is_error ≡ false → HasBoundaryBefore d form (first_of (drop place bytes)).character → IsSettled (form_in d form) bytes place
IsSettled-character d form bytes place positive within right apart = record {
  positive = positive;
  within = within;
  divided = record {
    begins = record { some = omega (arith, length-drop place bytes); whole = right };
    apart = λ rest alike.
        encoded_form-append Encoding.Utf8 d form (take place bytes) rest alike.some
        (ap (λ s. s.is_error) alike.same ∙ right) (subst (λ s. HasBoundaryBefore d form s.character) (sym alike.same) apart);
    steps_apart = λ rest alike.
        steps-divided Encoding.Utf8 (take place bytes) rest alike.some (ap (λ s. s.is_error) alike.same ∙ right);
  };
}
