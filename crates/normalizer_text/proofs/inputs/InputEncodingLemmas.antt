-- Well-formed inputs: their cut and their first mismatch come after the units of the characters before those of the
-- text.
use Rattle.std.proofs.Common.{◌≡◌, ℕ, ◌≤◌, ◌↔◌, List, length, take, drop, sym, ap, subst, ◌∙◌, length-take-le}
use Rattle.normal_forms.specs.Reading.{Reading}
use Rattle.normal_forms.specs.declared.Form.{Form}
use Rattle.normal_forms.specs.Forms.{normal_form, IsNormalized}
use Rattle.normal_forms.specs.Cut.{IsCut}
use Rattle.normal_forms.specs.Offence.{IsFirst, IsFirstOffence}
use Rattle.normal_forms.proofs.cuts.OffenceLemmas.{cut_unique}
use Rattle.normalizer_text.specs.DecodingSteps.{IsWellFormed}
use Rattle.normalizer_text.specs.Encodings.{Encoding, first_in, encoded_in, decoded_in}
use Rattle.normalizer_text.proofs.rules.EncodingLemmas.{encoded-decoded}
use Rattle.normalizer_text.specs.InputCut.{IsInputNormalized, IsInputCut, characters_before}
use Rattle.normalizer_text.specs.InputOffence.{IsInputOffence}
use Rattle.normalizer_text.proofs.inputs.InputCutLemmas.{take-characters_before, drop-characters_before, input_cut_exists, cut_of_well_formed}
use Rattle.normalizer_text.proofs.inputs.InputOffenceLemmas.{offence_of_well_formed}

-- a well-formed input is normalized exactly if its text is
pub is_normalized_iff_text : (e : Encoding) (d : Reading) (form : Form) (units : List ℕ) → IsWellFormed (first_in e) units → IsInputNormalized e d form units ↔ IsNormalized d form (decoded_in e units)
is_normalized_iff_text e d form units w = (λ own. own.own, λ own. record { well_formed = w; own = own })

-- a well-formed front is as long as the encoding of the characters that it decodes to
pub length-front : (e : Encoding) (units : List ℕ) (n : ℕ) → n ≤ length units → IsWellFormed (first_in e) (take n units)
    → n ≡ length (encoded_in e (take (characters_before e units n) (decoded_in e units)))
length-front e units n within w =
    sym (length-take-le n units within)
    ∙ ap length (sym (encoded-decoded e (take n units) w))
    ∙ ap (λ x. length (encoded_in e x)) (sym (take-characters_before e units n w))

module _ (e : Encoding) (d : Reading) (form : Form) (units : List ℕ) (well_formed : IsWellFormed (first_in e) units) where
  cut_from_text : (n k : ℕ) → IsCut d form (decoded_in e units) k → IsInputCut e d form units n → (k ≡ characters_before e units n) × (n ≡ length (encoded_in e (take k (decoded_in e units))))
  cut_from_text n k text cut =
      let same : k ≡ characters_before e units n = cut_unique d form (decoded_in e units) k (characters_before e units n) text (cut_of_well_formed e d form units n well_formed cut) in
      (same, rw same (length-front e units n cut.qualifies.within cut.qualifies.well_formed))

  -- the cut comes after the units of as many characters as come before the cut of the text
  pub input_cut_iff_text : (n k : ℕ) → IsCut d form (decoded_in e units) k → IsInputCut e d form units n ↔ (n ≡ length (encoded_in e (take k (decoded_in e units))))
  input_cut_iff_text n k text = (
    λ cut. (cut_from_text n k text cut).1,
    λ same.
        let cut = input_cut_exists e d form units in
        subst (IsInputCut e d form units) ((cut_from_text cut.0 k text cut.1).1 ∙ sym same) cut.1,
  )

  -- the first mismatch comes after the units of as many characters as come before that of the text
  pub input_offence_iff_text : (place found wanted : ℕ)
      → IsInputOffence e d form units place found wanted ↔ ((k : ℕ) × IsFirstOffence d form (decoded_in e units) k found wanted × (place ≡ length (encoded_in e (take k (decoded_in e units)))))
  input_offence_iff_text place found wanted = (
    λ offence. (
      characters_before e units place,
      offence_of_well_formed e d form units place found wanted well_formed offence,
      length-front e units place offence.cut.qualifies.within offence.cut.qualifies.well_formed,
    ),
    λ text.
        let k = text.0 in
        let offence = text.1 in
        let cut : IsInputCut e d form units place = (input_cut_iff_text place k offence.cut).1 text.2 in
        let same = (cut_from_text place k offence.cut cut).0 in
        let rest : drop k (decoded_in e units) ≡ decoded_in e (drop place units) =
        ap (λ n. drop n (decoded_in e units)) same ∙ drop-characters_before e units place cut.qualifies.well_formed in
        record {
          differs = λ own. offence.differs own.own;
          cut = cut;
          is_found = subst (λ l. IsFirst l found) rest offence.is_found;
          is_wanted = subst (λ l. IsFirst (normal_form d form l) wanted) rest offence.is_wanted;
        },
  )
