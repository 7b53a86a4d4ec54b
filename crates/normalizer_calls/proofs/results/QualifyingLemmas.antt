-- Places that qualify for the cut, one counted from another.
use Rattle.std.proofs.Common.{◌≡◌, ℕ, ◌+◌, ◌-◌, List, [], ◌++◌, length, take, drop, sym, ap, subst, ◌∙◌, append_assoc, arith, inl, inr, drop_of_length-le, length-drop, take-append-drop}
use Rattle.std.specs.Prelude.{Bool}
use Rattle.std.proofs.Math.Nat.{eq-zero-or-pos}
use Rattle.std.proofs.Math.Seq.{take-add}
use Rattle.std.proofs.lemmas.Bool.{cases_lt}
use Rattle.std.proofs.lemmas.List.{drop-drop}
use Rattle.normal_forms.specs.Reading.{Reading}
use Rattle.normal_forms.specs.declared.Form.{Form}
use Rattle.normal_forms.specs.Forms.{normal_form}
use Rattle.normal_forms.specs.ShortRuns.{HasShortRuns}
use Rattle.normal_forms.proofs.boundaries.ChunkLemmas.{HasShortRuns-rest}
use Rattle.normal_forms.proofs.cuts.PlaceLemmas.{form_of_nothing}
use Rattle.normal_forms.proofs.forms.ListLemmas.{append_cancel}
use Rattle.normalizer_text.specs.DecodingSteps.{IsWellFormed}
use Rattle.normalizer_text.specs.Encodings.{Encoding, first_in, decoded_in}
use Rattle.normalizer_text.specs.InputCut.{IsInputCut, IsInputNormalized, QualifiesForInputCut}
use Rattle.normalizer_text.proofs.inputs.InputBoundaryLemmas.{IsWellFormed-append, IsWellFormed-nil, IsWellFormed-rest, decoded-parts}
use Rattle.normalizer_text.proofs.inputs.InputCutLemmas.{normalized_from_rest, zero_input_qualifies}
use Rattle.normalizer_text.proofs.steps.StepLemmas.{decoded-append, decoded-nil}
use Rattle.normalizer_calls.specs.inner.PassthroughRuns.{IsKeptTo}
use Rattle.normalizer_calls.proofs.segments.KeptLemmas.{IsKeptTo-le}
use Rattle.normalizer_calls.proofs.written_forms.PartLemmas.{form-parts}

module _ (e : Encoding) (d : Reading) (form : Form) (units : List ℕ) where
  -- the end of what is kept qualifies
  pub IsKeptTo-qualifies : (end : ℕ) → IsKeptTo e d form units end → QualifiesForInputCut e d form units end
  IsKeptTo-qualifies end kept = elim (eq-zero-or-pos end) [
    | inl none ↦ subst (QualifiesForInputCut e d form units) (sym none) (zero_input_qualifies e d form units)
    | inr some ↦
        let part = kept.part some in
        record {
          within = IsKeptTo-le e d form units end kept;
          well_formed = part.1.well_formed;
          keeps = ap (λ l. l ++ normal_form d form (decoded_in e (drop end units))) (sym part.1.own) ∙ sym (form-parts part.0);
        }
  ]

  module _ (n : ℕ) (front : QualifiesForInputCut e d form units n) where
    -- a place that qualifies after one that does
    qualifies-after : (place : ℕ) → QualifiesForInputCut e d form (drop n units) place → QualifiesForInputCut e d form units (n + place)
    qualifies-after place rest =
        let x : List ℕ = decoded_in e (take n units) in
        let y : List ℕ = decoded_in e (take place (drop n units)) in
        let text : decoded_in e (take (n + place) units) ≡ x ++ y =
        ap (decoded_in e) (take-add n place units) ∙ decoded-append e (take n units) (take place (drop n units)) front.well_formed in
        record {
          within = omega (arith, front.within, rest.within, length-drop n units);
          well_formed = subst (IsWellFormed (first_in e)) (sym (take-add n place units))
              (IsWellFormed-append e (take n units) (take place (drop n units)) front.well_formed rest.well_formed);
          keeps = ap (λ l. l ++ normal_form d form (decoded_in e (drop (n + place) units))) text
              ∙ append_assoc x y (normal_form d form (decoded_in e (drop (n + place) units)))
              ∙ ap (λ l. x ++ (y ++ normal_form d form (decoded_in e l))) (sym (drop-drop place n units))
              ∙ ap (λ l. x ++ l) rest.keeps ∙ front.keeps;
        }

    normalized-after : IsInputNormalized e d form units → IsInputNormalized e d form (drop n units)
    normalized-after own = record {
      well_formed = IsWellFormed-rest e (take n units) (drop n units) front.well_formed (subst (IsWellFormed (first_in e)) (sym (take-append-drop n units)) own.well_formed);
      own = append_cancel (decoded_in e (take n units)) (normal_form d form (decoded_in e (drop n units))) (decoded_in e (drop n units))
          (front.keeps ∙ own.own ∙ decoded-parts e units n front.well_formed);
    }

    -- a later place that qualifies does so in the rest
    qualifies-of_rest : (place : ℕ) → QualifiesForInputCut e d form units (n + place) → QualifiesForInputCut e d form (drop n units) place
    qualifies-of_rest place all =
        let x : List ℕ = decoded_in e (take n units) in
        let y : List ℕ = decoded_in e (take place (drop n units)) in
        let text : decoded_in e (take (n + place) units) ≡ x ++ y =
        ap (decoded_in e) (take-add n place units) ∙ decoded-append e (take n units) (take place (drop n units)) front.well_formed in
        record {
          within = omega (arith, front.within, all.within, length-drop n units);
          well_formed = IsWellFormed-rest e (take n units) (take place (drop n units)) front.well_formed (subst (IsWellFormed (first_in e)) (take-add n place units) all.well_formed);
          keeps = append_cancel x (y ++ normal_form d form (decoded_in e (drop place (drop n units)))) (normal_form d form (decoded_in e (drop n units)))
              (ap (λ l. x ++ (y ++ normal_form d form (decoded_in e l))) (drop-drop place n units)
              ∙ sym (append_assoc x y (normal_form d form (decoded_in e (drop (n + place) units))))
              ∙ ap (λ l. l ++ normal_form d form (decoded_in e (drop (n + place) units))) (sym text) ∙ all.keeps ∙ sym front.keeps);
        }

    -- nothing comes after the last place
    pub normalized-whole : n ≡ length units → IsInputNormalized e d form units
    normalized-whole all =
        let none : drop n units ≡ [] = drop_of_length-le units (omega arith) in
        normalized_from_rest e d form units n front
        (subst (IsInputNormalized e d form) (sym none)
        (record { well_formed = IsWellFormed-nil e; own = ap (normal_form d form) (decoded-nil e) ∙ form_of_nothing d form ∙ sym (decoded-nil e) }))

    -- the rest after the place
    module _ (rest : List ℕ) (is : rest ≡ drop n units) where
      pub normalized-with_rest : IsInputNormalized e d form rest → IsInputNormalized e d form units
      normalized-with_rest own = normalized_from_rest e d form units n front (subst (IsInputNormalized e d form) is own)

      pub differs-with_rest : (IsInputNormalized e d form rest → ⊥) → IsInputNormalized e d form units → ⊥
      differs-with_rest differs own = differs (subst (IsInputNormalized e d form) (sym is) (normalized-after own))

      pub qualifies-in_rest : (place : ℕ) → QualifiesForInputCut e d form rest place → QualifiesForInputCut e d form units (n + place)
      qualifies-in_rest place there = qualifies-after place (subst (λ l. QualifiesForInputCut e d form l place) is there)

      pub IsInputCut-of_rest : (place : ℕ) → IsInputCut e d form rest place → IsInputCut e d form units (n + place)
      IsInputCut-of_rest place cut = record {
        qualifies = qualifies-in_rest place cut.qualifies;
        greatest = λ m there.
            elim (cases_lt m n) [
              | inl before ↦ omega arith
              | inr after ↦
                  let sum : n + (m - n) ≡ m = omega arith in
                  let later = qualifies-of_rest (m - n) (subst (QualifiesForInputCut e d form units) (sym sum) there) in
                  let bound = cut.greatest (m - n) (subst (λ l. QualifiesForInputCut e d form l (m - n)) (sym is) later) in
                  omega arith
            ];
      }

      pub HasShortRuns-of_rest : (f : ℕ → Bool) → HasShortRuns f d (decoded_in e units) → HasShortRuns f d (decoded_in e rest)
      HasShortRuns-of_rest f short =
          subst (λ l. HasShortRuns f d (decoded_in e l)) (sym is)
          (HasShortRuns-rest f d (decoded_in e (take n units)) (decoded_in e (drop n units)) (subst (HasShortRuns f d) (decoded-parts e units n front.well_formed) short))
