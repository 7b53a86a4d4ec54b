-- The place at which a form written into a check sink is refused is the cut of the input.
use Rattle.std.proofs.Common.{◌≡◌, ℕ, suc, ◌-◌, ◌≤◌, List, [], ◌∷◌, ◌++◌, length, take, drop, Result, Ok, Err, Option, Some, None}
use Rattle.std.proofs.Common.{refl, sym, ap, subst, ◌∙◌, arith, inl, inr, append_assoc, length-append, length-take-le, take-append-drop}
use Rattle.std.proofs.lemmas.List.{append_cancel_left, take_at}
use Rattle.std.proofs.Math.Seq.{take-append_seam}
use Rattle.std.specs.Prelude.{⊤, ◌⊎◌, Bool}
use Rattle.std.specs.Option.{unwrap_or}
use Rattle.normal_forms.specs.Reading.{Reading}
use Rattle.normal_forms.specs.declared.Form.{Form}
use Rattle.normal_forms.specs.Cut.{IsFront}
use Rattle.normal_forms.specs.Forms.{normal_form}
use Rattle.normal_forms.specs.Offence.{IsFirst}
use Rattle.normal_forms.specs.ShortRuns.{HasShortRuns}
use Rattle.normal_forms.proofs.boundaries.ChunkLemmas.{HasShortRuns-rest}
use Rattle.normal_forms.proofs.forms.TextLemmas.{IsText-normal_form}
use Rattle.normalizer_check.specs.RequiredConditions.{SuitsTexts}
use Rattle.normalizer_calls.specs.inner.Offences.{IsCutUnlessNormalized}
use Rattle.normalizer_calls.specs.inner.WrittenParts.{Target, WasRefusedPiece, WritesText}
use Rattle.normalizer_text.specs.CheckSinks.{Expectation, ChangesNothing, ExpectsTheSame, IsUnexpected}
use Rattle.normalizer_text.specs.Encodings.{Encoding, first_in, encoded_in, decoded_in}
use Rattle.normalizer_text.specs.Outputs.{NoHint}
use Rattle.normalizer_text.specs.DecodingSteps.{IsBoundary, IsFirstStep}
use Rattle.normalizer_text.specs.declared.decoding_step.Step.{Step}
use Rattle.normalizer_text.proofs.steps.StepLemmas.{decoded-nil, decoded-some}
use Rattle.normalizer_text.proofs.rules.EncodingLemmas.{encoded_in-append, encoded_in-nil}
use Rattle.normalizer_text.specs.InputCut.{IsInputNormalized, IsInputCut}
use Rattle.normalizer_text.specs.InputOffence.{IsInputOffence, IsInputOffenceOf}
use Rattle.normalizer_text.specs.declared.offence.Offence.{Offence}
use Rattle.normalizer_text.specs.EncodedForm.{encoded_form, IsEncodedFront}
use Rattle.normalizer_text.proofs.inputs.EncodedFormLemmas.{is_normalized_iff_encoded_form, form_ends_with_units, longest_encoded_is_cut, offered_is_normalized}
use Rattle.normalizer_text.proofs.inputs.InputBoundaryLemmas.{boundary_of_front, decoded-parts}
use Rattle.normalizer_text.proofs.inputs.InputCutLemmas.{front_at_input_cut, input_cut_unique, is_normalized_iff_input_cut, rest_at_input_cut}
use Rattle.normalizer_text.proofs.inputs.InputOffenceLemmas.{continued_input_offence, input_found_differs, input_offence_exists}
use Rattle.normalizer_iterators.specs.declared.error.NormalizeError.{NormalizeError}
use Rattle.normalizer_iterators.specs.declared.error.NormalizeError.TheVariants.{Sink}
use Rattle.normalizer_calls.specs.Checks.{IsLastingOffence, IsSplitAtCut}
use Rattle.normalizer_calls.specs.Forms.{MadeForm}
use Rattle.normalizer_calls.specs.inner.PassthroughRuns.{StandsInInput}

-- what is said of a check sink
abbrev pub check_target : (U : Type 0) → Target Expectation U
check_target U = record { text_taken = λ sink. sink.came; refusal = ExpectsTheSame; refusal_effect = ChangesNothing; refuses = IsUnexpected; length_hint = NoHint }

module _ (e : Encoding) (d : Reading) (form : Form) (units : List ℕ) where
  abbrev text : List ℕ
  text = normal_form d form (decoded_in e units)

  -- a check sink that was given the form
  abbrev pub IsChecked : Type 0 → Result ⊤ NormalizeError → Expectation → Type 0
  IsChecked U answer new =
      WritesText e (check_target U) (StandsInInput e d form units) text (record { came = []; remaining = units }) answer new

  module _ {U : Type 0} (suits : SuitsTexts d form) where
    pub normalized_where_expected : (new : Expectation) → IsChecked U (Ok tt) new → IsInputNormalized e d form units
    normalized_where_expected new h =
        let texts = IsText-normal_form d form suits.texts suits.scalars in
        let all : new.came ++ new.remaining ≡ units = h.ahead new refl in
        let front : IsFront (encoded_form e d form units) units = (new.remaining, sym all ∙ ap (λ l. l ++ new.remaining) h.written) in
        (is_normalized_iff_encoded_form e d form units texts).1 (form_ends_with_units e d form suits.laws suits.are_nonempty texts units front)

    module _ (new : Expectation) (h : IsChecked U (Err Sink) new) where
      abbrev refusal : WasRefusedPiece e (check_target U) (StandsInInput e d form units) text (record { came = []; remaining = units }) new
      refusal = h.refusal refl

      front : List ℕ
      front = (h.refusal refl).beginning.front

      came : new.came ≡ encoded_in e (h.refusal refl).beginning.front
      came = ap (λ s. s.came) (h.refusal refl).leaves ∙ (h.refusal refl).beginning.took

      parts : units ≡ encoded_in e (h.refusal refl).beginning.front ++ new.remaining
      parts = sym (h.fault refl) ∙ ap (λ l. l ++ new.remaining) came

      -- the piece that was refused does not come next
      stops : (rest : List ℕ) → units ≡ encoded_in e (h.refusal refl).beginning.front ++ (encoded_in e (h.refusal refl).piece ++ rest) → ⊥
      stops rest goes =
          let r = h.refusal refl in
          let next : new.remaining ≡ encoded_in e r.piece ++ rest = append_cancel_left (encoded_in e r.beginning.front) new.remaining (encoded_in e r.piece ++ rest) (sym parts ∙ goes) in
          r.known (rest, ap (λ s. s.remaining) (sym r.leaves) ∙ next)

      whole : text ≡ (h.refusal refl).beginning.front ++ ((h.refusal refl).piece ++ (h.refusal refl).rest)
      whole = (h.refusal refl).beginning.parts ∙ ap (λ l. (h.refusal refl).beginning.front ++ l) (h.refusal refl).goes_on

      pub differs_where_refused : IsInputNormalized e d form units → ⊥
      differs_where_refused own =
          let r = h.refusal refl in
          let texts = IsText-normal_form d form suits.texts suits.scalars in
          let same : encoded_form e d form units ≡ units = (is_normalized_iff_encoded_form e d form units texts).0 own in
          stops (encoded_in e r.rest)
          (sym same ∙ ap (encoded_in e) whole ∙ encoded_in-append e r.beginning.front (r.piece ++ r.rest)
          ∙ ap (λ l. encoded_in e r.beginning.front ++ l) (encoded_in-append e r.piece r.rest))

      -- so it is no piece of the input: what came before would be normalized, and so come before it there
      single : (length (h.refusal refl).piece ≤ 1) ⊎ StandsInInput e d form units (h.refusal refl).beginning.front (h.refusal refl).piece → length (h.refusal refl).piece ≤ 1
      single (inl one) = one
      single (inr stands) =
          let r = h.refusal refl in
          let texts = IsText-normal_form d form suits.texts suits.scalars in
          let before : List ℕ = take stands.place units in
          let form_before : encoded_form e d form before ≡ encoded_in e r.beginning.front = ap (encoded_in e) (sym stands.form_before) in
          let own : IsInputNormalized e d form before =
          offered_is_normalized e d form suits.laws suits.are_nonempty texts units stands.place stands.boundary (new.remaining, parts ∙ ap (λ l. l ++ new.remaining) (sym form_before)) in
          let same : encoded_in e r.beginning.front ≡ before = sym form_before ∙ (is_normalized_iff_encoded_form e d form before texts).0 own in
          absurd
          (stops stands.next.0
          (sym (take-append-drop stands.place units) ∙ ap (λ l. l ++ drop stands.place units) (sym same) ∙ ap (λ l. encoded_in e r.beginning.front ++ l) stands.next.1))

      -- no longer front of the form is one of the units
      no_longer : (piece rest : List ℕ) → (h.refusal refl).piece ≡ piece → length piece ≤ 1 → text ≡ (h.refusal refl).beginning.front ++ (piece ++ rest)
          → (m : ℕ) → IsEncodedFront e d form units m (suc (length (h.refusal refl).beginning.front)) → ⊥
      no_longer [] rest is small goes m f =
          stops new.remaining (parts ∙ ap (λ l. encoded_in e (h.refusal refl).beginning.front ++ (l ++ new.remaining)) (sym (ap (encoded_in e) is ∙ encoded_in-nil e)))
      no_longer (c ∷ []) rest is small goes m f =
          let front : List ℕ = (h.refusal refl).beginning.front in
          let more : take (suc (length front)) text ≡ front ++ c ∷ [] =
          ap (take (suc (length front))) (goes ∙ sym (append_assoc front (c ∷ []) rest)) ∙ take_at (front ++ c ∷ []) rest (suc (length front)) (omega (arith, length-append front (c ∷ []))) in
          let begin : take m units ≡ encoded_in e front ++ encoded_in e (c ∷ []) = sym f.same ∙ ap (encoded_in e) more ∙ encoded_in-append e front (c ∷ []) in
          stops (drop m units)
          (sym (take-append-drop m units) ∙ ap (λ l. l ++ drop m units) begin ∙ append_assoc (encoded_in e front) (encoded_in e (c ∷ [])) (drop m units)
          ∙ ap (λ l. encoded_in e front ++ (encoded_in e l ++ drop m units)) (sym is))
      no_longer (c ∷ c' ∷ piece) rest is small goes m f = absurd (omega arith)

      -- as many units came as are not left
      count : length units - length new.remaining ≡ length (encoded_in e (h.refusal refl).beginning.front)
      count = omega (arith, ap length parts, length-append (encoded_in e (h.refusal refl).beginning.front) new.remaining)

      pub cut_where_refused : IsInputCut e d form units (length units - length new.remaining)
      cut_where_refused =
          let front : List ℕ = (h.refusal refl).beginning.front in
          let texts = IsText-normal_form d form suits.texts suits.scalars in
          let r = h.refusal refl in
          rw count
          (longest_encoded_is_cut e d form units suits.laws texts (length (encoded_in e front)) (length front)
          (record {
            within = omega (arith, ap length parts, length-append (encoded_in e front) new.remaining);
            characters = omega (arith, ap length whole, length-append front (r.piece ++ r.rest));
            same = ap (encoded_in e) (ap (take (length front)) whole ∙ take-append_seam front (r.piece ++ r.rest))
                ∙ sym (ap (take (length (encoded_in e front))) parts ∙ take-append_seam (encoded_in e front) new.remaining);
          })
          (no_longer r.piece r.rest refl (single r.kind) whole))

  -- ---- the first mismatch at the cut

  module _ (place : ℕ) (cut : IsInputCut e d form units place) where
    pub boundary_at_cut : IsBoundary (first_in e) units place
    boundary_at_cut = (boundary_of_front e units place cut.qualifies.within cut.qualifies.well_formed).boundary

    pub short_behind_cut : (f : ℕ → Bool) → HasShortRuns f d (decoded_in e units) → HasShortRuns f d (decoded_in e (drop place units))
    short_behind_cut f short =
        HasShortRuns-rest f d (decoded_in e (take place units)) (decoded_in e (drop place units)) (subst (HasShortRuns f d) (decoded-parts e units place cut.qualifies.well_formed) short)

    module _ (suits : SuitsTexts d form) (differs : IsInputNormalized e d form units → ⊥) where
      there : (found : ℕ) × (wanted : ℕ) × IsInputOffence e d form units place found wanted
      there =
          let o = input_offence_exists e d form suits.are_nonempty units differs in
          (o.1, o.2, subst (λ n. IsInputOffence e d form units n o.1 o.2) (input_cut_unique e d form units o.0 place o.3.cut cut) o.3)

      pub some_behind_cut : drop place units ≡ [] → ⊥
      some_behind_cut none =
          let at = there in
          let empty : [] ≡ at.0 ∷ at.2.is_found.0 = sym (decoded-nil e) ∙ sym (ap (decoded_in e) none) ∙ at.2.is_found.1 in
          cc

      pub wanted_behind_cut : normal_form d form (decoded_in e (drop place units)) ≡ [] → ⊥
      wanted_behind_cut none =
          let at = there in
          let empty : [] ≡ at.1 ∷ at.2.is_wanted.0 = sym none ∙ at.2.is_wanted.1 in
          cc

      pub offence_at_cut : (found wanted : ℕ) → IsFirst (decoded_in e (drop place units)) found → IsFirst (normal_form d form (decoded_in e (drop place units))) wanted
          → IsInputOffence e d form units place found wanted
      offence_at_cut found wanted first form_first = record { differs = differs; cut = cut; is_found = first; is_wanted = form_first }

    -- the step in front has the first character
    pub found_at : (rest : List ℕ) (s : Step) → IsFirstStep (first_in e) rest s → IsFirst (decoded_in e rest) s.character
    found_at rest s first = (
      decoded_in e (drop (first_in e rest).width rest),
      decoded-some e rest first.some ∙ ap (λ t. t.character ∷ decoded_in e (drop (first_in e rest).width rest)) (sym first.is),
    )

-- a mismatch lasts
pub IsLastingOffence-found : (m : MadeForm) (e : Encoding) (units : List ℕ) → SuitsTexts m.reading m.form → (answer : Option Offence)
    → IsInputOffenceOf e m.reading m.form units answer → IsLastingOffence m e units answer
IsLastingOffence-found m e units suits answer h = record {
  offence = h;
  differ = λ o is. input_found_differs e m.reading m.form suits.laws units o.place o.found o.wanted (subst (IsInputOffenceOf e m.reading m.form units) is h);
  lasts = λ w o is more.
      continued_input_offence e m.reading m.form suits.laws suits.are_nonempty units more o.place o.found o.wanted w
      (subst (IsInputOffenceOf e m.reading m.form units) is h);
}

-- the parts at the cut
pub IsSplitAtCut-parts : (m : MadeForm) (e : Encoding) (units : List ℕ) → SuitsTexts m.reading m.form → (place : ℕ) → IsInputCut e m.reading m.form units place
    → IsSplitAtCut m e units (take place units) (drop place units)
IsSplitAtCut-parts m e units suits place cut = record {
  parts = sym (take-append-drop place units);
  cut = subst (IsInputCut e m.reading m.form units) (sym (length-take-le place units cut.qualifies.within)) cut;
  own = front_at_input_cut e m.reading m.form suits.laws units place cut.qualifies;
  differs = rest_at_input_cut e m.reading m.form units place cut;
}

-- the cut, which is the end if the units are normalized
cut_or_length : (e : Encoding) (d : Reading) (form : Form) (units : List ℕ) (o : Option ℕ) → IsCutUnlessNormalized e d form units o → IsInputCut e d form units (unwrap_or o (length units))
cut_or_length e d form units None own = (is_normalized_iff_input_cut e d form units).0 own
cut_or_length e d form units (Some place) cut = cut.1

pub cut_or_end : (e : Encoding) (d : Reading) (form : Form) (units : List ℕ) (o : Option ℕ) (place end : ℕ) → IsCutUnlessNormalized e d form units o
    → place ≡ unwrap_or o end → end ≡ length units → IsInputCut e d form units place
cut_or_end e d form units o place end cut is len =
    subst (IsInputCut e d form units) (sym (is ∙ ap (unwrap_or o) len)) (cut_or_length e d form units o cut)
