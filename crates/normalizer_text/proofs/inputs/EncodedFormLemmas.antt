-- Fronts of the form, encoded as the units are, and fronts of the units.
use Rattle.std.proofs.Common.{◌≡◌, ℕ, suc, ◌≤◌, ◌↔◌, List, ◌++◌, length, take, drop, inl}
use Rattle.std.proofs.Common.{inr, refl, sym, ap, subst, ◌∙◌, arith, length-append, length-take-le, take-append-drop, append_assoc, take-take}
use Rattle.std.specs.Char.{IsScalar}
use Rattle.std.proofs.lemmas.Bool.{cases_lt}
use Rattle.std.proofs.lemmas.List.{take_at}
use Rattle.std.proofs.lemmas.List.Elements.{All-take}
use Rattle.std.proofs.Math.Seq.{take-append_seam, take-length}
use Rattle.normal_forms.specs.Reading.{Reading, IsText}
use Rattle.normal_forms.specs.declared.Form.{Form}
use Rattle.normal_forms.specs.Forms.{normal_form, IsNormalized}
use Rattle.normal_forms.specs.Hypotheses.{HasNonemptyLists, SuitsForm}
use Rattle.normal_forms.specs.Cut.{IsCommonFront, IsFront}
use Rattle.normal_forms.proofs.cuts.OffenceLemmas.{common_front_from, offered_front_is_normalized}
use Rattle.normalizer_text.specs.DecodingSteps.{IsWellFormed, IsBoundary}
use Rattle.normalizer_text.specs.Encodings.{Encoding, first_in, encoded_in, decoded_in}
use Rattle.normalizer_text.proofs.rules.EncodingLemmas.{DecodesBack-in, encoded-decoded, encoded_in-append}
use Rattle.normalizer_text.proofs.steps.StepLemmas.{decoded-IsText}
use Rattle.normalizer_text.proofs.steps.StepBoundaries.{boundary-end, decoded-take-drop}
use Rattle.normalizer_text.specs.InputCut.{IsInputNormalized, IsInputCut, characters_before, IsErrorFreeBoundary}
use Rattle.normalizer_text.specs.EncodedForm.{encoded_form, IsEncodedFront}
use Rattle.normalizer_text.proofs.inputs.InputBoundaryLemmas.{decoded-parts, boundary_of_front, front_of_boundary}
use Rattle.normalizer_text.proofs.inputs.InputCutLemmas.{take-characters_before, boundary-fewer, qualifies_iff_front}

-- the form of each text is a text
abbrev HasTextForms : Reading → Form → Type 0
HasTextForms d form = (x : List ℕ) → IsText x → IsText (normal_form d form x)

module _ (e : Encoding) (d : Reading) (form : Form) (units : List ℕ) where
  abbrev text : List ℕ
  text = decoded_in e units

  abbrev form_of_text : List ℕ
  form_of_text = normal_form d form (decoded_in e units)

  IsText-form : HasTextForms d form → IsText (normal_form d form (decoded_in e units))
  IsText-form texts = texts (decoded_in e units) (decoded-IsText e units)

  -- units are normalized exactly if they are the encoding of the form of what they decode to
  pub is_normalized_iff_encoded_form : HasTextForms d form → IsInputNormalized e d form units ↔ (encoded_form e d form units ≡ units)
  is_normalized_iff_encoded_form texts = (
    λ own. ap (encoded_in e) own.own ∙ encoded-decoded e units own.well_formed,
    λ same.
        let back = DecodesBack-in e form_of_text (IsText-form texts) in
        record { well_formed = subst (IsWellFormed (first_in e)) same back.well_formed; own = sym back.text ∙ ap (decoded_in e) same },
  )

  -- ---- fronts

  -- a front of the form is at the front of the units exactly if a common front ends at a boundary
  pub boundary_of_encoded : HasTextForms d form → (n k : ℕ) → IsEncodedFront e d form units n k → IsErrorFreeBoundary e units n × (characters_before e units n ≡ k) × IsCommonFront text form_of_text k
  boundary_of_encoded texts n k f =
      let front : List ℕ = take k form_of_text in
      let back = DecodesBack-in e front (All-take IsScalar k form_of_text (IsText-form texts)) in
      let w : IsWellFormed (first_in e) (take n units) = subst (IsWellFormed (first_in e)) f.same back.well_formed in
      let decodes : decoded_in e (take n units) ≡ front = sym (ap (decoded_in e) f.same) ∙ back.text in
      let size : length front ≡ k = length-take-le k form_of_text f.characters in (
        boundary_of_front e units n f.within w,
        ap length decodes ∙ size,
        common_front_from text form_of_text front (decoded_in e (drop n units)) (drop k form_of_text) k size
            (ap (λ l. l ++ decoded_in e (drop n units)) (sym decodes) ∙ sym (decoded-parts e units n w))
            (take-append-drop k form_of_text),
      )

  pub encoded_of_boundary : (n k : ℕ) → IsErrorFreeBoundary e units n → characters_before e units n ≡ k → IsCommonFront text form_of_text k → IsEncodedFront e d form units n k
  encoded_of_boundary n k b count front =
      let at = front_of_boundary e units n b in
      record {
        within = at.0;
        characters = front.within_second;
        same = ap (encoded_in e) (sym front.same ∙ ap (λ m. take m text) (sym count) ∙ take-characters_before e units n at.1) ∙ encoded-decoded e (take n units) at.1;
      }

  -- it is a front of the units, and ends where its own units do
  pub encoded_iff_front : (n k : ℕ)
      → IsEncodedFront e d form units n k ↔ ((k ≤ length form_of_text) × IsFront (encoded_in e (take k form_of_text)) units × (n ≡ length (encoded_in e (take k form_of_text))))
  encoded_iff_front n k = (
    λ f. (
      f.characters,
      (drop n units, sym (take-append-drop n units) ∙ ap (λ l. l ++ drop n units) (sym f.same)),
      sym (ap length f.same ∙ length-take-le n units f.within),
    ),
    λ f.
        let front : List ℕ = encoded_in e (take k form_of_text) in
        let rest : List ℕ = f.1.0 in
        let whole : units ≡ front ++ rest = f.1.1 in
        let ends : n ≡ length front = f.2 in
        record {
          within = omega (arith, ap length whole, length-append front rest);
          characters = f.0;
          same = sym (ap (take n) whole ∙ take_at front rest n (sym ends));
        },
  )

  -- and so does each shorter one
  pub encoded-fewer : (n k j : ℕ) → IsEncodedFront e d form units n k → j ≤ k → (m : ℕ) × IsEncodedFront e d form units m j × (m ≤ n)
  encoded-fewer n k j f le =
      let shorter : List ℕ = encoded_in e (take j form_of_text) in
      let between : List ℕ = encoded_in e (drop j (take k form_of_text)) in
      let front : shorter ++ between ≡ take n units =
      ap (λ l. encoded_in e l ++ between) (sym (take-take j k form_of_text le))
      ∙ sym (encoded_in-append e (take j (take k form_of_text)) (drop j (take k form_of_text)))
      ∙ ap (encoded_in e) (take-append-drop j (take k form_of_text))
      ∙ f.same in
      let whole : units ≡ shorter ++ (between ++ drop n units) =
      sym (take-append-drop n units) ∙ ap (λ l. l ++ drop n units) (sym front) ∙ append_assoc shorter between (drop n units) in
      let m = length shorter in
      let less : m ≤ n = omega (arith, ap length front, length-append shorter between, length-take-le n units f.within) in (
        m,
        record {
          within = (let most = f.within in omega arith);
          characters = (let most = f.characters in omega arith);
          same = sym (ap (take m) whole ∙ take-append_seam shorter (between ++ drop n units));
        },
        less,
      )

  -- the longest of them ends at the cut
  pub longest_encoded_is_cut : SuitsForm d form → HasTextForms d form → (n k : ℕ) → IsEncodedFront e d form units n k
      → ((m : ℕ) → IsEncodedFront e d form units m (suc k) → ⊥) → IsInputCut e d form units n
  longest_encoded_is_cut suits texts n k f stops =
      let here = boundary_of_encoded texts n k f in
      record {
        qualifies = (qualifies_iff_front e d form suits units n).1 (here.0, subst (IsCommonFront text form_of_text) (sym here.1) here.2);
        greatest = λ m q.
            let there = (qualifies_iff_front e d form suits units m).0 q in
            elim (cases_lt k (characters_before e units m)) [
              | inl more ↦
                  let longer = encoded_of_boundary m (characters_before e units m) there.0 refl there.1 in
                  let next = encoded-fewer m (characters_before e units m) (suc k) longer (omega arith) in
                  absurd (stops next.0 next.1)
              | inr at_most ↦ boundary-fewer e units m n there.0.boundary here.0.boundary (omega (arith, here.1))
            ];
      }

-- ---- input that is offered piece by piece

module _ (e : Encoding) (d : Reading) (form : Form) (suits : SuitsForm d form) (are_nonempty : HasNonemptyLists d) (texts : HasTextForms d form) where
  pub offered_is_normalized : (units : List ℕ) (n : ℕ) → IsBoundary (first_in e) units n → IsFront (encoded_form e d form (take n units)) units → IsInputNormalized e d form (take n units)
  offered_is_normalized units n b offered =
      let x : List ℕ = decoded_in e (take n units) in
      let y : List ℕ = normal_form d form x in
      let m = length (encoded_in e y) in
      let back = DecodesBack-in e y (texts x (decoded-IsText e (take n units))) in
      let front : take m units ≡ encoded_in e y = ap (take m) offered.1 ∙ take-append_seam (encoded_in e y) offered.0 in
      let w : IsWellFormed (first_in e) (take m units) = subst (IsWellFormed (first_in e)) (sym front) back.well_formed in
      let text : decoded_in e (take m units) ≡ y = ap (decoded_in e) front ∙ back.text in
      let own : IsNormalized d form x =
      offered_front_is_normalized d form suits are_nonempty x (decoded_in e (drop n units))
      (decoded_in e (drop m units), sym (decoded-take-drop e units n b) ∙ decoded-parts e units m w ∙ ap (λ l. l ++ decoded_in e (drop m units)) text) in
      -- as many characters come before the two boundaries
      let there = (boundary_of_front e units m (omega (arith, ap length offered.1, length-append (encoded_in e y) offered.0)) w).boundary in
      let count : characters_before e units m ≡ characters_before e units n = ap length (text ∙ own) in
      let low = boundary-fewer e units m n there b (omega arith) in
      let high = boundary-fewer e units n m b there (omega arith) in
      let same : m ≡ n = omega arith in
      record { well_formed = subst (λ k. IsWellFormed (first_in e) (take k units)) same w; own = own }

  -- the form of the whole does not end before the units do
  pub form_ends_with_units : (units : List ℕ) → IsFront (encoded_form e d form units) units → encoded_form e d form units ≡ units
  form_ends_with_units units offered =
      let all = take-length units in
      let own =
      offered_is_normalized units (length units) (boundary-end e units)
      (subst (λ u. IsFront (encoded_form e d form u) units) (sym all) offered) in
      (is_normalized_iff_encoded_form e d form units texts).0 (subst (IsInputNormalized e d form) all own)
