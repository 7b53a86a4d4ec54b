-- The cut of an input of units: by characters it is a cut of the text that the units decode to, or the first error.
use Rattle.std.proofs.Common.{◌≡◌, ℕ, ◌+◌, ◌<◌, ◌≤◌, ◌⊎◌, ◌↔◌, false, List, [], ◌∷◌, ◌++◌, length, length-drop, length-take-le}
use Rattle.std.proofs.Common.{take, drop, inl, inr, refl, sym, ap, subst, ◌∙◌, arith, append_assoc, append-nil, length-append, take-append-drop, drop_of_length-le}
use Rattle.std.proofs.lemmas.Bool.{cases_Bool, cases_eq, cases_lt}
use Rattle.std.proofs.lemmas.List.{take_all}
use Rattle.std.proofs.lemmas.List.Elements.{All-nil, All-cons, All-take, All-append}
use Rattle.std.proofs.Math.Seq.{take-append_seam, drop-append_seam, take-length, drop-length}
use Rattle.normal_forms.specs.Reading.{Reading}
use Rattle.normal_forms.specs.declared.Form.{Form}
use Rattle.normal_forms.specs.Forms.{normal_form}
use Rattle.normal_forms.specs.Hypotheses.{SuitsForm}
use Rattle.normal_forms.specs.Cut.{QualifiesForCut, IsCut, IsCommonFront}
use Rattle.normal_forms.proofs.cuts.OffenceLemmas.{parts_of_form, cut_iff, smaller_qualifies}
use Rattle.normalizer_text.specs.DecodingSteps.{steps, IsBoundary, IsWellFormed, width_of}
use Rattle.normalizer_text.specs.Encodings.{Encoding, first_in, decoded_in}
use Rattle.normalizer_text.proofs.steps.StepBoundaries.{steps-parts, width_of-fewer}
use Rattle.normalizer_text.proofs.steps.StepLemmas.{decoded-nil, steps-some}
use Rattle.normal_forms.proofs.cuts.PlaceLemmas.{form_of_nothing, same_or_not, greatest_up_to}
use Rattle.normalizer_text.specs.InputCut.{IsInputNormalized, QualifiesForInputCut, IsInputCut, characters_before, IsErrorFreeBoundary, IsErrorAt}
use Rattle.normalizer_text.proofs.inputs.InputBoundaryLemmas.{cases_error_free}
use Rattle.normalizer_text.proofs.inputs.InputBoundaryLemmas.{length-decoded, IsWellFormed-nil, IsWellFormed-append, decoded-parts, boundary_of_front, front_of_boundary}

module _ (e : Encoding) where
  -- ---- characters before a boundary

  -- as many characters come before a boundary as steps
  pub characters_before-steps : (units : List ℕ) (n : ℕ) (b : IsBoundary (first_in e) units n) → characters_before e units n ≡ length b.before
  characters_before-steps units n b =
      length-decoded e (take n units) ∙ ap length (steps-parts e units n b).0

  -- of two boundaries the one with fewer characters before it comes first
  pub boundary-fewer : (units : List ℕ) (m n : ℕ) → IsBoundary (first_in e) units m → IsBoundary (first_in e) units n → characters_before e units m ≤ characters_before e units n → m ≤ n
  boundary-fewer units m n a b fewer =
      let ea = characters_before-steps units m a in
      let eb = characters_before-steps units n b in
      let le = width_of-fewer a.before a.after b.before b.after (sym a.apart ∙ b.apart) (omega arith) in
      let ta = a.taken in
      let tb = b.taken in
      omega arith

  -- no fewer characters come before the later one
  characters-fewer : (units : List ℕ) (m n : ℕ) → m ≤ n → IsErrorFreeBoundary e units m → IsErrorFreeBoundary e units n → characters_before e units m ≤ characters_before e units n
  characters-fewer units m n le a b =
      elim (cases_lt (characters_before e units n) (characters_before e units m)) [
        | inl more ↦
            let back = boundary-fewer units n m b.boundary a.boundary (omega arith) in
            let same : m ≡ n = omega arith in
            omega (arith, ap (characters_before e units) same)
        | inr at_most ↦ at_most
      ]

  -- the text of a well-formed front, and of the rest after it
  pub take-characters_before : (units : List ℕ) (n : ℕ) → IsWellFormed (first_in e) (take n units) → take (characters_before e units n) (decoded_in e units) ≡ decoded_in e (take n units)
  take-characters_before units n w =
      let p = decoded_in e (take n units) in
      ap (take (length p)) (decoded-parts e units n w) ∙ take-append_seam p (decoded_in e (drop n units))

  pub drop-characters_before : (units : List ℕ) (n : ℕ) → IsWellFormed (first_in e) (take n units) → drop (characters_before e units n) (decoded_in e units) ≡ decoded_in e (drop n units)
  drop-characters_before units n w =
      let p = decoded_in e (take n units) in
      ap (drop (length p)) (decoded-parts e units n w) ∙ drop-append_seam p (decoded_in e (drop n units))

  -- well-formed units have a boundary after each number of characters
  boundary_of_characters : (units : List ℕ) (k : ℕ) → IsWellFormed (first_in e) units → k ≤ length (decoded_in e units)
      → (n : ℕ) × IsErrorFreeBoundary e units n × (characters_before e units n ≡ k)
  boundary_of_characters units k w within =
      let ss = steps (first_in e) units in
      let b : IsErrorFreeBoundary e units (width_of (take k ss)) = record {
        boundary = record { before = take k ss; after = drop k ss; apart = sym (take-append-drop k ss); taken = refl };
        error_free = All-take (λ s. s.is_error ≡ false) k ss w;
      } in
      (width_of (take k ss), b, characters_before-steps units (width_of (take k ss)) b.boundary ∙ length-take-le k ss (omega (arith, length-decoded e units)))

  -- after a boundary at or before the first error comes that error, or a further such boundary with one more character
  -- before it
  goes_on : (units : List ℕ) (n : ℕ) → n < length units → IsErrorFreeBoundary e units n
      → ((m : ℕ) × IsErrorFreeBoundary e units m × (characters_before e units m ≡ characters_before e units n + 1)) ⊎ IsErrorAt e units n
  goes_on units n inside b =
      let s = first_in e (drop n units) in
      elim (cases_Bool s.is_error) [
        | inl error ↦ inr (record { within = inside; error = error })
        | inr fine ↦
            let before = b.boundary.before ++ s ∷ [] in
            let after = steps (first_in e) (drop s.width (drop n units)) in
            let behind : b.boundary.after ≡ s ∷ after =
            sym (steps-parts e units n b.boundary).1 ∙ steps-some e (drop n units) (omega (arith, length-drop n units)) in
            let next : IsErrorFreeBoundary e units (width_of before) = record {
              boundary = record {
                before = before;
                after = after;
                apart = b.boundary.apart ∙ ap (λ l. b.boundary.before ++ l) behind ∙ sym (append_assoc b.boundary.before (s ∷ []) after);
                taken = refl;
              };
              error_free = All-append (λ s. s.is_error ≡ false) b.boundary.before (s ∷ []) b.error_free (All-cons (λ s. s.is_error ≡ false) s [] fine (All-nil (λ s. s.is_error ≡ false)));
            } in
            let count = characters_before-steps units n b.boundary in
            let count_next = characters_before-steps units (width_of before) next.boundary in
            inl (width_of before, next, omega (arith, length-append b.boundary.before (s ∷ [])))
      ]

  module _ (d : Reading) (form : Form) where
    -- ---- which numbers qualify

    pub zero_input_qualifies : (units : List ℕ) → QualifiesForInputCut e d form units 0
    zero_input_qualifies units = record {
      within = omega arith;
      well_formed = IsWellFormed-nil e;
      keeps = ap (λ l. l ++ normal_form d form (decoded_in e units)) (decoded-nil e);
    }

    -- a number qualifies if it is a boundary at or before the first error, and the number of characters before it
    -- qualifies for the cut of the decoded text
    pub qualifies_iff_characters : (units : List ℕ) (n : ℕ)
        → QualifiesForInputCut e d form units n ↔ (IsErrorFreeBoundary e units n × QualifiesForCut d form (decoded_in e units) (characters_before e units n))
    qualifies_iff_characters units n = (
      λ q. (
        boundary_of_front e units n q.within q.well_formed,
        record {
          within = omega (arith, ap length (decoded-parts e units n q.well_formed), length-append (decoded_in e (take n units)) (decoded_in e (drop n units)));
          keeps = rw (take-characters_before units n q.well_formed, drop-characters_before units n q.well_formed) q.keeps;
        },
      ),
      λ b.
          let at = front_of_boundary e units n b.0 in
          record {
            within = at.0;
            well_formed = at.1;
            keeps = rw (take-characters_before units n at.1, drop-characters_before units n at.1) at b.1.keeps;
          },
    )

    -- so it does if the characters before it are a common front of the decoded text and its form
    pub qualifies_iff_front : SuitsForm d form → (units : List ℕ) (n : ℕ)
        → QualifiesForInputCut e d form units n ↔ (IsErrorFreeBoundary e units n × IsCommonFront (decoded_in e units) (normal_form d form (decoded_in e units)) (characters_before e units n))
    qualifies_iff_front suits units n =
        let by_characters = qualifies_iff_characters units n in
        let by_front = cut_iff d form suits (decoded_in e units) (characters_before e units n) in (
          λ q. let k = by_characters.0 q in (k.0, by_front.0 k.1),
          λ k. by_characters.1 (k.0, by_front.1 k.1),
        )

    -- every boundary before a number that qualifies qualifies
    pub smaller_input_qualifies : SuitsForm d form → (units : List ℕ) (m n : ℕ) → m ≤ n → IsErrorFreeBoundary e units m → QualifiesForInputCut e d form units n → QualifiesForInputCut e d form units m
    smaller_input_qualifies suits units m n le b q =
        let k = (qualifies_iff_characters units n).0 q in
        let fewer = characters-fewer units m n le b k.0 in
        (qualifies_iff_characters units m).1
        (b, smaller_qualifies d form suits (decoded_in e units) (characters_before e units m) (characters_before e units n) fewer k.1)

    -- ---- the cut

    pub input_cut_unique : (units : List ℕ) (m n : ℕ) → IsInputCut e d form units m → IsInputCut e d form units n → m ≡ n
    input_cut_unique units m n a b =
        let up = b.greatest m a.qualifies in let down = a.greatest n b.qualifies in omega arith

    cases_qualifies : (units : List ℕ) (n : ℕ) → QualifiesForInputCut e d form units n ⊎ ¬ QualifiesForInputCut e d form units n
    cases_qualifies units n =
        elim (cases_lt (length units) n) [
          | inl past ↦ inr (λ q. let le = q.within in omega arith)
          | inr within ↦
              elim (cases_error_free (steps (first_in e) (take n units))) [
                | inr wrong ↦ inr (λ q. wrong q.well_formed)
                | inl fine ↦
                    elim (same_or_not (decoded_in e (take n units) ++ normal_form d form (decoded_in e (drop n units))) (normal_form d form (decoded_in e units))) [
                      | inl same ↦ inl (record { within = within; well_formed = fine; keeps = same })
                      | inr other ↦ inr (λ q. other q.keeps)
                    ]
              ]
        ]

    pub input_cut_exists : (units : List ℕ) → (n : ℕ) × IsInputCut e d form units n
    input_cut_exists units =
        let found = greatest_up_to (QualifiesForInputCut e d form units) (zero_input_qualifies units) (cases_qualifies units) (length units) in
        (found.0, record { qualifies = found.1; greatest = λ m q. found.2 m q.within q })

    -- as many characters come before the cut as before that of the text, or fewer, and then an error is at it
    pub cut_ends : SuitsForm d form → (units : List ℕ) (n k : ℕ) → IsInputCut e d form units n → IsCut d form (decoded_in e units) k
        → (characters_before e units n ≤ k) × ((characters_before e units n ≡ k) ⊎ IsErrorAt e units n)
    cut_ends suits units n k input text =
        let here = (qualifies_iff_characters units n).0 input.qualifies in
        let at_most = text.greatest (characters_before e units n) here.1 in (
          at_most,
          elim (cases_lt (characters_before e units n) k) [
            | inr enough ↦ inl (omega arith)
            | inl fewer ↦
                elim (cases_lt n (length units)) [
                  | inr all ↦
                      let most = text.qualifies.within in
                      absurd (omega (arith, ap (λ u. length (decoded_in e u)) (take_all n units all)))
                  | inl inside ↦
                      elim (goes_on units n inside here.0) [
                        | inr wrong ↦ inr wrong
                        | inl next ↦
                            let count = next.2 in
                            let q = smaller_qualifies d form suits (decoded_in e units) (characters_before e units next.0) k (omega arith) text.qualifies in
                            let before = input.greatest next.0 ((qualifies_iff_characters units next.0).1 (next.1, q)) in
                            absurd (omega (arith, characters-fewer units next.0 n before next.1 here.0))
                      ]
                ]
          ],
        )

    -- ---- the parts at the cut

    pub front_at_input_cut : SuitsForm d form → (units : List ℕ) (n : ℕ) → QualifiesForInputCut e d form units n → IsInputNormalized e d form (take n units)
    front_at_input_cut suits units n q = record {
      well_formed = q.well_formed;
      own = (parts_of_form d form suits (decoded_in e units) (decoded_in e (take n units)) (normal_form d form (decoded_in e (drop n units))) (sym q.keeps)).0;
    }

    -- if the rest after a number that qualifies is normalized, so is the input
    pub normalized_from_rest : (units : List ℕ) (n : ℕ) → QualifiesForInputCut e d form units n → IsInputNormalized e d form (drop n units) → IsInputNormalized e d form units
    normalized_from_rest units n q rest =
        let parts = decoded-parts e units n q.well_formed in
        record {
          well_formed = subst (IsWellFormed (first_in e)) (take-append-drop n units) (IsWellFormed-append e (take n units) (drop n units) q.well_formed rest.well_formed);
          own = sym q.keeps ∙ ap (λ l. decoded_in e (take n units) ++ l) rest.own ∙ sym parts;
        }

    -- an input is normalized exactly if its cut is its length
    pub is_normalized_iff_input_cut : (units : List ℕ) → IsInputNormalized e d form units ↔ IsInputCut e d form units (length units)
    is_normalized_iff_input_cut units = (
      λ own. record {
        qualifies = record {
          within = omega arith;
          well_formed = subst (IsWellFormed (first_in e)) (sym (take-length units)) own.well_formed;
          keeps = rw (take-length units, drop-length units, decoded-nil e, form_of_nothing d form) (append-nil (decoded_in e units) ∙ sym own.own);
        };
        greatest = λ m q. q.within;
      },
      λ cut.
          let keeps = rw (take-length units, drop-length units, decoded-nil e, form_of_nothing d form) at cut.qualifies.keeps in
          record { well_formed = subst (IsWellFormed (first_in e)) (take-length units) cut.qualifies.well_formed; own = sym keeps ∙ append-nil (decoded_in e units) },
    )

    -- the rest at the cut is empty or not normalized
    pub rest_at_input_cut : (units : List ℕ) (n : ℕ) → IsInputCut e d form units n → IsInputNormalized e d form (drop n units) → drop n units ≡ []
    rest_at_input_cut units n cut own =
        let whole = (is_normalized_iff_input_cut units).0 (normalized_from_rest units n cut.qualifies own) in
        let same = input_cut_unique units n (length units) cut whole in
        drop_of_length-le units (omega arith)

    -- the cut of an input that is not normalized is below its length
    pub input_cut_below : (units : List ℕ) (n : ℕ) → (IsInputNormalized e d form units → ⊥) → IsInputCut e d form units n → n < length units
    input_cut_below units n differs cut =
        elim (cases_eq n (length units)) [
          | inl same ↦ absurd (differs ((is_normalized_iff_input_cut units).1 (subst (IsInputCut e d form units) same cut)))
          | inr other ↦ let le = cut.qualifies.within in omega arith
        ]

    -- ---- well-formed units

    -- the cut of well-formed units is that of their text
    pub cut_of_well_formed : (units : List ℕ) (n : ℕ) → IsWellFormed (first_in e) units → IsInputCut e d form units n → IsCut d form (decoded_in e units) (characters_before e units n)
    cut_of_well_formed units n w cut =
        let here = (qualifies_iff_characters units n).0 cut.qualifies in
        record {
          qualifies = here.1;
          greatest = λ k q.
              let at = boundary_of_characters units k w q.within in
              let there = (qualifies_iff_characters units at.0).1 (at.1, subst (QualifiesForCut d form (decoded_in e units)) (sym at.2) q) in
              let fewer = characters-fewer units at.0 n (cut.greatest at.0 there) at.1 here.0 in
              omega (arith, at.2);
        }
