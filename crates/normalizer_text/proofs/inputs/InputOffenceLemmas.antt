-- The first mismatch of an input of units, and of the input with a continuation.
use Rattle.std.proofs.Common.{◌≡◌, ◌≢◌, ℕ, ◌≤◌, ◌⊎◌, ◌↔◌, List, ◌∷◌, ◌++◌, length, take, drop}
use Rattle.std.proofs.Common.{Option, Some, None, slice_get, inl, inr, refl, sym, ap, subst, ◌∙◌, arith, length-append, length-drop}
use Rattle.std.proofs.lemmas.Bool.{cases_eq}
use Rattle.std.proofs.lemmas.List.{take-append-le}
use Rattle.normal_forms.specs.Reading.{Reading}
use Rattle.normal_forms.specs.declared.Form.{Form}
use Rattle.normal_forms.specs.Forms.{normal_form}
use Rattle.normal_forms.specs.Hypotheses.{HasNonemptyLists, SuitsForm}
use Rattle.normal_forms.specs.Cut.{QualifiesForCut, IsCut}
use Rattle.normal_forms.specs.Offence.{IsFirst, IsFirstOffence}
use Rattle.normal_forms.proofs.cuts.OffenceLemmas.{found_differs, parts_of_form, continued_cut}
use Rattle.normalizer_text.specs.DecodingSteps.{IsWellFormed}
use Rattle.normalizer_text.specs.Encodings.{Encoding, first_in, decoded_in}
use Rattle.normalizer_text.proofs.steps.StepLemmas.{decoded-some, decoded-append}
use Rattle.normal_forms.proofs.cuts.PlaceLemmas.{cases_first, cut_of, cut_unique, first_unique, form_is_nothing, normalized_iff_cut, at_seam}
use Rattle.normalizer_text.specs.InputCut.{IsInputNormalized, IsInputCut, characters_before, IsErrorAt}
use Rattle.normalizer_text.specs.InputOffence.{IsInputOffence, IsInputOffenceOf}
use Rattle.normalizer_text.specs.declared.offence.Offence.{Offence}
use Rattle.normalizer_text.proofs.inputs.InputBoundaryLemmas.{IsWellFormed-rest, decoded-parts, boundary_of_front}
use Rattle.normalizer_text.proofs.inputs.InputCutLemmas.{boundary-fewer, drop-characters_before, qualifies_iff_characters, input_cut_exists}
use Rattle.normalizer_text.proofs.inputs.InputCutLemmas.{input_cut_unique, cut_ends, input_cut_below, is_normalized_iff_input_cut, cut_of_well_formed}

first_behind : (front rest whole : List ℕ) (c : ℕ) → whole ≡ front ++ rest → IsFirst rest c → slice_get whole (length front) ≡ Some c
first_behind front rest whole c parts first = ap (λ l. slice_get l (length front)) (parts ∙ ap (λ l. front ++ l) first.1) ∙ at_seam front first.0 (length front) c refl

module _ (e : Encoding) (d : Reading) (form : Form) where
  pub input_offence_unique : (units : List ℕ) (place found wanted place' found' wanted' : ℕ) → IsInputOffence e d form units place found wanted
      → IsInputOffence e d form units place' found' wanted' → (place ≡ place') × (found ≡ found') × (wanted ≡ wanted')
  input_offence_unique units place found wanted place' found' wanted' a b =
      let same : place ≡ place' = input_cut_unique e d form units place place' a.cut b.cut in (
        same,
        first_unique (decoded_in e (drop place' units)) found found' (subst (λ n. IsFirst (decoded_in e (drop n units)) found) same a.is_found) b.is_found,
        first_unique (normal_form d form (decoded_in e (drop place' units))) wanted wanted'
            (subst (λ n. IsFirst (normal_form d form (decoded_in e (drop n units))) wanted) same a.is_wanted) b.is_wanted,
      )

  -- ---- the first mismatch

  pub input_offence_exists : HasNonemptyLists d → (units : List ℕ) → (IsInputNormalized e d form units → ⊥)
      → (place : ℕ) × (found : ℕ) × (wanted : ℕ) × IsInputOffence e d form units place found wanted
  input_offence_exists are_nonempty units differs =
      let at = input_cut_exists e d form units in
      let below = input_cut_below e d form units at.0 differs at.1 in
      let rest : List ℕ = drop at.0 units in
      let s = first_in e rest in
      let found : decoded_in e rest ≡ s.character ∷ decoded_in e (drop s.width rest) = decoded-some e rest (omega (arith, length-drop at.0 units)) in
      elim (cases_first (normal_form d form (decoded_in e rest))) [
        | inl none ↦ let nothing = form_is_nothing d form are_nonempty (decoded_in e rest) none in absurd cc
        | inr wanted ↦ (
          at.0,
          s.character,
          wanted.0,
          record { differs = differs; cut = at.1; is_found = (decoded_in e (drop s.width rest), found); is_wanted = wanted.1 },
        )
      ]

  -- ---- the first mismatch of the decoded text

  -- if as many characters come before an input mismatch as before the cut of the text, it is the text's
  text_offence : (units : List ℕ) (place found wanted : ℕ) → IsInputOffence e d form units place found wanted
      → IsCut d form (decoded_in e units) (characters_before e units place) → IsFirstOffence d form (decoded_in e units) (characters_before e units place) found wanted
  text_offence units place found wanted offence cut =
      let x : List ℕ = decoded_in e units in
      let k : ℕ = characters_before e units place in
      let rest : drop k x ≡ decoded_in e (drop place units) = drop-characters_before e units place offence.cut.qualifies.well_formed in
      let is_found : IsFirst (drop k x) found = subst (λ l. IsFirst l found) (sym rest) offence.is_found in
      record {
        differs = λ own.
            let whole = cut_unique d form x (length x) k ((normalized_iff_cut d form x).0 own) cut in
            let some : length (drop k x) ≡ length (found ∷ is_found.0) = ap length is_found.1 in
            omega (arith, length-drop k x);
        cut = cut;
        is_found = is_found;
        is_wanted = subst (λ l. IsFirst (normal_form d form l) wanted) (sym rest) offence.is_wanted;
      }

  -- the character found is not the one expected, or an error is at the place
  pub input_found_differs : SuitsForm d form → (units : List ℕ) (place found wanted : ℕ) → IsInputOffence e d form units place found wanted → (found ≢ wanted) ⊎ IsErrorAt e units place
  input_found_differs suits units place found wanted offence =
      let text = cut_of d form (decoded_in e units) in
      elim (cut_ends e d form suits units place text.0 offence.cut text.1).1 [
        | inl same ↦
            let cut : IsCut d form (decoded_in e units) (characters_before e units place) = subst (IsCut d form (decoded_in e units)) (sym same) text.1 in
            inl (found_differs d form suits (decoded_in e units) (characters_before e units place) found wanted (text_offence units place found wanted offence cut))
        | inr wrong ↦ inr wrong
      ]

  -- ---- well-formed inputs

  -- the first mismatch of a well-formed input is that of its text
  pub offence_of_well_formed : (units : List ℕ) (place found wanted : ℕ) → IsWellFormed (first_in e) units
      → IsInputOffence e d form units place found wanted → IsFirstOffence d form (decoded_in e units) (characters_before e units place) found wanted
  offence_of_well_formed units place found wanted w offence =
      text_offence units place found wanted offence (cut_of_well_formed e d form units place w offence.cut)

  -- ---- continuations

  -- the well-formed parts of an input that is normalized are normalized
  pub parts_of_normalized : SuitsForm d form → (front rest : List ℕ) → IsWellFormed (first_in e) front → IsInputNormalized e d form (front ++ rest)
      → IsInputNormalized e d form front × IsInputNormalized e d form rest
  parts_of_normalized suits front rest w own =
      let x : List ℕ = decoded_in e front in
      let y : List ℕ = decoded_in e rest in
      let apart : decoded_in e (front ++ rest) ≡ x ++ y = decoded-append e front rest w in
      let parts = parts_of_form d form suits (decoded_in e (front ++ rest)) x y (own.own ∙ apart) in (
        record { well_formed = w; own = parts.0 },
        record { well_formed = IsWellFormed-rest e front rest w own.well_formed; own = parts.1 },
      )

  -- if a well-formed input is not normalized, no continuation makes it so
  pub continued_input_differs : SuitsForm d form → (units more : List ℕ) → IsWellFormed (first_in e) units → (IsInputNormalized e d form units → ⊥) → IsInputNormalized e d form (units ++ more) → ⊥
  continued_input_differs suits units more w differs own = differs (parts_of_normalized suits units more w own).0

  -- if a well-formed input is not normalized, no continuation moves its cut to a later place
  pub continued_input_cut : SuitsForm d form → (units more : List ℕ) (n m : ℕ) → IsWellFormed (first_in e) units
      → (IsInputNormalized e d form units → ⊥) → IsInputCut e d form units n → IsInputCut e d form (units ++ more) m → m ≤ n
  continued_input_cut suits units more n m w differs cut longer =
      let x : List ℕ = decoded_in e units in
      let y : List ℕ = decoded_in e more in
      let apart : decoded_in e (units ++ more) ≡ x ++ y = decoded-append e units more w in
      let text = cut_of_well_formed e d form units n w cut in
      let text_longer = cut_of d form (x ++ y) in
      let same : take n (units ++ more) ≡ take n units = take-append-le n units more cut.qualifies.within in
      let within = cut.qualifies.within in
      let here = boundary_of_front e (units ++ more) n (omega (arith, length-append units more)) (subst (IsWellFormed (first_in e)) (sym same) cut.qualifies.well_formed) in
      let there = (qualifies_iff_characters e d form (units ++ more) m).0 longer.qualifies in
      let most = text_longer.1.greatest (characters_before e (units ++ more) m) (subst (λ l. QualifiesForCut d form l (characters_before e (units ++ more) m)) apart there.1) in
      let fewer = continued_cut d form suits x y (characters_before e units n) text_longer.0 (λ own. differs (record { well_formed = w; own = own })) text text_longer.1 in
      boundary-fewer e (units ++ more) m n there.0.boundary here.boundary (omega (arith, ap (λ u. length (decoded_in e u)) same))

  -- if a well-formed input has a first mismatch, it has one no later with every continuation
  pub continued_input_offence : SuitsForm d form → HasNonemptyLists d → (units more : List ℕ) (place found wanted : ℕ)
      → IsWellFormed (first_in e) units → IsInputOffence e d form units place found wanted
      → (place' : ℕ) × (found' : ℕ) × (wanted' : ℕ) × IsInputOffence e d form (units ++ more) place' found' wanted' × (place' ≤ place)
  continued_input_offence suits are_nonempty units more place found wanted w offence =
      let longer = input_offence_exists are_nonempty (units ++ more) (continued_input_differs suits units more w offence.differs) in
      (longer.0, longer.1, longer.2, longer.3, continued_input_cut suits units more place longer.0 w offence.differs offence.cut longer.3.cut)

  -- ---- the result of a search

  pub offence_of_exists : HasNonemptyLists d → (units : List ℕ) → (answer : Option Offence) × IsInputOffenceOf e d form units answer
  offence_of_exists are_nonempty units =
      let at = input_cut_exists e d form units in
      elim (cases_eq at.0 (length units)) [
        | inl same ↦ (None, (is_normalized_iff_input_cut e d form units).1 (subst (IsInputCut e d form units) same at.1))
        | inr other ↦
            let found =
            input_offence_exists are_nonempty units
            (λ own. other (input_cut_unique e d form units at.0 (length units) at.1 ((is_normalized_iff_input_cut e d form units).0 own))) in
            (Some (record { place = found.0; found = found.1; wanted = found.2 }), found.3)
      ]

  pub offence_of_unique : (units : List ℕ) (one other : Option Offence) → IsInputOffenceOf e d form units one → IsInputOffenceOf e d form units other → one ≡ other
  offence_of_unique units None None a b = refl
  offence_of_unique units None (Some o) a b = absurd (b.differs a)
  offence_of_unique units (Some o) None a b = absurd (a.differs b)
  offence_of_unique units (Some o) (Some p) a b =
      let same = input_offence_unique units o.place o.found o.wanted p.place p.found p.wanted a b in
      ap (λ n. Some (record { place = n; found = o.found; wanted = o.wanted })) same.0
      ∙ ap (λ c. Some (record { place = p.place; found = c; wanted = o.wanted })) same.1
      ∙ ap (λ c. Some (record { place = p.place; found = p.found; wanted = c })) same.2

  pub none_iff_normalized : (units : List ℕ) (answer : Option Offence) → IsInputOffenceOf e d form units answer → (answer ≡ None) ↔ IsInputNormalized e d form units
  none_iff_normalized units None a = (λ _. a, λ _. refl)
  none_iff_normalized units (Some o) a = (λ k. cc, λ own. absurd (a.differs own))

  -- the character found is that of the text, and the character wanted that of its form
  pub found_in_text : (units : List ℕ) (place found wanted : ℕ) → IsInputOffence e d form units place found wanted
      → slice_get (decoded_in e units) (characters_before e units place) ≡ Some found
  found_in_text units place found wanted o =
      first_behind (decoded_in e (take place units)) (decoded_in e (drop place units)) (decoded_in e units) found (decoded-parts e units place o.cut.qualifies.well_formed) o.is_found

  pub wanted_in_form : (units : List ℕ) (place found wanted : ℕ) → IsInputOffence e d form units place found wanted
      → slice_get (normal_form d form (decoded_in e units)) (characters_before e units place) ≡ Some wanted
  wanted_in_form units place found wanted o =
      first_behind (decoded_in e (take place units)) (normal_form d form (decoded_in e (drop place units))) (normal_form d form (decoded_in e units)) wanted (sym o.cut.qualifies.keeps) o.is_wanted
