-- The example of a reading whose results have other lists than their parts.
use Rattle.std.proofs.Common.{◌≡◌, ◌≢◌, ◌==◌, ℕ, List, [], ◌∷◌, All, inl, inr, refl, sym, ap, subst, ◌∙◌, arith}
use Rattle.std.proofs.lemmas.Bool.{cases_Bool, cond-true, cond-false}
use Rattle.std.proofs.lemmas.List.Elements.{All-nil, All-cons}
use Rattle.normal_forms.specs.Reading.{ReadsAsItself}
use Rattle.normal_forms.specs.Decomposition.{expand}
use Rattle.normal_forms.specs.Order.{is_reorderable, insert, order}
use Rattle.normal_forms.specs.Composition.{is_blocked, joined, visit, compose_from, compose}
use Rattle.normal_forms.specs.Cut.{IsFront, QualifiesForCut}
use Rattle.normal_forms.specs.declared.Form.TheVariants.{Composing}
use Rattle.normal_forms.specs.Forms.{nfd, nfc, normal_form, IsNormalized}
use Rattle.normal_forms.specs.Hypotheses.{HasFullLists, HasStarterResults, HasNonemptyLists}
use Rattle.normal_forms.proofs.cuts.PlaceLemmas.{form_of_nothing}
use Rattle.normal_forms.specs.Example.{unfaithful, unfaithful_list, unfaithful_pair}

-- a character has the list of one of the two, or itself
list_cases : (P : List ℕ → Type 0) (c : ℕ) → P (0x61 ∷ 0x62 ∷ 0x63 ∷ []) → P (0x64 ∷ []) → (unfaithful_list c ≡ c ∷ [] → P (c ∷ [])) → P (unfaithful_list c)
unfolding unfaithful_list
list_cases P c first second other =
    elim (cases_Bool (c == 0x41)) [
      | inl is ↦ subst P (sym (cond-true (c == 0x41) _ _ is)) first
      | inr isnt ↦ elim (cases_Bool (c == 0x42)) [
        | inl is ↦ subst P (sym (cond-false (c == 0x41) _ _ isnt ∙ cond-true (c == 0x42) _ _ is)) second
        | inr neither ↦ (let alone = cond-false (c == 0x41) _ _ isnt ∙ cond-false (c == 0x42) _ _ neither in subst P (sym alone) (other alone))
      ]
    ]

pub HasFullLists-unfaithful : HasFullLists unfaithful
unfolding unfaithful unfaithful_list
HasFullLists-unfaithful = record {
  members = λ c.
      let P : ℕ → Type 0 = ReadsAsItself unfaithful in
      list_cases (All P) c (All-cons P 0x61 (0x62 ∷ 0x63 ∷ []) refl (All-cons P 0x62 (0x63 ∷ []) refl (All-cons P 0x63 [] refl (All-nil P))))
      (All-cons P 0x64 [] refl (All-nil P)) (λ alone. All-cons P c [] alone (All-nil P));
}

pub HasStarterResults-unfaithful : HasStarterResults unfaithful
unfolding unfaithful
HasStarterResults-unfaithful = record { starters = λ a c r joins. refl }

pub HasNonemptyLists-unfaithful : HasNonemptyLists unfaithful
unfolding unfaithful
HasNonemptyLists-unfaithful = record { are_nonempty = λ c. list_cases (λ l. l ≢ []) c (λ e. cc) (λ e. cc) (λ alone e. cc) }

-- the forms of the first character, of the second, and of both
first_form : normal_form unfaithful Composing (0x41 ∷ []) ≡ 0x41 ∷ 0x63 ∷ []
unfolding normal_form nfc nfd expand order insert is_reorderable compose compose_from visit joined is_blocked unfaithful unfaithful_list unfaithful_pair
first_form = refl

second_form : normal_form unfaithful Composing (0x42 ∷ []) ≡ 0x64 ∷ []
unfolding normal_form nfc nfd expand order insert is_reorderable compose compose_from visit joined is_blocked unfaithful unfaithful_list unfaithful_pair
second_form = refl

whole_form : normal_form unfaithful Composing (0x41 ∷ 0x42 ∷ []) ≡ 0x41 ∷ 0x42 ∷ []
unfolding normal_form nfc nfd expand order insert is_reorderable compose compose_from visit joined is_blocked unfaithful unfaithful_list unfaithful_pair
whole_form = refl

nothing : normal_form unfaithful Composing [] ≡ []
nothing = form_of_nothing unfaithful Composing

pub IsFront-unfaithful : IsFront (0x41 ∷ []) (normal_form unfaithful Composing (0x41 ∷ []))
IsFront-unfaithful = (0x63 ∷ [], first_form)

pub apart-unfaithful : ¬ IsNormalized unfaithful Composing (0x41 ∷ [])
apart-unfaithful own = let clash = sym first_form ∙ own in cc

pub whole-unfaithful : QualifiesForCut unfaithful Composing (0x41 ∷ 0x42 ∷ []) 2
whole-unfaithful = record { within = omega arith; keeps = ap (λ l. 0x41 ∷ 0x42 ∷ l) nothing ∙ sym whole_form }

pub first-unfaithful : ¬ QualifiesForCut unfaithful Composing (0x41 ∷ 0x42 ∷ []) 1
first-unfaithful q =
    let keeps : 0x41 ∷ normal_form unfaithful Composing (0x42 ∷ []) ≡ normal_form unfaithful Composing (0x41 ∷ 0x42 ∷ []) = q.keeps in
    let one : List ℕ = 0x41 ∷ 0x64 ∷ [] in
    let two : List ℕ = 0x41 ∷ 0x42 ∷ [] in
    let clash : one ≡ two = sym (ap (λ l. 0x41 ∷ l) second_form) ∙ keeps ∙ whole_form in
    cc
