-- The example of a reading satisfies the hypotheses of the laws.
use Rattle.std.proofs.Common.{◌≡◌, ◌==◌, ◌&&◌, ℕ, true, false, [], ◌∷◌, ◌++◌, Option, Some, None, All, refl, sym, ◌∙◌, ap, ⊎_elim}
use Rattle.std.proofs.lemmas.Bool.{cases_Bool, cond-true, cond-false, eqb-true, and_parts}
use Rattle.std.proofs.lemmas.List.Elements.{All-nil, All-cons, All-same}
use Rattle.normal_forms.specs.Reading.{ReadsAsItself}
use Rattle.normal_forms.specs.Order.{is_reorderable, insert, order}
use Rattle.normal_forms.specs.Hypotheses.{HasFullLists, HasStarterResults, HasFaithfulResults, HasNonemptyLists}
use Rattle.normal_forms.specs.Example.{example, example_list, example_class, example_pair}

list-composite : (c : ℕ) → (c == 0xE4) ≡ true → example_list c ≡ 0x61 ∷ 0x308 ∷ []
unfolding example_list
list-composite c h = cond-true (c == 0xE4) (0x61 ∷ 0x308 ∷ []) (c ∷ []) h

list-other : (c : ℕ) → (c == 0xE4) ≡ false → example_list c ≡ c ∷ []
unfolding example_list
list-other c h = cond-false (c == 0xE4) (0x61 ∷ 0x308 ∷ []) (c ∷ []) h

pub HasFullLists-example : HasFullLists example
unfolding example example_list
HasFullLists-example = record {
  members = λ c.
      let P : ℕ → Type 0 = ReadsAsItself example in
      let at_composite : All P (0x61 ∷ 0x308 ∷ []) = All-cons P 0x61 (0x308 ∷ []) refl (All-cons P 0x308 [] refl (All-nil P)) in
      ⊎_elim (λ h. All-same P (example_list c) (0x61 ∷ 0x308 ∷ []) (list-composite c h) at_composite)
      (λ h. All-same P (example_list c) (c ∷ []) (list-other c h) (All-cons P c [] (list-other c h) (All-nil P))) (cases_Bool (c == 0xE4));
}

-- there is one pair
only_pair : (a c r : ℕ) → example_pair a c ≡ Some r → (a ≡ 0x61) × (c ≡ 0x308) × (r ≡ 0xE4)
unfolding example_pair
only_pair a c r h =
    let composite : Option ℕ = Some 0xE4 in
    ⊎_elim (λ (both : (a == 0x61 && c == 0x308) ≡ true).
    let parts = and_parts (a == 0x61) (c == 0x308) both in
    let there = cond-true (a == 0x61 && c == 0x308) composite None both in
    let same : composite ≡ Some r = sym there ∙ h in
    (eqb-true a 0x61 parts.0, eqb-true c 0x308 parts.1, cc)) (λ (apart : (a == 0x61 && c == 0x308) ≡ false).
    let absent = cond-false (a == 0x61 && c == 0x308) composite None apart in
    let same : None ≡ Some r = sym absent ∙ h in
    cc) (cases_Bool (a == 0x61 && c == 0x308))

pub HasStarterResults-example : HasStarterResults example
unfolding example example_class
HasStarterResults-example = record { starters = λ a c r h. ap example_class (only_pair a c r h).2 }

pub HasFaithfulResults-example : HasFaithfulResults example
unfolding example example_list example_class order insert is_reorderable
HasFaithfulResults-example = record {
  results = λ a c r h.
      let only = only_pair a c r h in
      ap example_list only.2 ∙ sym (ap (λ y. order example (example_list y ++ example_list c)) only.0 ∙ ap (λ y. order example (example_list 0x61 ++ example_list y)) only.1);
}

pub HasNonemptyLists-example : HasNonemptyLists example
unfolding example
HasNonemptyLists-example = record {
  are_nonempty = λ c empty. ⊎_elim (λ h. let at = list-composite c h in cc) (λ h. let at = list-other c h in cc) (cases_Bool (c == 0xE4));
}
