-- The first refusal, and whether a character is checked.
use Rattle.std.proofs.Common.{◌≡◌, ℕ, ◌<◌, ◌↔◌, Bool, true, false, not, List, [], ◌∷◌, length, map, find, get_or, refl, ap, Option, None, Some, is_some, IsTrue, inl, inr, ◌⊎◌, arith, suc, sym, ◌∙◌}
use Rattle.std.specs.Prelude.{MatchOption}
use Rattle.std.specs.BTreeSet.{BTreeSet, contains}
use Rattle.std.specs.List.{AllByRecursion, list_any}
use Rattle.std.specs.Ordering.{nat_cmp}
use Rattle.std.proofs.lemmas.Bool.{true≢false}
use Rattle.std.proofs.lemmas.List.Elements.{All-cons, All-contains, All-nil}
use Rattle.std.proofs.lemmas.List.Folds.{Any-from_list_any, list_any_at}
use Rattle.normalizer_records.specs.Meaning.{status_of}
use Rattle.normalizer_records.specs.inner.Chains.{IsSetOf}
use Rattle.normalizer_records.specs.declared.at_fault.RecordAtFault.{RecordAtFault}
use Rattle.normalizer_records.specs.declared.records.BuildError.{BuildError}
use Rattle.normalizer_records.specs.declared.records.BuildError.TheVariants.{Order, Fixed, Class, Mapping, Chain, Length, Pair}
use Rattle.normalizer_records.specs.RecordValue.{RecordValue, Uts46RecordValue}
use Rattle.normalizer_records.specs.Faults.{AreMapperRising, AreRising, has_fixed_fault, HasFault, HasOrderFault, IsAsked, IsFirstRefusal, IsFirstWith, IsOnLongChain, mapped_to}
use Rattle.normalizer_records.specs.AtFault.{first_of, first_out_of_order}
use Rattle.normalizer_records.proofs.record_faults.FirstLemmas.{fall_if, rise_unless}

module _ {X : Type 0} (P : X → Type 0) where
  pub first_here : (x : X) (xs : List X) → P x → IsFirstWith P (x ∷ xs) (Some x)
  first_here x xs h = ([], xs, refl, All-nil (λ y. ¬ P y), h)

  pub first_next : (x : X) (xs : List X) (r : Option X) → ¬ P x → IsFirstWith P xs r → IsFirstWith P (x ∷ xs) r
  first_next x xs None other h = All-cons (λ y. ¬ P y) x xs other h
  first_next x xs (Some y) other h = (x ∷ h.0, h.1, ap (λ ys. x ∷ ys) h.2, All-cons (λ y. ¬ P y) x h.0 other h.3, h.4)

  -- by what shows each
  pub first_tested : {Y : Type 0} (Is : X → Option Y → Type 0) (tests : List (X × Option Y)) →
      AllByRecursion (λ t. Is t.0 t.1 × (IsTrue (is_some t.1) ↔ P t.0)) tests →
      MatchOption (find (λ t. is_some t.1) tests) (IsFirstWith P (map (λ t. t.0) tests) None)
      (λ t. IsFirstWith P (map (λ t. t.0) tests) (Some t.0) × Is t.0 t.1)
  first_tested Is [] h = All-nil (λ y. ¬ P y)
  first_tested Is ((x, Some y) ∷ tests) h = (first_here x (map (λ t. t.0) tests) (h.0.1.0 refl), h.0.0)
  first_tested Is ((x, None) ∷ tests) h = elim (find (λ t. is_some t.1) tests) as (λ o. MatchOption o (IsFirstWith P (map (λ t. t.0) tests) None)
      (λ t. IsFirstWith P (map (λ t. t.0) tests) (Some t.0) × Is t.0 t.1) → MatchOption o (IsFirstWith P (x ∷ map (λ t. t.0) tests) None)
      (λ t. IsFirstWith P (x ∷ map (λ t. t.0) tests) (Some t.0) × Is t.0 t.1)) [
        | None ↦ λ none. first_next x (map (λ t. t.0) tests) None other none
        | Some t ↦ λ some. (first_next x (map (λ t. t.0) tests) (Some t.0) other some.0, some.1)
      ] (first_tested Is tests h.1)
    where
      other : ¬ P x
      other is = true≢false (sym (h.0.1.1 is))

neither : (o p : Option ℕ) → first_of o p ≡ None → (o ≡ None) × (p ≡ None)
unfolding first_of
neither None None h = (refl, refl)
neither None (Some c) h = absurd cc
neither (Some c) p h = absurd cc

either_of : (o p : Option ℕ) (r : RecordAtFault) → first_of o p ≡ Some r → ((c : ℕ) × (o ≡ Some c)) ⊎ ((c : ℕ) × (p ≡ Some c))
unfolding first_of
either_of None None r h = absurd cc
either_of None (Some c) r h = inr (c, refl)
either_of (Some c) p r h = inl (c, refl)

-- the faults past the first two
abbrev pub others : List BuildError
others = Class ∷ Mapping ∷ Chain ∷ Length ∷ Pair ∷ []

module _ (records : List RecordValue) (uts46 : List Uts46RecordValue) where
  pub unrefused : IsFirstRefusal records uts46 None → (e : BuildError) → ¬ HasFault records uts46 e
  unfolding IsFirstRefusal HasFault
  unrefused none Order = none 0 Order (omega arith)
  unrefused none Fixed = none 1 Order (omega arith)
  unrefused none Class = none 2 Order (omega arith)
  unrefused none Mapping = none 3 Order (omega arith)
  unrefused none Chain = none 4 Order (omega arith)
  unrefused none Length = none 5 Order (omega arith)
  unrefused none Pair = none 6 Order (omega arith)
  unrefused none _ = λ fault. fault

  abbrev P : BuildError → Type 0
  P = HasFault records uts46

  -- the records rise exactly if no record is out of order
  pub in_order : first_out_of_order records uts46 ≡ None → AreRising records × AreMapperRising uts46
  unfolding first_out_of_order
  in_order h =
      let none = neither _ _ h in
      (rise_unless (λ (r : RecordValue). r.c) records none.0, rise_unless (λ (r : Uts46RecordValue). r.c) uts46 none.1)

  pub out_of_order : (r : RecordAtFault) → first_out_of_order records uts46 ≡ Some r → HasOrderFault records uts46
  unfolding first_out_of_order HasOrderFault
  out_of_order r h both = elim (either_of _ _ r h) as (λ _. ⊥) [
    | inl own ↦ fall_if (λ (r : RecordValue). r.c) records own.0 own.1 both.0
    | inr mapped ↦ fall_if (λ (r : Uts46RecordValue). r.c) uts46 mapped.0 mapped.1 both.1
  ]

  pub order_first : HasOrderFault records uts46 → IsFirstRefusal records uts46 (Some Order)
  unfolding HasFault IsFirstRefusal
  order_first h = first_here P Order (Fixed ∷ others) h

  -- records that rise, and what is tested of them
  module _ (rising : AreRising records) (mapper : AreMapperRising uts46) where
    behind_order : (xs : List BuildError) (r : Option BuildError) → IsFirstWith P xs r → IsFirstWith P (Order ∷ xs) r
    unfolding HasFault HasOrderFault
    behind_order xs r = first_next P Order xs r (λ h. h (rising, mapper))

    pub fixed_first : has_fixed_fault records uts46 ≡ true → IsFirstRefusal records uts46 (Some Fixed)
    unfolding HasFault IsFirstRefusal
    fixed_first h = behind_order (Fixed ∷ others) (Some Fixed) (first_here P Fixed others h)

    pub behind_fixed : has_fixed_fault records uts46 ≡ false → (r : Option BuildError) → IsFirstWith P others r → IsFirstRefusal records uts46 r
    unfolding HasFault IsFirstRefusal
    behind_fixed fixed r h = behind_order (Fixed ∷ others) r (first_next P Fixed others r (λ fault. true≢false (sym fault ∙ fixed)) h)

-- whether a character is checked, by the set of those on long chains
module _ (records : List RecordValue) (uts46 : List Uts46RecordValue) (long : BTreeSet ℕ) (is : IsSetOf (IsOnLongChain records) long) (c : ℕ) where
  abbrev among : Bool
  among = list_any (contains nat_cmp long) (c ∷ mapped_to (status_of uts46 c))

  pub not_asked : among ≡ true → (W : Type 0) → IsTrue false ↔ (IsAsked records uts46 c × W)
  not_asked h W = (λ e. absurd (true≢false (sym e)), λ both. absurd (never both.0))
    where
      never : IsAsked records uts46 c → ⊥
      never asked =
          let (k, m, within, at, has) = Any-from_list_any (contains nat_cmp long) (c ∷ mapped_to (status_of uts46 c)) h in
          All-contains (λ x. IsOnLongChain records x → ⊥) (c ∷ mapped_to (status_of uts46 c)) m
          (All-cons (λ x. IsOnLongChain records x → ⊥) c (mapped_to (status_of uts46 c)) asked.off_chain asked.mapped_off_chain) (k, within, at) ((is m).0 has)

  pub asked : among ≡ false → (W : Type 0) (b : Bool) → IsTrue b ↔ W → IsTrue b ↔ (IsAsked records uts46 c × W)
  asked h W b w = (λ e. (record { off_chain = never 0 c (omega arith); mapped_off_chain = λ k d within. never (suc k) d (omega arith) }, w.0 e), λ both. w.1 both.1)
    where
      never : (k d : ℕ) → k < length (c ∷ mapped_to (status_of uts46 c)) → IsOnLongChain records (get_or (c ∷ mapped_to (status_of uts46 c)) k d) → ⊥
      never k d within on = true≢false (sym (list_any_at (contains nat_cmp long) (c ∷ mapped_to (status_of uts46 c)) k d within ((is (get_or (c ∷ mapped_to (status_of uts46 c)) k d)).1 on)) ∙ h)

  pub decides_asked : (b : Bool) → b ≡ among → IsTrue (not b) ↔ IsAsked records uts46 c
  decides_asked true is = (
    λ e. absurd (true≢false (sym e)),
    λ checked. absurd (true≢false (sym ((not_asked (sym is) (Unit {0})).1 (checked, tt)))),
  )
  decides_asked false is = (λ _. ((asked (sym is) (Unit {0}) true (λ _. tt, λ _. refl)).0 refl).0, λ _. refl)
