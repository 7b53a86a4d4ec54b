-- What is packed of the same records is the same, and the order of pairs makes no difference.
use Rattle.std.proofs.Common.{◌≡◌, ◌⊎◌, inl, inr, ℕ, zero, suc, ◌<◌, Bool, true, false, List, [], ◌∷◌, map, find, get_or, All, AllPairs, Contains, IsPermutation, Some, refl, ap}
use Rattle.std.proofs.Common.{sym, subst, ◌∙◌, arith}
use Rattle.std.proofs.Common.{if◌then◌else◌}
use Rattle.std.specs.Option.{option_map}
use Rattle.std.proofs.lemmas.Bool.{cases_order, true≢false}
use Rattle.std.proofs.lemmas.Bool.Decides.{nat_tests}
use Rattle.std.proofs.lemmas.List.{get_or_default}
use Rattle.std.proofs.lemmas.List.Elements.{All-contains}
use Rattle.std.proofs.lemmas.List.Kept.{AllPairs-from_increasing}
use Rattle.std.proofs.lemmas.List.Sorted.{All-permutation, Contains-permutation, IsPermutation-sym, IsPermutation-trans}
use Rattle.normalizer_tables.specs.HangulComposition.{compose_hangul}
use Rattle.normalizer_tables.specs.Pairs.{Pair, AreRising as ArePairsRising, is_before, is_of, is_vowel_or_trailing_jamo, listed_result, pair_of}
use Rattle.normalizer_packing.specs.declared.Packed.{Packed}
use Rattle.normalizer_tables.specs.Entries.{EntryValue}
use Rattle.normalizer_packing.specs.Packing.{Packs}
use Rattle.normalizer_packing.proofs.entry_data.EntryLemmas.{find-none, find-tells}
use Rattle.normalizer_packing.proofs.entry_data.PackingLemmas.{one_packing}
use Rattle.normalizer_records.specs.RecordValue.{RecordValue, Uts46RecordValue}
use Rattle.normalizer_builder.specs.Building.{PacksRecords}
use Rattle.normalizer_records.specs.Recorded.{AreMadeOf, ListsCharacters, entry_for, recorded_characters}

-- lists in one strict order with the same members are the same
module _ {X : Type 0} (R : X → X → Type 0) (one_way : (x y : X) → R x y → ¬ R y x) where
  behind : (x : X) (xs : List X) → AllPairs R (x ∷ xs) → All (R x) xs × AllPairs R xs
  behind x xs h = (λ k d within. h 0 (suc k) d (omega arith) (omega arith), λ i j d below within. h (suc i) (suc j) d (omega arith) (omega arith))

  head_or_tail : (x : X) (xs : List X) (y : X) → Contains (x ∷ xs) y → (x ≡ y) ⊎ Contains xs y
  head_or_tail x xs y (zero, within, is) = inl is
  head_or_tail x xs y (suc k, within, is) = inr (k, omega arith, is)

  abbrev pub HasMembersOf : List X → List X → Type 0
  HasMembersOf xs ys = (x : X) → Contains xs x → Contains ys x

  tail_members : (x : X) (xs : List X) (y : X) (ys : List X) → x ≡ y → All (R x) xs → HasMembersOf (x ∷ xs) (y ∷ ys) → HasMembersOf xs ys
  tail_members x xs y ys same h to z (k, within, is) = elim (head_or_tail y ys z (to z (suc k, omega arith, is))) as (λ _. Contains ys z) [
    | inl again ↦ (let itself : R x x = subst (R x) (sym (same ∙ again)) (subst (R x) is (h k z within)) in absurd (one_way x x itself itself))
    | inr later ↦ later
  ]

  pub same_members : (xs ys : List X) → AllPairs R xs → AllPairs R ys → HasMembersOf xs ys → HasMembersOf ys xs → xs ≡ ys
  same_members [] [] h k to from = refl
  same_members [] (y ∷ ys) h k to from = absurd (omega (arith, (from y (0, omega arith, refl)).1))
  same_members (x ∷ xs) [] h k to from = absurd (omega (arith, (to x (0, omega arith, refl)).1))
  same_members (x ∷ xs) (y ∷ ys) h k to from =
      let left = behind x xs h in
      let right = behind y ys k in
      let first : x ≡ y = elim (head_or_tail y ys x (to x (0, omega arith, refl))) as (λ _. x ≡ y) [
        | inl same ↦ sym same
        | inr later ↦ elim (head_or_tail x xs y (from y (0, omega arith, refl))) as (λ _. x ≡ y) [
          | inl same ↦ same
          | inr also ↦ absurd (one_way x y (All-contains (R x) xs y left.0 also) (All-contains (R y) ys x right.0 later))
        ]
      ] in
      rw (first, same_members xs ys left.1 right.1 (tail_members x xs y ys first left.0 to) (tail_members y ys x xs (sym first) right.0 from)) refl

module _ (records : List RecordValue) (uts46 : List Uts46RecordValue) where
  listed_in_both : (xs ys : List ℕ) → ListsCharacters records uts46 xs → ListsCharacters records uts46 ys → (n : ℕ) → Contains xs n → Contains ys n
  listed_in_both xs ys h k n there = All-contains (Contains ys) (recorded_characters records uts46) n k.all (All-contains (Contains (recorded_characters records uts46)) xs n h.recorded there)

  -- the entries of records
  pub same_entries : (es fs : List EntryValue) → AreMadeOf records uts46 es → AreMadeOf records uts46 fs → es ≡ fs
  same_entries es fs h k =
      h.made
      ∙ ap (map (entry_for records uts46)) (same_members {X = ℕ} (λ a b. a < b) (λ a b below above. omega arith) h.characters k.characters
      (AllPairs-from_increasing h.characters h.listed.rising) (AllPairs-from_increasing k.characters k.listed.rising)
      (listed_in_both h.characters k.characters h.listed k.listed) (listed_in_both k.characters h.characters k.listed h.listed))
      ∙ sym k.made

not_both_before : (p q : Pair) → is_before p q.0 q.1 ≡ true → ¬ (is_before q p.0 p.1 ≡ true)
unfolding is_before
not_both_before p q h k = absurd (grind (arith, nat_tests))

-- data that pack the same records are equal
pub one_packing_of_records : (records : List RecordValue) (uts46 : List Uts46RecordValue) (p q : Packed) → PacksRecords records uts46 p → PacksRecords records uts46 q → p ≡ q
one_packing_of_records records uts46 p q h k =
    let moved : IsPermutation k.pairs h.pairs = IsPermutation-trans k.pairs _ h.pairs (IsPermutation-sym _ k.pairs k.same_pairs) h.same_pairs in
    let pairs : k.pairs ≡ h.pairs = same_members (λ p q. is_before p q.0 q.1 ≡ true) not_both_before k.pairs h.pairs k.rising_pairs h.rising_pairs
    (λ p. Contains-permutation k.pairs h.pairs p moved) (λ p. Contains-permutation h.pairs k.pairs p (IsPermutation-sym k.pairs h.pairs moved)) in
    let packs : Packs h.entries h.pairs q = subst (λ (l : List Pair). Packs h.entries l q) pairs
    (subst (λ (es : List EntryValue). Packs es k.pairs q) (same_entries records uts46 k.entries h.entries k.made h.made) k.packs) in
    one_packing h.entries h.pairs p q h.packs packs

-- the one that passes is found
find-one : {X : Type 0} (p : X → Bool) (xs : List X) (x : X) → Contains xs x → p x ≡ true → ((y : X) → Contains xs y → p y ≡ true → y ≡ x) → find p xs ≡ Some x
find-one p xs x there passes one = elim (find-tells p xs) as (λ _. find p xs ≡ Some x) [
  | inl none ↦ absurd (true≢false (sym passes ∙ All-contains (λ y. p y ≡ false) xs x none.1 there))
  | inr some ↦ some.1 ∙ ap Some (one some.0 some.2 some.3)
]

-- a list and one in another order, of which one alone may pass
find-permutation : {X : Type 0} (p : X → Bool) (xs ys : List X) → IsPermutation xs ys → ((x y : X) → Contains ys x → Contains ys y → p x ≡ true → p y ≡ true → x ≡ y) → find p xs ≡ find p ys
find-permutation p xs ys same one =
    let back = IsPermutation-sym xs ys same in
    elim (find-tells p ys) as (λ _. find p xs ≡ find p ys) [
      | inl none ↦ find-none p xs (All-permutation (λ x. p x ≡ false) ys xs back none.1) ∙ sym none.0
      | inr some ↦
          find-one p xs some.0 (Contains-permutation ys xs some.0 back some.2) some.3 (λ y there passes. one y some.0 (Contains-permutation xs ys y same there) some.2 passes some.3)
          ∙ sym some.1
    ]

-- two of the same characters aren't one before the other
of_both : (first second : ℕ) (p q : Pair) → is_of p first second ≡ true → is_of q first second ≡ true → ¬ (is_before p q.0 q.1 ≡ true)
unfolding is_of is_before
of_both first second p q h k before = absurd (grind (arith, nat_tests))

one_of : (first second : ℕ) (ys : List Pair) → ArePairsRising ys → (p q : Pair) → Contains ys p → Contains ys q → is_of p first second ≡ true → is_of q first second ≡ true → p ≡ q
one_of first second ys rising p q (i, inside, here) (j, within, there) h k = elim (cases_order i j) as (λ _. p ≡ q) [
  | inl same ↦ sym here ∙ get_or_default ys i p q inside ∙ ap (λ n. get_or ys n q) same ∙ there
  | inr (inl below) ↦ absurd (of_both first second p q h k (rw (here, get_or_default ys j p q within ∙ there) at (rising i j p below within)))
  | inr (inr above) ↦ absurd (of_both first second q p k h (rw (there, get_or_default ys i q p inside ∙ here) at (rising j i q above inside)))
]

pub pair_of-permutation : (xs ys : List Pair) → IsPermutation xs ys → ArePairsRising ys → (first second : ℕ) → pair_of ys first second ≡ pair_of xs first second
unfolding pair_of listed_result
pair_of-permutation xs ys same rising first second =
    ap (λ o. if is_vowel_or_trailing_jamo second then compose_hangul first second else option_map (λ (p : Pair). p.2) o)
    (sym (find-permutation (λ (p : Pair). is_of p first second) xs ys same (one_of first second ys rising)))
