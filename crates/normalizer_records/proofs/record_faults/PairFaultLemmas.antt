-- Two records have the same pair exactly if two of the sorted pairs, which are neighbours, are the same.
use Rattle.std.proofs.Common.{◌≡◌, ℕ, zero, suc, ◌+◌, ◌-◌, ◌<◌, ◌↔◌, ◌==◌, ◌&&◌, Bool, true, false, List, length, get_or, take, refl, sym, ap, ◌∙◌, ◌≤◌, inl, inr, cond, Option, Some, None, IsSomeAnd}
use Rattle.std.proofs.Common.{is_lt, IsPermutation, IsSorted, count_by, arith}
use Rattle.std.proofs.lemmas.Bool.{cases_Bool, cases_lt}
use Rattle.std.proofs.lemmas.Bool.Decides.{nat_tests}
use Rattle.std.proofs.lemmas.List.{take_all}
use Rattle.std.proofs.lemmas.List.Sorted.{sum_by-IsPermutation}
use Rattle.std.proofs.lemmas.List.Sums.{count_by_more_no, count_by_more_yes, sum_by-take-le}
use Rattle.std.proofs.lemmas.Grind.{common_steps}
use Rattle.std.specs.List.Sorted.{IsPartitionedBy, IsPartitionPoint}
use Rattle.normalizer_tables.specs.Pairs.{Pair, is_before, AreRising}
use Rattle.normalizer_tables.proofs.composites.PairLemmas.{AreRising_from_adjacent}
use Rattle.normalizer_records.specs.RecordValue.{RecordValue}
use Rattle.normalizer_records.specs.Meaning.{pairs_of}
use Rattle.normalizer_records.specs.AtFault.{IsTwice}
use Rattle.normalizer_records.specs.Faults.{HasPairFault}
use Rattle.normalizer_records.specs.inner.SortedPairs.{by_second_and_first}

-- the two are the same pair
abbrev same_as : ℕ → ℕ → Pair → Bool
same_as first second p = (p.0 == second) && (p.1 == first)

-- neither comes before the other
tie : (p q : Pair) → is_lt (by_second_and_first q p) ≡ false → is_before p q.0 q.1 ≡ false → (p.0 ≡ q.0) × (p.1 ≡ q.1)
unfolding is_before
tie p q behind stays = grind (arith, nat_tests, common_steps)

-- two neighbours that pass
counts_two : (test : Pair → Bool) (ps : List Pair) (k : ℕ) (d : Pair) → k + 1 < length ps → test (get_or ps k d) ≡ true → test (get_or ps (k + 1) d) ≡ true → 1 < count_by test ps
counts_two test ps k d within first second = omega (
  arith,
  count_by_more_yes test ps k d (omega arith) first,
  count_by_more_yes test ps (k + 1) d within second,
  sum_by-take-le (λ p. cond (test p) 1 0) ps (k + 1 + 1),
)

-- of sorted pairs, none comes before an earlier one
module _ (ps : List Pair) (sorted : IsSorted by_second_and_first ps) where
  not_before : (i n : ℕ) (d : Pair) → i + n < length ps → is_before (get_or ps (i + n) d) (get_or ps i d).0 (get_or ps i d).1 ≡ false
  unfolding is_before
  not_before i zero d within = grind (arith, nat_tests)
  not_before i (suc n) d within =
      let earlier = not_before i n d (omega arith) in
      let step = sorted (i + n) d (omega arith) (omega arith) in
      let same : i + suc n ≡ i + n + 1 = omega arith in
      rw same (grind (arith, nat_tests, common_steps))

  pub parted : (p : Pair) → IsPartitionedBy (λ q. is_before q p.0 p.1) ps
  unfolding is_before
  parted p i j d le within before =
      let n = j - i in
      let same : i + n ≡ j = omega arith in
      let later = not_before i n d (omega arith) in
      grind (arith, nat_tests, same)

  -- the first pair that isn't before p is p, and so is the next one
  module _ (p : Pair) (i : ℕ) (at : IsPartitionPoint (λ q. is_before q p.0 p.1 ≡ true) (λ q. is_before q p.0 p.1 ≡ false) ps i) where
    abbrev is_p : Pair → Bool
    is_p = same_as p.1 p.0

    pub two : (d : Pair) → i + 1 < length ps → is_before p (get_or ps (i + 1) d).0 (get_or ps (i + 1) d).1 ≡ false → IsTwice ps p
    unfolding is_before
    two d within stays =
        let here = at.1 i d (omega arith) (omega arith) in
        let next = at.1 (i + 1) d (omega arith) within in
        let step = sorted i d (omega arith) within in
        let second : is_p (get_or ps (i + 1) d) ≡ true = grind (arith, nat_tests) in
        let first : is_p (get_or ps i d) ≡ true = grind (arith, nat_tests, common_steps) in
        counts_two is_p ps i d within first second

    -- at most one pair is p, if the one behind isn't
    few : ((d : Pair) → i + 1 < length ps → is_before p (get_or ps (i + 1) d).0 (get_or ps (i + 1) d).1 ≡ true) → (k : ℕ) → k ≤ length ps →
        (k ≤ i → count_by is_p (take k ps) ≡ 0) × (count_by is_p (take k ps) ≤ 1)
    unfolding is_before
    few beyond zero within = (λ le. refl, omega arith)
    few beyond (suc k) within =
        let so_far = few beyond k (omega arith) in
        let step : suc k ≡ k + 1 = omega arith in
        let many = so_far.1 in
        elim (cases_Bool (is_p (get_or ps k p))) [
          | inr other ↦ let same = count_by_more_no is_p ps k p (omega arith) other in (λ le. rw step (same ∙ so_far.0 (omega arith)), rw step (omega arith))
          | inl it ↦
              let more = count_by_more_yes is_p ps k p (omega arith) it in
              let low : i ≤ k = elim (cases_lt k i) [
                | inl below ↦ let before = at.0 k p (omega arith) below in absurd (grind (arith, nat_tests))
                | inr above ↦ above
              ] in
              let high : k ≤ i = elim (cases_lt i k) [
                | inl past ↦
                    let n = k - (i + 1) in
                    let same : i + 1 + n ≡ k = omega arith in
                    let later = not_before (i + 1) n p (omega arith) in
                    let next = beyond p (omega arith) in
                    absurd (grind (arith, nat_tests, same))
                | inr within ↦ within
              ] in
              let none = so_far.0 high in
              (λ le. absurd (omega arith), rw step (omega arith))
        ]

    pub not_two : ((d : Pair) → i + 1 < length ps → is_before p (get_or ps (i + 1) d).0 (get_or ps (i + 1) d).1 ≡ true) → ¬ IsTwice ps p
    not_two beyond twice =
        let most = (few beyond (length ps) (omega arith)).1 in
        let all = ap (count_by is_p) (take_all (length ps) ps (omega arith)) in
        absurd (omega arith)

is_itself : (p : Pair) → same_as p.1 p.0 p ≡ true
is_itself p = grind (arith, nat_tests)

is_the_other : (p q : Pair) → p.0 ≡ q.0 → p.1 ≡ q.1 → same_as p.1 p.0 q ≡ true
is_the_other p q second first = grind (arith, nat_tests)

module _ (records : List RecordValue) (ps : List Pair) (moved : IsPermutation (pairs_of records) ps) where
  -- sorted pairs have each pair as often
  pub twice_sorted : (o : Option Pair) → IsSomeAnd o (IsTwice ps) ↔ IsSomeAnd o (IsTwice (pairs_of records))
  twice_sorted None = (λ h. h, λ h. h)
  twice_sorted (Some p) =
      let same = sum_by-IsPermutation (λ q. cond (same_as p.1 p.0 q) 1 0) (pairs_of records) ps moved in
      (λ h. omega arith, λ h. omega arith)

  module _ (sorted : IsSorted by_second_and_first ps) where
    -- neighbours that don't rise are the same pair
    neighbours : (k : ℕ) (d : Pair) → k + 1 < length ps → is_before (get_or ps k d) (get_or ps (k + 1) d).0 (get_or ps (k + 1) d).1 ≡ false → HasPairFault records
    unfolding HasPairFault
    neighbours k d within stays =
        let p = get_or ps k d in
        let q = get_or ps (k + 1) d in
        let same = tie p q (sorted k d (omega arith) within) stays in
        let twice = counts_two (same_as p.1 p.0) ps k d within (is_itself p) (is_the_other p q same.0 same.1) in
        let kept = sum_by-IsPermutation (λ r. cond (same_as p.1 p.0 r) 1 0) (pairs_of records) ps moved in
        (p.1, p.0, omega arith)

    pub rising_unless : (HasPairFault records → ⊥) → AreRising ps
    rising_unless none = AreRising_from_adjacent ps (λ k d within. steps k d (omega arith))
      where
        steps : (k : ℕ) (d : Pair) → k + 1 < length ps → true ≡ is_before (get_or ps k d) (get_or ps (k + 1) d).0 (get_or ps (k + 1) d).1
        steps k d within = elim (cases_Bool (is_before (get_or ps k d) (get_or ps (k + 1) d).0 (get_or ps (k + 1) d).1)) [
          | inl goes ↦ sym goes
          | inr stays ↦ absurd (none (neighbours k d within stays))
        ]
