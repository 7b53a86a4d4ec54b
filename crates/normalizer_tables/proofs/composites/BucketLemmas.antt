-- The buckets in which pairs are found.
use Rattle.std.proofs.Common.{◌≡◌, ◌≢◌, ℕ, ◌<◌, ◌≤◌, ◌+◌, true, false, List, length, get_or, set, replicate, Some, None, arith, ap, sym, ◌∙◌, inl, inr}
use Rattle.std.proofs.Math.Nat.{mod-lt}
use Rattle.std.proofs.lemmas.Bool.{cases_Bool, cases_eq, cases_lt}
use Rattle.std.proofs.lemmas.List.{get_or_read, get_or-replicate, get_or-set_same, get_or-set_other, length-replicate, length-set}
use Rattle.std.proofs.lemmas.Option.{slice_get-get_or}
use Rattle.normalizer_tables.specs.Pairs.{Pair, pair_at, is_of, listed_result}
use Rattle.normalizer_tables.specs.inner.Buckets.{bucket_count, bucket_of, bucket_at, IsNextIn, AreChainedFrom}
use Rattle.normalizer_tables.proofs.composites.PairLemmas.{is_of-true, listed_result-first, listed_result-none}

-- nothing is chained past the list
pub chained_none : (heads nexts : List ℕ) (pairs : List Pair) (n : ℕ) → n ≡ length pairs → heads ≡ replicate bucket_count n → nexts ≡ replicate n n → AreChainedFrom (length pairs) heads nexts pairs
chained_none heads nexts pairs n whole first then =
    let past : (b : ℕ) → b < bucket_count → get_or heads b 0 ≡ n = λ b below. ap (λ hs. get_or hs b 0) first ∙ get_or-replicate bucket_count b n 0 below in
    record {
      heads_long = ap length first ∙ length-replicate bucket_count n;
      nexts_long = ap length then ∙ length-replicate n n ∙ whole;
      begins = λ b below. record {
        forward = omega (arith, past b below);
        others = λ k from to within. absurd (omega arith);
        its = λ within. absurd (omega (arith, past b below));
      };
      goes_on = λ k from below. absurd (omega arith);
    }

-- one more pair becomes the head of its bucket
pub chained_more : (heads nexts : List ℕ) (pairs : List Pair) (place bucket : ℕ) → place < length pairs → bucket < bucket_count → bucket_at pairs place ≡ bucket
    → AreChainedFrom (place + 1) heads nexts pairs → AreChainedFrom place (set heads bucket place) (set nexts place (get_or heads bucket 0)) pairs
chained_more heads nexts pairs place bucket within low its s =
    let wide : bucket < length heads = omega (arith, s.heads_long) in
    let long : place < length nexts = omega (arith, s.nexts_long) in
    record {
      heads_long = length-set heads bucket place ∙ s.heads_long;
      nexts_long = length-set nexts place _ ∙ s.nexts_long;
      begins = λ b below. elim (cases_eq b bucket) [
        | inl same ↦ rw (same, get_or-set_same heads bucket place 0 wide) (record { forward = omega arith; others = λ k from to inside. absurd (omega arith); its = λ _. its })
        | inr other ↦
            let old = s.begins b below in
            rw (get_or-set_other heads bucket b place 0 other) (record {
              forward = omega (arith, old.forward);
              others = λ k from to inside. elim (cases_lt place k) [
                | inl later ↦ old.others k (omega arith) to inside
                | inr last ↦ λ here. other (sym here ∙ ap (bucket_at pairs) (omega arith) ∙ its)
              ];
              its = old.its;
            })
      ];
      goes_on = λ k from below. elim (cases_lt place k) [
        | inl later ↦ rw (get_or-set_other nexts place k (get_or heads bucket 0) 0 (λ same. absurd (omega arith))) (s.goes_on k (omega arith) below)
        | inr last ↦
            let same : k ≡ place = omega arith in
            rw (same, get_or-set_same nexts place (get_or heads bucket 0) 0 long, its) (s.begins bucket low)
      ];
    }

-- no pair before the place is of the two characters, and the pair there is in their bucket
pub record HasPassed (pairs : List Pair) (first second place : ℕ) : Type 0 where
  pub passed : (k : ℕ) → k < place → k < length pairs → is_of (pair_at pairs k) first second ≡ false
  pub chained : place < length pairs → bucket_at pairs place ≡ bucket_of first second

-- a pair in another bucket is of other characters
other_bucket : (pairs : List Pair) (first second k : ℕ) → bucket_at pairs k ≢ bucket_of first second → is_of (pair_at pairs k) first second ≡ false
unfolding bucket_at
other_bucket pairs first second k other = elim (cases_Bool (is_of (pair_at pairs k) first second)) [
  | inl theirs ↦
      let same = is_of-true (pair_at pairs k) first second theirs in
      absurd (other (λ i. bucket_of (same.1 i) (same.0 i)))
  | inr not ↦ not
]

passed_to : (pairs : List Pair) (first second start next : ℕ) → ((k : ℕ) → k < start → k < length pairs → is_of (pair_at pairs k) first second ≡ false)
    → IsNextIn pairs (bucket_of first second) start next → HasPassed pairs first second next
passed_to pairs first second start next before s = record {
  passed = λ k below within. elim (cases_lt k start) [
    | inl earlier ↦ before k earlier within
    | inr from ↦ other_bucket pairs first second k (s.others k from below within)
  ];
  chained = s.its;
}

module _ (heads nexts : List ℕ) (pairs : List Pair) (first second : ℕ) (s : AreChainedFrom 0 heads nexts pairs) where
  -- the head of the bucket was read
  pub passed_first : (bucket place : ℕ) → bucket ≡ bucket_of first second → place ≡ get_or heads bucket place → HasPassed pairs first second place
  passed_first bucket place is read =
      let low : bucket_of first second < bucket_count = mod-lt _ (omega arith) in
      let here : place ≡ get_or heads (bucket_of first second) 0 = get_or_read heads bucket place (omega (arith, is, s.heads_long)) read 0 ∙ ap (λ b. get_or heads b 0) is in
      rw here (passed_to pairs first second 0 _ (λ k below. absurd (omega arith)) (s.begins (bucket_of first second) low))

  -- the place after another pair of the bucket was read
  pub passed_more : (place next : ℕ) (p : Pair) → HasPassed pairs first second place → place < length pairs → p ≡ get_or pairs place p → is_of p first second ≡ false
      → next ≡ get_or nexts place next → HasPassed pairs first second next
  unfolding pair_at
  passed_more place next p so_far within at other read =
      let there = get_or_read pairs place p within at (0, 0, 0) in
      let here = get_or_read nexts place next (omega (arith, s.nexts_long)) read 0 in
      let step = rw (so_far.chained within) at (s.goes_on place (omega arith) within) in
      rw here (passed_to pairs first second (place + 1) _ (λ k below inside. elim (cases_lt k place) [
        | inl earlier ↦ so_far.passed k earlier inside
        | inr last ↦
            let same : place ≡ k = omega arith in
            ap (λ m. is_of (pair_at pairs m) first second) (sym same) ∙ ap (λ q. is_of q first second) (sym there) ∙ other
      ]) step)

-- the pair that was read is the first of the two characters, or there is none
pub listed-passed : (pairs : List Pair) (first second place : ℕ) (p : Pair) → HasPassed pairs first second place → place < length pairs → p ≡ get_or pairs place p → is_of p first second ≡ true
    → listed_result pairs first second ≡ Some p.2
listed-passed pairs first second place p so_far within read theirs =
    listed_result-first pairs first second place p (slice_get-get_or pairs place p within ∙ ap Some (sym read)) theirs (λ k below. so_far.passed k below (omega arith))

pub listed-none : (pairs : List Pair) (first second place : ℕ) → HasPassed pairs first second place → length pairs ≤ place → listed_result pairs first second ≡ None
listed-none pairs first second place so_far past = listed_result-none pairs first second (λ k below. so_far.passed k (omega arith) below)
