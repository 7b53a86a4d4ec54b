-- How pairs are found by both characters: each is in a bucket, and the places of a bucket's pairs are a chain.
use Rattle.std.specs.Prelude.{◌≡◌, ◌≢◌, ℕ, ◌+◌, ◌*◌, ◌%◌, ◌≤◌, ◌<◌, List, length, slice_index}
use Rattle.std.specs.Cmp.{IsEquivalence}
use Rattle.std.specs.Cmp.Lexicographic.{pointwise}
use Rattle.std.proofs.lemmas.Cmp.{and_equiv, lists_equiv, nat_eq_equiv, on_equiv}
use Rattle.normalizer_tables.specs.Pairs.{Pair, same_pair, pair_at}

-- the test of two lists of pairs is an equivalence
pub same_pairs_equiv : IsEquivalence (pointwise same_pair)
same_pairs_equiv = lists_equiv
    (and_equiv (and_equiv (on_equiv (λ (p : Pair). p.0) nat_eq_equiv) (on_equiv (λ (p : Pair). p.1) nat_eq_equiv))
    (on_equiv (λ (p : Pair). p.2) nat_eq_equiv))

-- how many buckets there are
abbrev pub bucket_count : ℕ
bucket_count = 2048

-- the bucket of two characters
abbrev pub bucket_of : ℕ → ℕ → ℕ
bucket_of first second = (first + second * 1211) % bucket_count

-- the bucket of the pair at a place
unfoldable pub bucket_at : List Pair → ℕ → ℕ
bucket_at pairs place = bucket_of (pair_at pairs place).1 (pair_at pairs place).0

-- `next` is the first place from `start` on whose pair is in the bucket, or is past the list
pub record IsNextIn (pairs : List Pair) (bucket start next : ℕ) : Type 0 where
  pub forward : start ≤ next
  pub others : (place : ℕ) → start ≤ place → place < next → place < length pairs → bucket_at pairs place ≢ bucket
  pub its : next < length pairs → bucket_at pairs next ≡ bucket

-- from `start` on, the pairs of each bucket are chained: from its head to the first of them, and from each to the next
pub record AreChainedFrom (start : ℕ) (heads nexts : List ℕ) (pairs : List Pair) : Type 0 where
  pub heads_long : length heads ≡ bucket_count
  pub nexts_long : length nexts ≡ length pairs
  pub begins : (bucket : ℕ) → bucket < bucket_count → IsNextIn pairs bucket start (slice_index heads bucket)
  pub goes_on : (place : ℕ) → start ≤ place → place < length pairs
      → IsNextIn pairs (bucket_at pairs place) (place + 1) (slice_index nexts place)
