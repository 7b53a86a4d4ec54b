-- The ranges of runs make a table of the words of the runs.
use Rattle.std.proofs.Common.{◌≡◌, ℕ, ◌+◌, ◌-◌, ◌<◌, ◌≤◌, List, [], ◌∷◌, All}
use Rattle.std.proofs.Common.{length, get_or, replicate, refl, sym, ap, ◌∙◌, inl, inr, arith, drop, ◌++◌, append_assoc}
use Rattle.std.proofs.lemmas.Bool.{cases_lt, lt-ltb, le-ltb}
use Rattle.std.proofs.lemmas.List.{ext_get_or, get_or-append_right, get_or-replicate, get_or_append_left}
use Rattle.std.proofs.lemmas.List.{append-nil, at_drop_all, at_drop_more, get_or_default}
use Rattle.std.proofs.lemmas.List.{length-append, length-replicate}
use Rattle.std.proofs.lemmas.List.Elements.{All-cons, All-nil}
use Rattle.std.proofs.lemmas.List.Kept.{AllPairs-cons}
use Rattle.normalizer_tables.specs.Table.{Table, code_points, word_at}
use Rattle.normalizer_tables.specs.Ranges.{WordRange, IsRange, IsRangeList, IsTableOf, IsComplete, word_in}
use Rattle.normalizer_tables.proofs.code_points.WordsInRanges.{word_in-held, word_in-missed}
use Rattle.normalizer_prepared.specs.Runs.{ranges_from, run_size, words_of, Run}

some : (n : ℕ) → 0 < run_size n
some n = elim (cases_lt n 128) [
  | inl lt ↦ rw (lt-ltb n 128 lt) (omega arith)
  | inr le ↦ rw (le-ltb n 128 le) (omega (arith, le))
]

-- the words of a run, and of those after it
pub length_more : (r : Run) (rs : List Run) → length (words_of (r ∷ rs)) ≡ run_size r.0 + length (words_of rs)
length_more r rs =
    omega (arith, length-append (replicate (run_size r.0) r.1) (words_of rs), length-replicate (run_size r.0) r.1)

starts : (n : ℕ) (rs : List Run) → All (λ s. n ≤ s.0) (ranges_from n rs)
unfolding ranges_from
starts n [] = All-nil (λ (s : WordRange). n ≤ s.0)
starts n (r ∷ rs) =
    All-cons (λ (s : WordRange). n ≤ s.0) (n, n + run_size r.0 - 1, r.1) (ranges_from (n + run_size r.0) rs)
    (omega arith)
    (λ k d below. omega (arith, starts (n + run_size r.0) rs k d below))

are_ranges : (n : ℕ) (rs : List Run) → n + length (words_of rs) ≤ code_points → IsRangeList (ranges_from n rs)
unfolding ranges_from
are_ranges n [] h = record { ranges = All-nil IsRange; rising = λ i j d below within. absurd (omega arith) }
are_ranges n (r ∷ rs) h =
    let within : n + run_size r.0 + length (words_of rs) ≤ code_points = omega (arith, h, length_more r rs) in
    let rest = are_ranges (n + run_size r.0) rs within in
    let first : WordRange = (n, n + run_size r.0 - 1, r.1) in
    record {
      ranges = All-cons IsRange first (ranges_from (n + run_size r.0) rs)
          (omega (arith, some r.0), omega (arith, some r.0, within)) rest.ranges;
      rising = AllPairs-cons (λ (x y : WordRange). x.1 < y.0) first (ranges_from (n + run_size r.0) rs)
          (λ k d below. omega (arith, some r.0, starts (n + run_size r.0) rs k d below)) rest.rising;
    }

word_in-runs : (n : ℕ) (rs : List Run) (k : ℕ) → k < length (words_of rs)
    → word_in (ranges_from n rs) (n + k) ≡ get_or (words_of rs) k 0
unfolding ranges_from
word_in-runs n [] k below = absurd (omega arith)
word_in-runs n (r ∷ rs) k below =
    let size : ℕ = run_size r.0 in
    let first : WordRange = (n, n + size - 1, r.1) in
    let others : List WordRange = ranges_from (n + size) rs in
    let front : List ℕ = replicate size r.1 in
    let long : length front ≡ size = length-replicate size r.1 in
    elim (cases_lt k size) [
      | inl lt ↦
          word_in-held first others (n + k) (omega arith) (omega (arith, lt))
          ∙ sym (get_or_append_left front (words_of rs) 0 k (omega (arith, long, lt))
          ∙ get_or-replicate size k r.1 0 lt)
      | inr le ↦
          let left : k - size < length (words_of rs) = omega (arith, below, length_more r rs, le) in
          let place : n + k ≡ n + size + (k - size) = omega (arith, le) in
          word_in-missed first others (n + k) (inl (omega (arith, some r.0, le)))
          ∙ ap (word_in others) place
          ∙ word_in-runs (n + size) rs (k - size) left
          ∙ sym (get_or-append_right front (words_of rs) size k 0 long le)
    ]

same_table : (v w : List ℕ) (p q : ℕ) (t u : Table) → t ≡ record { words = v; past = p }
    → u ≡ record { words = w; past = q } → v ≡ w → p ≡ q → t ≡ u
same_table v w p q t u is also words past = cc

module _ (rs : List Run) (all : length (words_of rs) ≡ code_points) where
  pub IsRangeList-runs : IsRangeList (ranges_from 0 rs)
  IsRangeList-runs = are_ranges 0 rs (omega (arith, all))

  pub table-runs : (past : ℕ) (t : Table) → IsTableOf (ranges_from 0 rs) past t
      → t ≡ record { words = words_of rs; past = past }
  unfolding word_at IsComplete
  table-runs past t is =
      let words : t.words ≡ words_of rs =
      ext_get_or 0 t.words (words_of rs) (is.complete ∙ sym all) (λ i below.
      let zeroth : i ≡ 0 + i = omega arith in
      get_or_default t.words i 0 t.past below
      ∙ is.words i (omega (arith, is.complete, below))
      ∙ ap (word_in (ranges_from 0 rs)) zeroth
      ∙ word_in-runs 0 rs i (omega (arith, is.complete, all, below))) in
      let made : Table = record { words = words_of rs; past = past } in
      same_table t.words (words_of rs) t.past past t made refl refl words is.past

pub ruleset table_rules = (IsRangeList-runs, table-runs)

-- ---- the loop that makes them

module _ (before : List WordRange) (next i : ℕ) (rs : List Run)
    (so_far : before ++ ranges_from next (drop i rs) ≡ ranges_from 0 rs)
    (total : next + length (words_of (drop i rs)) ≡ length (words_of rs)) where
  module _ (r : Run) (below : i < length rs) where
    pub total_more : next + run_size (get_or rs i r).0 + length (words_of (drop (i + 1) rs)) ≡ length (words_of rs)
    total_more =
        let one = at_drop_more (λ (x : List Run). length (words_of x)) rs i r below in
        omega (arith, total, one, length_more (get_or rs i r) (drop (i + 1) rs))

    pub ranges_more : (before ++ (next, next + run_size (get_or rs i r).0 - 1, (get_or rs i r).1) ∷ [])
        ++ ranges_from (next + run_size (get_or rs i r).0) (drop (i + 1) rs)
        ≡ ranges_from 0 rs
    unfolding ranges_from
    ranges_more =
        append_assoc before _ _ ∙ sym (at_drop_more (λ (x : List Run). before ++ ranges_from next x) rs i r below)
        ∙ so_far

  module _ (past : length rs ≤ i) where
    pub total_end : next ≡ length (words_of rs)
    total_end = omega (arith, total, at_drop_all (λ (x : List Run). length (words_of x)) rs i past)

    pub ranges_end : before ≡ ranges_from 0 rs
    unfolding ranges_from
    ranges_end =
        sym (append-nil before) ∙ sym (at_drop_all (λ (x : List Run). before ++ ranges_from next x) rs i past) ∙ so_far
