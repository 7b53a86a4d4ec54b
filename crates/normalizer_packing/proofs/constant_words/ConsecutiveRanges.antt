-- Ranges one after another, and the stretches of numbers with one word.
use Rattle.std.proofs.Common.{◌≡◌, ℕ, zero, suc, ◌<◌, ◌≤◌, ◌+◌, ◌-◌, List, All, Contains, length, get_or, [], ◌∷◌, ◌++◌, arith, refl, subst, ◌∙◌, inl, inr}
use Rattle.std.specs.List.Sorted.{IsPartitionPoint, IsStrictlyIncreasing}
use Rattle.std.proofs.lemmas.Bool.{cases_lt}
use Rattle.std.proofs.lemmas.Bool.Decides.{nat_tests}
use Rattle.std.proofs.lemmas.List.{get_or_default}
use Rattle.std.proofs.lemmas.List.Elements.{All-head, All-push, All-tail}
use Rattle.std.proofs.lemmas.List.Kept.{AllPairs-from_increasing}
use Rattle.std.proofs.lemmas.List.Quantifiers.{all_pairs_push}
use Rattle.normalizer_tables.specs.Ranges.{IsRange, WordRange, word_in}
use Rattle.normalizer_tables.specs.Table.{code_points}
use Rattle.normalizer_tables.proofs.code_points.WordsInRanges.{word_in-held, word_in-missed}
use Rattle.normalizer_packing.specs.inner.Breakpoints.{IsConstantBetween, CoverUpTo, IsConstant}

-- an appended range changes no word before it
word_in-before : (rs : List WordRange) (b e w n : ℕ) → n < b → word_in (rs ++ (b, e, w) ∷ []) n ≡ word_in rs n
unfolding word_in
word_in-before [] b e w n below = grind (arith, nat_tests)
word_in-before (r ∷ rs) b e w n below = let rest = word_in-before rs b e w n below in grind arith

-- a number past all ranges has the word 0
word_in-past : (rs : List WordRange) (b n : ℕ) → All (λ r. r.1 < b) rs → b ≤ n → word_in rs n ≡ 0
unfolding word_in
word_in-past [] b n before low = refl
word_in-past (r ∷ rs) b n before low =
    let first = All-head (λ r. r.1 < b) r rs before in word_in-missed r rs n (inl (omega arith)) ∙ word_in-past rs b n (All-tail (λ r. r.1 < b) r rs before) low

-- and its own numbers have its word
word_in-behind : (rs : List WordRange) (b e w n : ℕ) → All (λ r. r.1 < b) rs → b ≤ n → n ≤ e → word_in (rs ++ (b, e, w) ∷ []) n ≡ w
word_in-behind [] b e w n before low high = word_in-held (b, e, w) [] n low high
word_in-behind (r ∷ rs) b e w n before low high =
    let first = All-head (λ r. r.1 < b) r rs before in
    word_in-missed r (rs ++ (b, e, w) ∷ []) n (inl (omega arith)) ∙ word_in-behind rs b e w n (All-tail (λ r. r.1 < b) r rs before) low high

module _ (is_word : ℕ → ℕ → Type 0) where
  -- one more stretch
  pub CoverUpTo-push : (rs : List WordRange) (from : ℕ) → CoverUpTo is_word rs from → (end e word : ℕ) → e + 1 ≡ end → from ≤ e → end ≤ code_points → IsConstant is_word from end →
      is_word from word → CoverUpTo is_word (rs ++ (from, e, word) ∷ []) end
  unfolding IsConstant
  CoverUpTo-push rs from so_far end e word ends low within alike here =
      record {
        list = record {
          ranges = All-push IsRange rs (from, e, word) so_far.list.ranges (low, omega arith);
          rising = all_pairs_push (λ r s. r.1 < s.0) rs (from, e, word) so_far.list.rising so_far.before;
        };
        before = All-push (λ r. r.1 < end) rs (from, e, word) (λ k d inside. omega (arith, so_far.before k d inside)) (omega arith);
        words = λ n below. elim (cases_lt n from) as (λ _. is_word n (word_in (rs ++ (from, e, word) ∷ []) n)) [
          | inl before ↦ rw (word_in-before rs from e word n before) (so_far.words n before)
          | inr behind ↦ rw (word_in-behind rs from e word n so_far.before behind (omega arith)) (alike n word behind below here)
        ];
      }

  -- a stretch of the word 0 needs no range
  pub CoverUpTo-skip : (rs : List WordRange) (from : ℕ) → CoverUpTo is_word rs from → (end word : ℕ) → word ≡ 0 → from ≤ end → IsConstant is_word from end → is_word from word → CoverUpTo is_word rs end
  unfolding IsConstant
  CoverUpTo-skip rs from so_far end word none low alike here =
      record {
        list = so_far.list;
        before = λ k d inside. omega (arith, so_far.before k d inside);
        words = λ n below. elim (cases_lt n from) as (λ _. is_word n (word_in rs n)) [
          | inl before ↦ so_far.words n before
          | inr behind ↦ rw (word_in-past rs from n so_far.before behind) (rw none at (alike n word behind below here))
        ];
      }

  pub IsConstant_one : (n : ℕ) → IsConstant is_word n (n + 1)
  unfolding IsConstant
  IsConstant_one n m w low high h = let same : n ≡ m = omega arith in subst (λ (k : ℕ). is_word k w) same h

-- the listed numbers before a place are below `from`, and the others aren't
abbrev pub HasPassed : List ℕ → ℕ → ℕ → Type 0
HasPassed breakpoints place from = IsPartitionPoint (λ n. n < from) (λ n. from ≤ n) breakpoints place

module _ (breakpoints : List ℕ) (rising : IsStrictlyIncreasing breakpoints) (place from : ℕ) (passed : HasPassed breakpoints place from) where
  not_below : (j d : ℕ) → place ≤ j → j < length breakpoints → get_or breakpoints place d ≤ get_or breakpoints j d
  not_below j d le within = let less = AllPairs-from_increasing breakpoints rising place j d in grind arith

  -- no listed number comes before the next
  unlisted : (end : ℕ) → ((d : ℕ) → place < length breakpoints → end ≤ get_or breakpoints place d) → (n : ℕ) → from ≤ n → n < end → Contains breakpoints n → ⊥
  unlisted end next n low below h = elim (cases_lt h.0 place) as (λ _. ⊥) [
    | inl before ↦ omega (arith, passed.0 h.0 n (omega arith) before, h.2)
    | inr behind ↦ omega (arith, not_below h.0 n behind h.1, next n (omega (arith, h.1)), h.2)
  ]

  -- so all up to there are alike
  pub IsConstant-between : (is_word : ℕ → ℕ → Type 0) (end : ℕ) → IsConstantBetween is_word breakpoints → ((d : ℕ) → place < length breakpoints → end ≤ get_or breakpoints place d) → IsConstant is_word from end
  unfolding IsConstant IsConstantBetween
  IsConstant-between is_word end alike next n w low below h = let same : from + (n - from) ≡ n = omega arith in subst (λ (m : ℕ). is_word m w) same (by (n - from) (omega arith))
    where
      by : (k : ℕ) → from + k < end → is_word (from + k) w
      by zero inside = let same : from ≡ from + 0 = omega arith in subst (λ (m : ℕ). is_word m w) same h
      by (suc k) inside =
          let same : from + k + 1 ≡ from + suc k = omega arith in
          subst (λ (m : ℕ). is_word m w) same (alike (from + k) w (unlisted end next _ (omega arith) (omega arith)) (unlisted end next _ (omega arith) (omega arith)) (by k (omega arith)))

  pub HasPassed-next : (number : ℕ) → place < length breakpoints → (e : ℕ) → number ≡ get_or breakpoints place e → HasPassed breakpoints (place + 1) (number + 1)
  HasPassed-next number within e here = (
    λ k d start low. omega (arith, not_above k d low, here, get_or_default breakpoints place e d within),
    λ k d low inside. omega (arith, AllPairs-from_increasing breakpoints rising place k d (omega arith) inside, here, get_or_default breakpoints place e d within),
  )
    where
      not_above : (k d : ℕ) → k < place + 1 → get_or breakpoints k d ≤ get_or breakpoints place d
      not_above k d low = let less = AllPairs-from_increasing breakpoints rising k place d in grind arith
