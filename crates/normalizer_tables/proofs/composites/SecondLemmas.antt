-- Which characters are second in a pair, and the bits that say so.
use Rattle.std.proofs.Common.{◌≡◌, ◌≢◌, ℕ, ◌<◌, ◌≤◌, ◌+◌, ◌*◌, ◌/◌, ◌%◌, ◌^◌, Bool, true, false, List, [], ◌∷◌, length, get_or, set, replicate, take, Some, None, arith, ap, refl, subst, sym, ◌∙◌, inl, inr}
use Rattle.std.specs.Prelude.{◌==◌, ◌||◌, ◌↔◌, IsTrue, max, not}
use Rattle.std.specs.Int.{bit_at}
use Rattle.std.specs.Int.RustNames.{bit_or}
use Rattle.std.specs.List.{list_any}
use Rattle.std.proofs.Math.Nat.{mod-lt}
use Rattle.std.proofs.Math.Bool.{or-false, or-true}
use Rattle.std.proofs.lemmas.Bool.{cases_Bool, cases_eq, cases_lt, cond-false, eq-eqb, ne_eqb, or_parts}
use Rattle.std.proofs.lemmas.List.{get_or_read, get_or_past, get_or-replicate, get_or-set_same, get_or-set_other, length-replicate}
use Rattle.std.proofs.lemmas.List.Folds.{list_any_more}
use Rattle.std.proofs.lemmas.Nat.{one_shl}
use Rattle.std.proofs.lemmas.Nat.Bits.{bit_at_or, bit_at-pow_other, bit_at-pow_same, bit_at-zero}
use Rattle.normalizer_tables.specs.HangulComposition.{compose_hangul}
use Rattle.normalizer_tables.specs.Pairs.{Pair, is_listed_second, is_vowel_or_trailing_jamo, listed_result, may_be_second, pair_at, pair_of}
use Rattle.normalizer_tables.specs.inner.Seconds.{has_bit, AreBitsOf}
use Rattle.normalizer_tables.proofs.composites.PairLemmas.{is_of_from, is_of_other}

-- a bit, as it is read
pub has_bit-read : (words slice : List ℕ) (n word : ℕ) → slice ≡ words → n / 64 < length slice → word ≡ get_or slice (n / 64) word → (bit_at word (n % 64) == 1) ≡ has_bit words n
unfolding has_bit
has_bit-read words slice n word same within read =
    ap (λ w. bit_at w (n % 64) == 1) (get_or_read slice (n / 64) word within read 0 ∙ ap (λ l. get_or l (n / 64) 0) same)

pub has_bit-past : (words slice : List ℕ) (n : ℕ) → slice ≡ words → length slice ≤ n / 64 → false ≡ has_bit words n
unfolding has_bit
has_bit-past words slice n same past =
    sym (ap (λ w. bit_at w (n % 64) == 1) (ap (λ l. get_or l (n / 64) 0) (sym same) ∙ get_or_past slice (n / 64) 0 past) ∙ ap (λ b. b == 1) (bit_at-zero (n % 64)))

-- one bit more
abbrev pub with_bit : List ℕ → ℕ → ℕ → List ℕ
with_bit words n word = set words (n / 64) (bit_or word (1 * 2 ^ (n % 64) % 18446744073709551616))

has_bit-set : (words : List ℕ) (n word c : ℕ) → n / 64 < length words → word ≡ get_or words (n / 64) 0 → has_bit (with_bit words n word) c ≡ (has_bit words c || (n == c))
unfolding has_bit
has_bit-set words n word c within read = elim (cases_eq (c / 64) (n / 64)) [
  | inl same ↦
      let shifted : 1 * 2 ^ (n % 64) % 18446744073709551616 ≡ 2 ^ (n % 64) = one_shl (n % 64) 64 (mod-lt n (omega arith)) in
      let here : get_or (with_bit words n word) (c / 64) 0 ≡ bit_or word (2 ^ (n % 64)) =
      ap (λ k. get_or (with_bit words n word) k 0) same ∙ get_or-set_same words (n / 64) _ 0 within ∙ ap (bit_or word) shifted in
      let before : word ≡ get_or words (c / 64) 0 = read ∙ ap (λ k. get_or words k 0) (sym same) in
      let bit : bit_at (get_or (with_bit words n word) (c / 64) 0) (c % 64) ≡ max (bit_at word (c % 64)) (bit_at (2 ^ (n % 64)) (c % 64)) =
      ap (λ w. bit_at w (c % 64)) here ∙ bit_at_or word (2 ^ (n % 64)) (c % 64) in
      let small : bit_at word (c % 64) < 2 = mod-lt _ (omega arith) in
      ap (λ k. k == 1) bit
      ∙ elim (cases_eq (c % 64) (n % 64)) [
        | inl place ↦
            let one : bit_at (2 ^ (n % 64)) (c % 64) ≡ 1 = ap (bit_at (2 ^ (n % 64))) place ∙ bit_at-pow_same (n % 64) in
            let equal : n ≡ c = omega (arith, same, place) in
            let most : max (bit_at word (c % 64)) (bit_at (2 ^ (n % 64)) (c % 64)) ≡ 1 = omega (arith, one, small) in
            eq-eqb _ 1 most ∙ sym (ap (λ b. (bit_at (get_or words (c / 64) 0) (c % 64) == 1) || b) (eq-eqb n c equal) ∙ or-true _)
        | inr elsewhere ↦
            let none : bit_at (2 ^ (n % 64)) (c % 64) ≡ 0 = bit_at-pow_other (n % 64) (c % 64) elsewhere in
            let differ : n ≢ c = λ e. elsewhere (ap (λ k. k % 64) (sym e)) in
            let most : max (bit_at word (c % 64)) (bit_at (2 ^ (n % 64)) (c % 64)) ≡ bit_at word (c % 64) = omega (arith, none) in
            ap (λ k. k == 1) (most ∙ ap (λ w. bit_at w (c % 64)) before)
            ∙ sym (ap (λ b. (bit_at (get_or words (c / 64) 0) (c % 64) == 1) || b) (ne_eqb n c differ) ∙ or-false _)
      ]
  | inr other ↦
      let differ : n ≢ c = λ e. other (ap (λ k. k / 64) (sym e)) in
      ap (λ w. bit_at w (c % 64) == 1) (get_or-set_other words (n / 64) (c / 64) _ 0 other)
      ∙ sym (ap (λ b. (bit_at (get_or words (c / 64) 0) (c % 64) == 1) || b) (ne_eqb n c differ) ∙ or-false _)
]

zero_at : (zeros : List ℕ) (n i : ℕ) → zeros ≡ replicate n 0 → get_or zeros i 0 ≡ 0
zero_at zeros n i is = elim (cases_lt i n) [
  | inl within ↦ ap (λ l. get_or l i 0) is ∙ get_or-replicate n i 0 0 within
  | inr past ↦ let long : length zeros ≡ n = ap length is ∙ length-replicate n 0 in get_or_past zeros i 0 (omega (arith, long))
]

pub AreBitsOf-none : (words : List ℕ) (n : ℕ) → words ≡ replicate n 0 → (pairs : List Pair) → AreBitsOf words (take 0 pairs)
unfolding has_bit is_listed_second
AreBitsOf-none words n zeros pairs c =
    ap (λ w. bit_at w (c % 64) == 1) (zero_at words n (c / 64) zeros) ∙ ap (λ k. k == 1) (bit_at-zero (c % 64))

pub AreBitsOf-more : (words : List ℕ) (pairs : List Pair) (place word : ℕ) → place < length pairs → let n = (pair_at pairs place).0 in n / 64 < length words → word ≡ get_or words (n / 64) word
    → AreBitsOf words (take place pairs) → AreBitsOf (with_bit words n word) (take (place + 1) pairs)
unfolding is_listed_second pair_at
AreBitsOf-more words pairs place word within wide read so_far c =
    let n = (pair_at pairs place).0 in
    has_bit-set words n word c wide (get_or_read words (n / 64) word wide read 0) ∙ ap (λ b. b || (n == c)) (so_far c)
    ∙ sym (list_any_more (λ p. p.0 == c) pairs place (0, 0, 0) within)

-- words for one second more
pub words_more : (pairs : List Pair) (place count more : ℕ) → more ≡ max count ((get_or pairs place (0, 0, 0)).0 / 64 + 1) → ((k : ℕ) → k < place → (pair_at pairs k).0 / 64 < count)
    → (k : ℕ) → k < place + 1 → (pair_at pairs k).0 / 64 < more
unfolding pair_at
words_more pairs place count more is so_far k below = elim (cases_lt k place) [
  | inl before ↦ let one = so_far k before in omega (arith, is)
  | inr last ↦
      let same : k ≡ place = omega arith in
      let here : (get_or pairs place (0, 0, 0)).0 / 64 < more = omega (arith, is) in
      subst (λ i. (get_or pairs i (0, 0, 0)).0 / 64 < more) (sym same) here
]

-- ---- a listed second has a pair with a result, and another character none

no_result : (pairs : List Pair) (first second : ℕ) → is_listed_second pairs second ≡ false → listed_result pairs first second ≡ None
unfolding is_listed_second listed_result
no_result [] first second none = refl
no_result (p ∷ pairs) first second none = elim (cases_eq p.0 second) [
  | inl same ↦ let here = eq-eqb p.0 second same in absurd (let no : true ≡ false = sym (ap (λ b. b || list_any (λ q. q.0 == second) pairs) here) ∙ none in cc)
  | inr other ↦
      let here = ne_eqb p.0 second other in
      let rest : is_listed_second pairs second ≡ false = sym (ap (λ b. b || list_any (λ q. q.0 == second) pairs) here) ∙ none in
      rw (is_of_other p first second other) (no_result pairs first second rest)
]

some_result : (pairs : List Pair) (second : ℕ) → is_listed_second pairs second ≡ true → (first : ℕ) × (r : ℕ) × (listed_result pairs first second ≡ Some r)
unfolding is_listed_second listed_result
some_result [] second some = absurd (cc)
some_result (p ∷ pairs) second some = elim (cases_eq p.0 second) [
  | inl same ↦ (p.1, p.2, rw (is_of_from p p.1 second same refl) refl)
  | inr other ↦
      let here = ne_eqb p.0 second other in
      let rest : is_listed_second pairs second ≡ true = sym (ap (λ b. b || list_any (λ q. q.0 == second) pairs) here) ∙ some in
      let found = some_result pairs second rest in
      (found.0, found.1, rw (is_of_other p found.0 second other) found.2)
]

pub listed_second-decides : (pairs : List Pair) (second : ℕ) (r : Bool) → r ≡ not (is_listed_second pairs second) → IsTrue r ↔ ((first : ℕ) → listed_result pairs first second ≡ None)
listed_second-decides pairs second r is = elim (cases_Bool (is_listed_second pairs second)) [
  | inl some ↦
      let no : r ≡ false = is ∙ ap not some in
      let found = some_result pairs second some in
      (λ yes. cc, λ none. let missing = none found.0 in cc (found.2))
  | inr none ↦ let yes : r ≡ true = is ∙ ap not none in (λ _ first. no_result pairs first second none, λ _. yes)
]

-- what may not be second composes with nothing before it
pub pair_of-none : (pairs : List Pair) (second : ℕ) → may_be_second pairs second ≡ false → (first : ℕ) → pair_of pairs first second ≡ None
unfolding may_be_second pair_of
pair_of-none pairs second none first =
    let parts = or_parts (is_vowel_or_trailing_jamo second) (is_listed_second pairs second) none in
    cond-false (is_vowel_or_trailing_jamo second) (compose_hangul first second) (listed_result pairs first second) parts.0 ∙ no_result pairs first second parts.1
