-- The places of characters in a list, by a word for each code point.
use Rattle.std.proofs.Common.{◌≡◌, ◌≢◌, Bool, ℕ, ◌<◌, ◌≤◌, ◌+◌, ◌-◌, ◌==◌, true, false, List, [], ◌∷◌, AllPairs, length, get_or, map, find, cond, not, Some, None, Option, Bor, IsSome, IfSome, option_copied, refl, arith, ap, sym, ◌∙◌, inl, inr, zero, suc, zero-add, slice_index}
use Rattle.std.proofs.lemmas.Bool.{cases_lt, eqb-true, lt-ltb, le-ltb}
use Rattle.std.proofs.lemmas.Bool.Decides.{nat_tests}
use Rattle.std.proofs.lemmas.List.{get_or-map, length-map}
use Rattle.std.proofs.lemmas.List.Folds.{find_at}
use Rattle.std.proofs.lemmas.List.FromFn.{get_or-map-range_with_len, length-map-range_with_len}
use Rattle.std.proofs.lemmas.List.Sums.{fails_before_first, passes_at_first}
use Rattle.std.proofs.lemmas.Option.{same_Some, slice_get_past, slice_get_read}
use Rattle.std.specs.List.{position, position_or_len, range_with_len, slice_get}
use Rattle.normalizer_tables.specs.Places.{place_word, place_in, ArePlaces}
use Rattle.normalizer_tables.specs.Ranges.{WordRange, IsRangeList, word_in, words_of}
use Rattle.normalizer_tables.specs.Table.{code_points}
use Rattle.normalizer_tables.proofs.code_points.WordsInRanges.{Misses, word_in-held, word_in-missed}

-- the range of a character alone, with its place
abbrev pub place_range : List ℕ → ℕ → WordRange
place_range cs place = (get_or cs place 0, get_or cs place 0, place + 1)

-- the ranges of the first characters
abbrev pub place_ranges : List ℕ → ℕ → List WordRange
place_ranges cs end = map (place_range cs) (range_with_len 0 end)

abbrev any_range : WordRange
any_range = (0, 0, 0)

-- the first range that holds a number decides
word_in-at : (rs : List WordRange) (n k : ℕ) → k < length rs → (get_or rs k any_range).0 ≤ n → n ≤ (get_or rs k any_range).1
    → ((j : ℕ) → j < k → Misses n (get_or rs j any_range)) → word_in rs n ≡ (get_or rs k any_range).2
word_in-at [] n k within low high misses = absurd (omega arith)
word_in-at (r ∷ rs) n zero within low high misses = word_in-held r rs n low high
word_in-at (r ∷ rs) n (suc k) within low high misses =
    word_in-missed r rs n (misses 0 (omega arith)) ∙ word_in-at rs n k (omega arith) low high (λ j below. misses (suc j) (omega arith))

word_in-none : (rs : List WordRange) (n : ℕ) → ((k : ℕ) → k < length rs → Misses n (get_or rs k any_range)) → word_in rs n ≡ 0
unfolding word_in
word_in-none [] n misses = refl
word_in-none (r ∷ rs) n misses = word_in-missed r rs n (misses 0 (omega arith)) ∙ word_in-none rs n (λ k within. misses (suc k) (omega arith))

misses : (n m : ℕ) (w : ℕ) → (m == n) ≡ false → Misses n (m, m, w)
misses n m w other = elim (cases_lt m n) [
  | inl below ↦ inl below
  | inr from ↦ inr (let differ : m ≢ n = λ same. (let yes : (m == n) ≡ true = grind (arith, nat_tests) in cc) in omega (arith, differ))
]

module _ (cs : List ℕ) where
  range_at : (k : ℕ) → k < length cs → get_or (place_ranges cs (length cs)) k any_range ≡ place_range cs k
  range_at k within = get_or-map-range_with_len (place_range cs) 0 (length cs) k k any_range within (omega arith)

  -- the place of a character is the word of its range
  pub word_in-places : (n : ℕ) → word_in (place_ranges cs (length cs)) n ≡ place_word cs n
  unfolding place_word
  word_in-places n =
      let place = position_or_len (λ c. c == n) cs in
      let long = length-map-range_with_len (place_range cs) 0 (length cs) in
      let before : (k : ℕ) → k < place → k < length cs → Misses n (get_or (place_ranges cs (length cs)) k any_range) =
      λ k below within. rw (range_at k within) (misses n (get_or cs k 0) (k + 1) (fails_before_first (λ c. c == n) cs k 0 below)) in
      elim (cases_lt place (length cs)) [
        | inl here ↦
            let same : get_or cs place 0 ≡ n = eqb-true _ _ (passes_at_first (λ c. c == n) cs 0 here) in
            let range = range_at place here in
            let value = word_in-at (place_ranges cs (length cs)) n place (omega arith) (rw range (omega arith)) (rw range (omega arith)) (λ j below. before j below (omega arith)) in
            rw (lt-ltb place (length cs) here) (value ∙ ap (λ (r : WordRange). r.2) range)
        | inr past ↦
            rw (le-ltb place (length cs) past) (word_in-none (place_ranges cs (length cs)) n (λ k within. before k (omega arith) (omega arith)))
      ]

  module _ (rising : AllPairs (λ c d. c < d) cs) where
    -- as many numbers are below a character as there are characters before it
    pub place-le : (k : ℕ) → k < length cs → k ≤ get_or cs k 0
    place-le zero within = omega arith
    place-le (suc k) within = omega (arith, place-le k (omega arith), rising k (suc k) 0 (omega arith) within)

    pub IsRangeList-places : ((k : ℕ) → k < length cs → get_or cs k 0 < code_points) → IsRangeList (place_ranges cs (length cs))
    IsRangeList-places low =
        let long = length-map-range_with_len (place_range cs) 0 (length cs) in
        record {
          ranges = λ k d within. rw (get_or-map-range_with_len (place_range cs) 0 (length cs) k k d (omega arith) (omega arith)) (omega arith, low k (omega arith));
          rising = λ i j d below within.
              rw (
                get_or-map-range_with_len (place_range cs) 0 (length cs) i i d (omega arith) (omega arith),
                get_or-map-range_with_len (place_range cs) 0 (length cs) j j d (omega arith) (omega arith),
              ) (rising i j 0 below (omega arith));
        }

  pub ArePlaces-words : (words : List ℕ) (rs : List WordRange) → words ≡ words_of rs → rs ≡ place_ranges cs (length cs) → ArePlaces cs words
  unfolding ArePlaces words_of
  ArePlaces-words words rs made is n low =
      ap (λ ws. get_or ws n 0) made ∙ get_or-map-range_with_len (word_in rs) 0 code_points n n 0 low (zero-add n) ∙ ap (λ qs. word_in qs n) is ∙ word_in-places n

place_word-here : (cs : List ℕ) (n : ℕ) → position_or_len (λ c. c == n) cs < length cs → place_word cs n ≡ position_or_len (λ c. c == n) cs + 1
unfolding place_word
place_word-here cs n here = rw (lt-ltb (position_or_len (λ c. c == n) cs) (length cs) here) refl

place_word-past : (cs : List ℕ) (n : ℕ) → length cs ≤ position_or_len (λ c. c == n) cs → place_word cs n ≡ 0
unfolding place_word
place_word-past cs n past = rw (le-ltb (position_or_len (λ c. c == n) cs) (length cs) past) refl

place_in-none : (words : List ℕ) (n : ℕ) → slice_index words n ≡ 0 → place_in words n ≡ None
unfolding place_in
place_in-none words n is = rw is refl

place_in-some : (words : List ℕ) (n p : ℕ) → slice_index words n ≡ p + 1 → place_in words n ≡ Some p
unfolding place_in
place_in-some words n p is =
    let more : (p + 1 == 0) ≡ false = grind (arith, nat_tests) in
    let less : p + 1 - 1 ≡ p = omega arith in
    rw (is, more, less) refl

position-map : {X : Type 0} (key : X → ℕ) (n : ℕ) (xs : List X) → position_or_len (λ c. c == n) (map key xs) ≡ position_or_len (λ x. key x == n) xs
position-map key n [] = refl
position-map key n (x ∷ xs) = ap (λ m. cond (not (key x == n)) (1 + m) 0) (position-map key n xs)

-- the place of an item by its key is the one that the words have
pub place_in-position : {X : Type 0} (key : X → ℕ) (xs : List X) (words : List ℕ) → ArePlaces (map key xs) words → (n : ℕ) → n < code_points →
    place_in words n ≡ position (λ x. key x == n) xs
unfolding ArePlaces
place_in-position key xs words s n low =
    let cs = map key xs in
    let place = position_or_len (λ c. c == n) cs in
    let same = position-map key n xs in
    let long = length-map xs key in
    elim (cases_lt place (length cs)) [
      | inl here ↦ rw (sym same, sym long, lt-ltb place (length cs) here) (place_in-some words n place (s n low ∙ place_word-here cs n here))
      | inr past ↦ rw (sym same, sym long, le-ltb place (length cs) past) (place_in-none words n (s n low ∙ place_word-past cs n past))
    ]

-- the item at the place is the one that is found
module _ {X : Type 0} (p : X → Bool) (xs : List X) where
  pub find_at_position : (k : ℕ) → position p xs ≡ Some k → (k < length xs) × (find p xs ≡ slice_get xs k)
  find_at_position k at = elim (cases_lt (position_or_len p xs) (length xs)) [
    | inl here ↦
        let same : position_or_len p xs ≡ k = same_Some _ k (rw (lt-ltb (position_or_len p xs) (length xs) here) at at) in
        (omega (arith, same, here), find_at p xs ∙ ap (slice_get xs) same)
    | inr past ↦ absurd (let none = rw (le-ltb (position_or_len p xs) (length xs) past) at at in cc)
  ]

  pub find_lent : (k : ℕ) → position p xs ≡ Some k → (o : Option (Bor X)) → (k < length xs → IsSome o) → IfSome o (λ x. x.now ≡ get_or xs k x.now) → option_copied o ≡ find p xs
  find_lent k at None some read = let there = some (find_at_position k at).0 in cc
  find_lent k at (Some x) some read = let there = find_at_position k at in sym (there.1 ∙ slice_get_read xs (length xs) k x.now refl there.0 read)

  pub find_without_position : position p xs ≡ None → find p xs ≡ None
  find_without_position none = elim (cases_lt (position_or_len p xs) (length xs)) [
    | inl here ↦ absurd (let some = rw (lt-ltb (position_or_len p xs) (length xs) here) at none in cc)
    | inr past ↦ find_at p xs ∙ slice_get_past xs (position_or_len p xs) past
  ]

-- the key of an item that was read
pub key_read : {X : Type 0} (key : X → ℕ) (xs : List X) (i : ℕ) (x : X) → i < length xs → x ≡ get_or xs i x → get_or (map key xs) i 0 ≡ key x
key_read key xs i x within is = get_or-map key xs i x 0 within ∙ ap key (sym is)

-- keys that rise
pub rising_keys : {X : Type 0} (key : X → ℕ) (xs : List X) → AllPairs (λ x y. key x < key y) xs → AllPairs (λ c d. c < d) (map key xs)
rising_keys key [] rising i j d below within = absurd (omega arith)
rising_keys key (x ∷ xs) rising i j d below within =
    let long = length-map (x ∷ xs) key in
    omega (arith, get_or-map key (x ∷ xs) i x d (omega arith), get_or-map key (x ∷ xs) j x d (omega arith), rising i j x below (omega arith))
