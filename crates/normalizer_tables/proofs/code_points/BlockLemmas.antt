-- The words of a table in blocks.
use Rattle.std.proofs.Common.{add-one, ltb, nat_eq, ◌≡◌, ℕ, ◌+◌, ◌*◌, ◌/◌, ◌%◌, ◌<◌, ◌≤◌, List, [], ◌∷◌, ◌++◌, length, get_or}
use Rattle.std.proofs.Common.{Bool, None, refl, inl, inr, arith, ap, sym, subst, ◌∙◌, ◌-◌, zero, suc, zero-add, replicate, append_assoc}
use Rattle.std.specs.List.{position, position_or_len}
use Rattle.std.proofs.lemmas.Grind.{common_steps}
use Rattle.std.proofs.lemmas.List.Sums.{passes_at_first, prefix_len-le-length}
use Rattle.std.specs.Cmp.Lexicographic.{pointwise, bytes_decides}
use Rattle.std.proofs.lemmas.List.{ext_get_or, get_or_read, get_or_push, get_or_append_left, length_push, replicate_more}
use Rattle.std.proofs.lemmas.List.FromFn.{get_or-map-range_with_len, length-map-range_with_len, map-range_with_len_more}
use Rattle.std.proofs.lemmas.Bool.{cases_lt, cond_both, ltb-true, ltb-false, lt-ltb, eq-eqb}
use Rattle.std.proofs.lemmas.List.Folds.{position_or_len_push}
use Rattle.normalizer_tables.specs.Table.{Block, block_places}
use Rattle.normalizer_tables.specs.inner.Blocks.{block_at, stored_word, stored_words, block_of, number_in, joined_blocks, blocks_to, numbers_to, AreLeft, AreNumbered, IsStored}
use Rattle.normalizer_tables.specs.Ranges.{WordRange, word_in, words_of}
use Rattle.normalizer_tables.specs.Table.{code_points}

pub length-stored_words : (blocks : List Block) (numbers : List ℕ) → length (stored_words blocks numbers) ≡ code_points
unfolding stored_words
length-stored_words blocks numbers = length-map-range_with_len (stored_word blocks numbers) 0 code_points

-- the word of a code point is that of its place in its block
pub get_or-stored_words : (blocks : List Block) (numbers : List ℕ) (n above : ℕ) → n < code_points → get_or (stored_words blocks numbers) n above ≡ get_or (block_at blocks numbers (n / 64)) (n % 64) 0
unfolding stored_words stored_word
get_or-stored_words blocks numbers n above low = get_or-map-range_with_len (stored_word blocks numbers) 0 code_points n n above low (zero-add n)

pub place-within : (n : ℕ) → n < code_points → n / 64 < block_places
unfolding code_points
place-within n low = omega arith

-- a block of the words of ranges
pub block_of-words_of : (rs : List WordRange) (place : ℕ) (block : Block) → place < block_places → length block ≡ 64 → ((k : ℕ) → k < 64 → get_or block k 0 ≡ word_in rs (place * 64 + k))
    → block ≡ block_of (words_of rs) place
unfolding words_of code_points
block_of-words_of rs place block low long words = ext_get_or 0 _ _ (long ∙ sym (length-map-range_with_len (λ n. get_or (words_of rs) n 0) (64 * place) 64)) (λ j below.
    let inside : j < 64 = omega arith in
    words j inside
    ∙ sym (get_or-map-range_with_len (word_in rs) 0 code_points (place * 64 + j) (place * 64 + j) 0 (omega arith) (zero-add (place * 64 + j)))
    ∙ sym (get_or-map-range_with_len (λ n. get_or (words_of rs) n 0) (64 * place) 64 j (place * 64 + j) 0 inside (omega arith)))

module _ (bs : List Block) (b : Block) where
  pub number_in-le : number_in bs b ≤ length bs
  number_in-le = prefix_len-le-length _ bs

  -- a block is at its number, and the others are where they were
  joined-here : (number_in bs b < length (joined_blocks bs b)) × (get_or (joined_blocks bs b) (number_in bs b) [] ≡ b)
  joined-here = cond_both (ltb (number_in bs b) (length bs)) bs (bs ++ b ∷ []) (λ cs. (number_in bs b < length cs) × (get_or cs (number_in bs b) [] ≡ b))
      (λ kept. (ltb-true _ _ kept, sym ((bytes_decides _ _).0 (passes_at_first (pointwise nat_eq b) bs [] (ltb-true _ _ kept)))))
      (λ new.
      let last : length bs ≡ number_in bs b = omega (arith, ltb-false _ _ new, number_in-le) in
      (omega (arith, length_push bs b), get_or_push bs b [] _ last))

  joined-earlier : (j : ℕ) → j < length bs → (j < length (joined_blocks bs b)) × (get_or (joined_blocks bs b) j [] ≡ get_or bs j [])
  joined-earlier j below = cond_both (ltb (number_in bs b) (length bs)) bs (bs ++ b ∷ []) (λ cs. (j < length cs) × (get_or cs j [] ≡ get_or bs j []))
      (λ _. (below, refl)) (λ _. (omega (arith, length_push bs b), get_or_append_left bs (b ∷ []) [] j below))

  joined-length : length (joined_blocks bs b) ≤ length bs + 1
  joined-length = cond_both (ltb (number_in bs b) (length bs)) bs (bs ++ b ∷ []) (λ cs. length cs ≤ length bs + 1) (λ _. omega arith) (λ _. omega (arith, length_push bs b))

-- the number of a block is that of the block that has joined
pub number_in-joined : (bs : List Block) (b : Block) → (number_in (joined_blocks bs b) b ≡ number_in bs b) × (number_in bs b < length (joined_blocks bs b))
number_in-joined bs b = (
  cond_both (ltb (number_in bs b) (length bs)) bs (bs ++ b ∷ []) (λ cs. number_in cs b ≡ number_in bs b) (λ _. refl)
      (λ new.
      let last : number_in bs b ≡ length bs = omega (arith, ltb-false _ _ new, number_in-le bs b) in
      position_or_len_push (pointwise nat_eq b) bs b ∙ rw (last, (bytes_decides b b).1 refl, eq-eqb (length bs) (length bs) refl) (omega arith)),
  (joined-here bs b).0,
)

-- one more place
pub blocks_to-more : (words : List ℕ) (n : ℕ) → blocks_to words (n + 1) ≡ joined_blocks (blocks_to words n) (block_of words n)
unfolding blocks_to
blocks_to-more words n = ap (blocks_to words) (add-one n)

pub numbers_to-more : (words : List ℕ) (n : ℕ) → numbers_to words (n + 1) ≡ numbers_to words n ++ number_in (blocks_to words n) (block_of words n) ∷ []
unfolding numbers_to
numbers_to-more words n = map-range_with_len_more (λ place. number_in (blocks_to words place) (block_of words place)) 0 n n (zero-add n)

-- a block that is kept joins as it is
joined_blocks-kept : (bs : List Block) (b : Block) → number_in bs b < length bs → joined_blocks bs b ≡ bs
joined_blocks-kept bs b kept = rw (lt-ltb _ _ kept) refl

-- the places before `end` are stored if those before `place` are, and each from there on has this block
abbrev AreAlike : List ℕ → (place : ℕ) → Block → (n end : ℕ) → Type 0
AreAlike words place b n end = (blocks_to words end ≡ joined_blocks (blocks_to words place) b)
    × (numbers_to words end ≡ numbers_to words place ++ replicate n (number_in (blocks_to words place) b))

alike : (words : List ℕ) (place : ℕ) (b : Block) (n : ℕ) → ((k : ℕ) → place ≤ k → k < place + (n + 1) → block_of words k ≡ b) → AreAlike words place b (n + 1) (place + (n + 1))
alike words place b zero h =
    let here = h place (omega arith) (omega arith) in (
      blocks_to-more words place ∙ ap (joined_blocks (blocks_to words place)) here,
      numbers_to-more words place ∙ ap (λ c. numbers_to words place ++ number_in (blocks_to words place) c ∷ []) here,
    )
alike words place b (suc n) h =
    let before = alike words place b n (λ k from below. h k from (omega arith)) in
    let m = place + (n + 1) in
    let x = number_in (blocks_to words place) b in
    let here : block_of words m ≡ b = h m (omega arith) (omega arith) in
    let next : place + (n + 1) + 1 ≡ place + (suc n + 1) = omega arith in
    let more : n + 1 + 1 ≡ suc n + 1 = omega arith in
    let joins = number_in-joined (blocks_to words place) b in
    let kept : number_in (joined_blocks (blocks_to words place) b) b < length (joined_blocks (blocks_to words place) b) = omega (arith, joins.0, joins.1) in
    subst (λ e. AreAlike words place b (suc n + 1) e) next (
      blocks_to-more words m ∙ ap (λ c. joined_blocks (blocks_to words m) c) here ∙ ap (λ bs. joined_blocks bs b) before.0 ∙ joined_blocks-kept _ b kept,
      numbers_to-more words m ∙ ap (λ c. numbers_to words m ++ number_in (blocks_to words m) c ∷ []) here ∙ ap (λ bs. numbers_to words m ++ number_in bs b ∷ []) before.0
          ∙ ap (λ k. numbers_to words m ++ k ∷ []) joins.0 ∙ ap (λ ns. ns ++ x ∷ []) before.1 ∙ append_assoc (numbers_to words place) (replicate (n + 1) x) (x ∷ [])
          ∙ ap (λ l. numbers_to words place ++ l) (replicate_more (n + 1) x ∙ ap (λ k. replicate k x) more),
    )

-- places that have a number after those that are stored
pub numbered_more : (rs left : List WordRange) (place end number : ℕ) (old new : List Block) → place < end → end ≤ block_places → AreLeft rs (place * 64) left
    → AreNumbered left place end old new number → old ≡ blocks_to (words_of rs) place
    → (new ≡ blocks_to (words_of rs) end) × (numbers_to (words_of rs) end ≡ numbers_to (words_of rs) place ++ replicate (end - place) number)
unfolding AreNumbered
numbered_more rs left place end number old new some low from is before =
    let words = words_of rs in
    let n = end - place - 1 in
    let last : place + (n + 1) ≡ end = omega arith in
    let count : n + 1 ≡ end - place = omega arith in
    let same = alike words place is.0 n (λ k first below.
    (let block = is.1 k first (omega arith) in
    sym (block_of-words_of rs k is.0 (omega arith) block.long (λ j within. block.words j within ∙ from.words (k * 64 + j) (omega arith))))) in
    let blocks = subst (λ e. blocks_to words e ≡ joined_blocks (blocks_to words place) is.0) last same.0 in
    let numbers = subst (λ e. numbers_to words e ≡ numbers_to words place ++ replicate (n + 1) (number_in (blocks_to words place) is.0)) last same.1 in (
      is.2.0 ∙ ap (λ bs. joined_blocks bs is.0) before ∙ sym blocks,
      numbers ∙ ap (λ k. numbers_to words place ++ replicate k (number_in (blocks_to words place) is.0)) count
          ∙ ap (λ bs. numbers_to words place ++ replicate (end - place) (number_in bs is.0)) (sym before)
          ∙ ap (λ k. numbers_to words place ++ replicate (end - place) k) (sym is.2.1),
    )

pub length-blocks_to : (words : List ℕ) (n : ℕ) → length (blocks_to words n) ≤ n
unfolding blocks_to
length-blocks_to words zero = omega arith
length-blocks_to words (suc n) = omega (arith, joined-length (blocks_to words n) (block_of words n), length-blocks_to words n)

pub number-low : (rs left : List WordRange) (place end number : ℕ) (old new : List Block) → AreNumbered left place end old new number → old ≡ blocks_to (words_of rs) place → number ≤ place
unfolding AreNumbered
number-low rs left place end number old new is before =
    omega (arith, is.2.1, number_in-le old is.0, ap length before, length-blocks_to (words_of rs) place)

pub length-numbers_to : (words : List ℕ) (n : ℕ) → length (numbers_to words n) ≡ n
unfolding numbers_to
length-numbers_to words n = length-map-range_with_len (λ place. number_in (blocks_to words place) (block_of words place)) 0 n

-- the number of each place is that of its block
block_numbered : (words : List ℕ) (n k : ℕ) → k < n
    → (number_in (blocks_to words k) (block_of words k) < length (blocks_to words n)) × (get_or (blocks_to words n) (number_in (blocks_to words k) (block_of words k)) [] ≡ block_of words k)
unfolding blocks_to
block_numbered words zero k below = absurd (omega arith)
block_numbered words (suc n) k below = elim (cases_lt k n) [
  | inl earlier ↦
      let before = block_numbered words n k earlier in
      let still = joined-earlier (blocks_to words n) (block_of words n) _ before.0 in
      (still.0, still.1 ∙ before.1)
  | inr last ↦
      let same : n ≡ k = omega arith in
      subst (λ m. (number_in (blocks_to words m) (block_of words m) < length (blocks_to words (suc n)))
      × (get_or (blocks_to words (suc n)) (number_in (blocks_to words m) (block_of words m)) [] ≡ block_of words m))
      same (joined-here (blocks_to words n) (block_of words n))
]

pub block_at-to : (words : List ℕ) (n k : ℕ) → k < n → (get_or (numbers_to words n) k 0 < length (blocks_to words n)) × (block_at (blocks_to words n) (numbers_to words n) k ≡ block_of words k)
unfolding numbers_to block_at
block_at-to words n k below =
    rw (get_or-map-range_with_len (λ place. number_in (blocks_to words place) (block_of words place)) 0 n k k 0 below (zero-add k)) (block_numbered words n k below)

module _ (blocks : List Block) (numbers words : List ℕ) (s : IsStored blocks numbers words) where
  pub length-numbers : length numbers ≡ block_places
  length-numbers = ap length s.in_order ∙ length-numbers_to words block_places

  pub block_at-stored : (k : ℕ) → k < block_places → (get_or numbers k 0 < length blocks) × (block_at blocks numbers k ≡ block_of words k)
  block_at-stored k low = rw (s.in_blocks, s.in_order) (block_at-to words block_places k low)

  -- the words can be read from blocks and numbers
  pub stored_words-same : length words ≡ code_points → stored_words blocks numbers ≡ words
  stored_words-same long = ext_get_or 0 _ words (length-stored_words blocks numbers ∙ sym long) (λ n below.
      let low : n < code_points = omega (arith, length-stored_words blocks numbers) in
      get_or-stored_words blocks numbers n 0 low
      ∙ ap (λ b. get_or b (n % 64) 0) (block_at-stored (n / 64) (place-within n low)).1
      ∙ get_or-map-range_with_len (λ m. get_or words m 0) (64 * (n / 64)) 64 (n % 64) n 0 (omega arith) (omega arith))

  -- the number at a place is that of a block
  pub stored_number-within : (k number : ℕ) → k < block_places → number ≡ get_or numbers k number → number < length blocks
  stored_number-within k number low is =
      let here : number ≡ get_or numbers k 0 = get_or_read numbers k number (omega (arith, length-numbers)) is 0 in
      omega (arith, (block_at-stored k low).0)

-- after all places they store the words of the ranges
pub IsStored-words_of : (rs : List WordRange) (blocks : List Block) (numbers : List ℕ) (n : ℕ) → n ≤ block_places → block_places ≤ n → blocks ≡ blocks_to (words_of rs) n
    → numbers ≡ numbers_to (words_of rs) n → (stored_words blocks numbers ≡ words_of rs) × IsStored blocks numbers (stored_words blocks numbers)
unfolding words_of
IsStored-words_of rs blocks numbers n within all in_blocks in_order =
    let whole : n ≡ block_places = omega arith in
    let stored : IsStored blocks numbers (words_of rs) = record { in_blocks = in_blocks ∙ ap (blocks_to (words_of rs)) whole; in_order = in_order ∙ ap (numbers_to (words_of rs)) whole } in
    let same : stored_words blocks numbers ≡ words_of rs = stored_words-same blocks numbers (words_of rs) stored (length-map-range_with_len (word_in rs) 0 code_points) in
    (same, subst (IsStored blocks numbers) (sym same) stored)

module _ (blocks : List Block) (numbers words : List ℕ) (stored : IsStored blocks numbers words) (place number : ℕ) (low : place < block_places) (is : number ≡ get_or numbers place number) where
  -- the number at a place is that of its block
  pub block_at-number : get_or blocks number [] ≡ block_at blocks numbers place
  unfolding block_at
  block_at-number = ap (λ k. get_or blocks k []) (get_or_read numbers place number (omega (arith, length-numbers blocks numbers words stored)) is 0)

  -- two look-ups at a place find its block
  pub block_at-looked_up : (block : Block) → block ≡ get_or blocks number block → block ≡ block_at blocks numbers place
  block_at-looked_up block found = get_or_read blocks number block (stored_number-within _ _ _ stored _ _ low is) found [] ∙ block_at-number

-- if there is no first that passes, none is met before the end
pub position-None : {X : Type 0} (p : X → Bool) (xs : List X) → position p xs ≡ None → length xs ≤ position_or_len p xs
position-None p xs none = grind (arith, common_steps)
