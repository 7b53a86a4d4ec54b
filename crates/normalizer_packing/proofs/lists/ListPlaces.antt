-- The places of lists in the four tables.
use Rattle.std.proofs.Common.{◌≡◌, ℕ, ◌+◌, ◌<◌, ◌≤◌, true, false, List, [], ◌∷◌, ◌++◌, length, Option, Some, None, if◌then◌else◌, All, refl, arith, sym, subst, ap, ◌∙◌, inl, inr}
use Rattle.std.proofs.lemmas.Bool.Decides.{nat_tests}
use Rattle.std.proofs.lemmas.Bool.{cases_Bool, or_cases, or_left, or_right}
use Rattle.std.proofs.lemmas.List.Elements.{All-head, All-tail}
use Rattle.std.specs.Option.{is_some}
use Rattle.normalizer_tables.specs.Characters.{Characters, as_text, items_at, listed_at, listed_in as listed_from, narrow_at, placed_in, wide_at}
use Rattle.normalizer_tables.specs.conditions.Conditions.{item_count, item_limit}
use Rattle.normalizer_tables.specs.Data.{Lists}
use Rattle.normalizer_tables.specs.declared.entry.Kind.{Kind}
use Rattle.normalizer_tables.specs.declared.entry.Kind.TheVariants.{Canonical, Compatibility, Mapper}
use Rattle.normalizer_packing.specs.declared.stores.Stores.{Stores}
use Rattle.normalizer_tables.specs.Entries.{EntryValue}
use Rattle.normalizer_packing.specs.inner.PackedWords.{CanPoint}
use Rattle.normalizer_packing.specs.Spelling.{list_eq}
use Rattle.normalizer_packing.specs.Stored.{HasLengthOfWord, canonical_lists, is_among, is_narrow, item_at, item_in, item_of, listed_in, low_length, needed_items, place_of}
use Rattle.normalizer_packing.specs.Stored.{supplementary_lists, tables_of}
use Rattle.normalizer_packing.specs.inner.Stores.{StandsAt, stored_place, tables_in}
use Rattle.normalizer_packing.proofs.lists.StoreLemmas.{is_some-place, narrow_length, place_if_some, placed}
use Rattle.normalizer_packing.proofs.lists.TableLemmas.{is_among-append, is_among-apart, is_among-first_come, same_list, stands_at_place}

-- a list is within its table
pub place_within : (t : Lists) (x : List ℕ) (place : ℕ) → StandsAt t x place → place + length x ≤ length (if is_narrow x then t.scalars16 else t.scalars24)
unfolding StandsAt items_at
place_within t x place h = grind (arith, nat_tests)

-- a list of which a word can tell the length isn't empty
pub length_of_word : (x : List ℕ) → HasLengthOfWord x → 0 < length x
unfolding HasLengthOfWord
length_of_word x h = let long = narrow_length x in grind arith

-- its item is one of those of the two tables
pub item_within : (t : Lists) (x : List ℕ) (place : ℕ) → 0 < length x → StandsAt t x place → item_at t x place < item_count t
unfolding item_at
item_within t x place some h = let within = place_within t x place h in grind arith

-- each of the lists is at its place
pub stands_among : (lists : List (List ℕ)) (x : List ℕ) → is_among x lists ≡ true → StandsAt (tables_of lists) x (place_of lists x)
unfolding StandsAt
stands_among lists x among = let stands = stands_at_place lists x among in grind arith

-- what holds of all lists holds of one among them
pub among_all : (P : List ℕ → Type 0) (x : List ℕ) (lists : List (List ℕ)) → All P lists → is_among x lists ≡ true → P x
unfolding is_among
among_all P x [] h is = cc
among_all P x (y ∷ lists) h is = elim (or_cases (list_eq x y) (is_among x lists) is) as (λ _. P x) [
  | inl same ↦ subst P (sym (same_list x y same)) (All-head P y lists h)
  | inr later ↦ among_all P x lists (All-tail P y lists h) later
]

module _ (entries : List EntryValue) (x : List ℕ) where
  among_canonical : is_among x (canonical_lists entries) ≡ is_among x (listed_in entries Canonical)
  unfolding canonical_lists
  among_canonical = is_among-first_come x (listed_in entries Canonical)

  among_others : (kind : Kind) → is_among x (listed_in entries kind) ≡ true → is_among x (listed_in entries Canonical) ≡ false →
      is_among x (listed_in entries Compatibility ++ listed_in entries Mapper) ≡ true
  among_others Canonical is other = cc
  among_others Compatibility is other = is_among-append x _ _ ∙ or_left _ _ is
  among_others Mapper is other = is_among-append x _ _ ∙ or_right _ _ is

  -- a list of one kind that canonical data don't need is in the supplementary tables
  pub among_supplementary : (kind : Kind) → is_among x (listed_in entries kind) ≡ true → is_among x (canonical_lists entries) ≡ false → is_among x (supplementary_lists entries) ≡ true
  unfolding supplementary_lists
  among_supplementary kind is other =
      let new : is_among x (listed_in entries Canonical) ≡ false = sym among_canonical ∙ other in
      is_among-apart (listed_in entries Canonical) (listed_in entries Compatibility ++ listed_in entries Mapper) x new ∙ among_others kind is new

  pub canonical_kind : is_among x (listed_in entries Canonical) ≡ true → is_among x (canonical_lists entries) ≡ true
  canonical_kind is = among_canonical ∙ is

  pub item_of-canonical : is_among x (canonical_lists entries) ≡ true → item_of entries x ≡ item_in (canonical_lists entries) x
  unfolding item_of
  item_of-canonical among = rw among refl

  pub item_of-supplementary : is_among x (canonical_lists entries) ≡ false → item_of entries x ≡ item_count (tables_of (canonical_lists entries)) + item_in (supplementary_lists entries) x
  unfolding item_of
  item_of-supplementary other = rw other refl

  -- the item of a list is one of those of the four tables
  pub item_of-within : (kind : Kind) → is_among x (listed_in entries kind) ≡ true → 0 < length x → item_of entries x < needed_items entries
  item_of-within kind listed some = elim (cases_Bool (is_among x (canonical_lists entries))) [
    | inl among ↦ omega (arith, item_of-canonical among, item_within _ x _ some (stands_among (canonical_lists entries) x among))
    | inr other ↦ omega (arith, item_of-supplementary other, item_within _ x _ some (stands_among (supplementary_lists entries) x (among_supplementary kind listed other)))
  ]

-- an item past two tables
past_both : (t : Lists) (low : ℕ) (after : ℕ → Option (List ℕ)) (k : ℕ) → listed_from t low after (item_count t + k) ≡ after k
unfolding listed_from placed_in
past_both t low after k = grind (arith, nat_tests)

-- the list that is at its place in one of two tables
given : (t : Lists) (x : List ℕ) (place : ℕ) (after : ℕ → Option (List ℕ)) → 0 < length x → as_text x ≡ Some x → StandsAt t x place → listed_from t (low_length x) after (item_at t x place) ≡ Some x
unfolding listed_from placed_in StandsAt item_at low_length narrow_at wide_at
given t x place after some text stands = let within = place_within t x place stands in let long = narrow_length x in grind (arith, nat_tests)

-- a list of one kind of data is in the tables from its item on
pub given_from : (entries : List EntryValue) (s : Characters) (x : List ℕ) (kind : Kind) → s.tables ≡ tables_of (canonical_lists entries) → 0 < length x → as_text x ≡ Some x →
    is_among x (listed_in entries kind) ≡ true → (is_among x (canonical_lists entries) ≡ false → s.supplementary ≡ tables_of (supplementary_lists entries)) →
    listed_at s (item_of entries x) (low_length x) ≡ Some x
unfolding listed_at
given_from entries s x kind first some text among second = elim (cases_Bool (is_among x (canonical_lists entries))) [
  | inl here ↦ rw (item_of-canonical entries x here, first) (given _ x _ (listed_from s.supplementary (low_length x) (λ past. None)) some text (stands_among (canonical_lists entries) x here))
  | inr other ↦
      let there = stands_among (supplementary_lists entries) x (among_supplementary entries x kind among other) in
      rw (item_of-supplementary entries x other, first, second other) (past_both _ (low_length x) (listed_from _ (low_length x) (λ past. None)) _ ∙ given _ x _ (λ past. None) some text there)
]

module _ (entries : List EntryValue) (s : Stores) (h : CanPoint entries s) (kind : Kind) (x : List ℕ) (listed : is_among x (listed_in entries kind) ≡ true) where
  -- a word has room for the length of each list in a table
  pub length_of_listed : HasLengthOfWord x
  length_of_listed = among_all HasLengthOfWord x (listed_in entries kind) (h.packable.lengths kind) listed

  -- and its item is within the limit
  within_limit : item_of entries x < item_limit
  within_limit = omega (arith, h.within, item_of-within entries x kind listed (length_of_word x length_of_listed))

  -- a list that the first store holds is in its tables
  module _ (place : ℕ) (found : stored_place s.canonical x ≡ Some place) where
    own_place : (is_among x (canonical_lists entries) ≡ true) × (place ≡ place_of (canonical_lists entries) x)
    own_place = place_if_some (canonical_lists entries) s.canonical x h.stored.canonical place found

    pub stands_first : StandsAt (tables_in s.canonical) x place
    stands_first = rw (own_place.1, h.stored.canonical.tables) (stands_among (canonical_lists entries) x own_place.0)

    pub item_first : item_at (tables_in s.canonical) x place ≡ item_of entries x
    item_first = rw (own_place.1, h.stored.canonical.tables) (sym (item_of-canonical entries x own_place.0))

    pub within_first : item_at (tables_in s.canonical) x place < item_limit
    within_first = omega (arith, item_first, within_limit)

  -- another is in those of the second
  module _ (nowhere : stored_place s.canonical x ≡ None) where
    not_canonical : is_among x (canonical_lists entries) ≡ false
    not_canonical = sym (is_some-place (canonical_lists entries) s.canonical x h.stored.canonical) ∙ ap is_some nowhere

    in_second : is_among x (supplementary_lists entries) ≡ true
    in_second = among_supplementary entries x kind listed not_canonical

    pub placed_second : stored_place s.supplementary x ≡ Some (place_of (supplementary_lists entries) x)
    placed_second = placed (supplementary_lists entries) s.supplementary x h.stored.supplementary in_second

    pub stands_second : StandsAt (tables_in s.supplementary) x (place_of (supplementary_lists entries) x)
    stands_second = rw h.stored.supplementary.tables (stands_among (supplementary_lists entries) x in_second)

    pub item_second : item_count (tables_in s.canonical) + item_at (tables_in s.supplementary) x (place_of (supplementary_lists entries) x) ≡ item_of entries x
    item_second = rw h.stored.supplementary.tables (omega (arith, ap item_count h.stored.canonical.tables, item_of-supplementary entries x not_canonical))

    pub within_second : item_count (tables_in s.canonical) + item_at (tables_in s.supplementary) x (place_of (supplementary_lists entries) x) < item_limit
    within_second = omega (arith, item_second, within_limit)

-- the place of a list of one kind, to which words can point
pub ruleset listed_places = (stands_first, item_first, within_first, placed_second, stands_second, item_second, within_second)
