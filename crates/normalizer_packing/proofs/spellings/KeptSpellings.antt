-- Spellings that are kept beside entries.
use Rattle.std.proofs.Common.{◌≡◌, ℕ, ◌<◌, ◌+◌, ◌==◌, List, [], ◌∷◌, Option, Some, None, ◌++◌, length, filter_map, take, get_or, refl, arith, ap, sym, ◌∙◌, inl, inr}
use Rattle.std.specs.List.{cons_option, position, slice_get}
use Rattle.std.proofs.lemmas.List.{get_or-map}
use Rattle.std.proofs.lemmas.Option.{get_or_from_slice_get, slice_get_cases, slice_get_within}
use Rattle.normalizer_tables.specs.declared.entry.Kind.{Kind}
use Rattle.normalizer_tables.specs.declared.entry.Kind.TheVariants.{Canonical, Compatibility, Mapper}
use Rattle.normalizer_tables.specs.Entries.{EntryValue, class_in, entry_of, list_in, own_list}
use Rattle.normalizer_tables.proofs.lists.MadeLists.{filter_map-take_more}
use Rattle.normalizer_tables.proofs.lists.PlaceTables.{find_at_position, find_without_position}
use Rattle.normalizer_packing.specs.declared.spelled.Spellings.{Spellings}
use Rattle.normalizer_packing.specs.declared.spelling.Spelling.TheVariants.{Final, Short, Listed}
use Rattle.normalizer_packing.specs.Spelling.{spelling}
use Rattle.normalizer_packing.specs.Stored.{listed_of}
use Rattle.normalizer_packing.specs.inner.Spelled.{AreSpelled, spelled_in, spellings_of}
use Rattle.normalizer_packing.proofs.entry_data.EntryLemmas.{entry_of-own}

pub spelled_kind : (class : ℕ → ℕ) (kind : Kind) (e : EntryValue) → spelled_in kind (spellings_of class e) ≡ spelling class e.character (own_list kind e)
unfolding spellings_of
spelled_kind class Canonical e = refl
spelled_kind class Compatibility e = refl
spelled_kind class Mapper e = refl

list_in-entry : (kind : Kind) (entries : List EntryValue) (n : ℕ) (e : EntryValue) → entry_of entries n ≡ Some e → list_in kind entries n ≡ own_list kind e
unfolding list_in
list_in-entry kind entries n e found = grind arith

-- the spelling of an entry's list is that of its character's
pub spelled_entry : (kind : Kind) (entries : List EntryValue) (n : ℕ) (e : EntryValue) → entry_of entries n ≡ Some e →
    spelling (class_in entries) n (list_in kind entries n) ≡ spelling (class_in entries) e.character (own_list kind e)
spelled_entry kind entries n e found = rw (list_in-entry kind entries n e found, (entry_of-own entries n e found).0) refl

-- the list of an entry, if its word doesn't spell it, by the spelling that is kept
pub listed_by : (class : ℕ → ℕ) (kind : Kind) (e : EntryValue) (s : Spellings) → s ≡ spellings_of class e →
    listed_of class kind e ≡ elim (spelled_in kind s) [ Final w ↦ None | Short w ↦ None | Listed ↦ own_list kind e ]
unfolding listed_of
listed_by class kind e s is = rw (is, spelled_kind class kind e) refl

-- a character without an entry has the list of itself alone
pub spelled_alone : (kind : Kind) (entries : List EntryValue) (n : ℕ) → position (λ e. e.character == n) entries ≡ None → list_in kind entries n ≡ Some (n ∷ [])
unfolding list_in entry_of
spelled_alone kind entries n none = let missing = find_without_position {X = EntryValue} (λ e. e.character == n) entries none in grind arith

-- what the first entries make, with one more
pub made_more : {Y : Type 0} (entries : List EntryValue) (i : ℕ) (e : EntryValue) → slice_get entries i ≡ Some e → (f : EntryValue → Option Y) →
    filter_map f (take (i + 1) entries) ≡ filter_map f (take i entries) ++ cons_option (f e) []
made_more entries i e is f = filter_map-take_more entries i e (slice_get_within entries i e is) (sym (get_or_from_slice_get entries i e e is)) f

module _ (kind : Kind) (entries : List EntryValue) (spellings : List Spellings) (h : AreSpelled entries spellings) (n place : ℕ)
    (here : position (λ e. e.character == n) entries ≡ Some place) where
  there : (place < length entries) × (entry_of entries n ≡ slice_get entries place)
  unfolding entry_of
  there = find_at_position {X = EntryValue} (λ e. e.character == n) entries place here

  -- the spellings at the place of a character are those of its lists
  pub spelled_at : (s : Spellings) → s ≡ get_or spellings place s → spelled_in kind s ≡ spelling (class_in entries) n (list_in kind entries n)
  spelled_at s is = elim (slice_get_cases entries place).1 [
    | inl at ↦
        let e : EntryValue = at.0 in
        let f = spellings_of (class_in entries) in
        let found : entry_of entries n ≡ Some e = there.1 ∙ at.2 in
        let kept : s ≡ f e = is ∙ ap (λ l. get_or l place s) h.each ∙ get_or-map f entries place e s there.0 ∙ ap f at.3 in
        ap (spelled_in kind) kept ∙ spelled_kind (class_in entries) kind e ∙ sym (spelled_entry kind entries n e found)
    | inr past ↦ absurd (omega (arith, there.0, past.0))
  ]
