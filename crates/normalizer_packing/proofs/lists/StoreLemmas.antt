-- What a store holds, list by list.
use Rattle.std.proofs.Common.{◌≡◌, ℕ, ◌+◌, ◌<◌, ◌≤◌, Bool, true, false, List, [], ◌∷◌, ◌++◌, length, take, get_or, Some, None, cond, if◌then◌else◌, nat_le, refl, arith, ap}
use Rattle.std.proofs.Common.{sym, ◌∙◌}
use Rattle.std.specs.List.{filter_map}
use Rattle.std.proofs.lemmas.Bool.{and_parts, leb-true}
use Rattle.std.proofs.lemmas.List.{take_all}
use Rattle.std.proofs.lemmas.List.Sums.{AllPass-from_list_all}
use Rattle.normalizer_tables.specs.conditions.Conditions.{item_count}
use Rattle.normalizer_tables.specs.Data.{Lists}
use Rattle.normalizer_tables.specs.declared.entry.Kind.{Kind}
use Rattle.normalizer_tables.specs.Entries.{EntryValue, class_in}
use Rattle.normalizer_packing.specs.Spelling.{list_eq}
use Rattle.normalizer_packing.specs.Stored.{apart_from, canonical_lists, first_come, listed_in, listed_of, is_among, is_narrow, items_of, needed_items, place_of, supplementary_lists, tables_of}
use Rattle.normalizer_packing.specs.inner.Stores.{AreStored, Holds, HoldsMore, stored_place, tables_in, with_list}
use Rattle.normalizer_packing.specs.declared.store.Store.{Store}
use Rattle.std.specs.BTreeMap.{UpdatesBy, get_by}
use Rattle.std.specs.Cmp.Lexicographic.{slice_cmp}
use Rattle.std.specs.Ordering.{nat_cmp}
use Rattle.std.specs.Option.{is_some}
use Rattle.std.proofs.lemmas.Map.Text.{btree_map_updates_str}
use Rattle.normalizer_packing.proofs.lists.TableLemmas.{apart_from-more, eq_list, is_among-append, is_among-first_come, is_among-one, items_of-more, place_of-end, place_of-kept}
use Rattle.normalizer_packing.proofs.lists.TableLemmas.{same_list}

module _ (lists : List (List ℕ)) (s : Store) (x : List ℕ) (h : Holds lists s) where
  -- a list that has a place is among them, and has its own
  pub place_if_some : (n : ℕ) → stored_place s x ≡ Some n → (is_among x lists ≡ true) × (n ≡ place_of lists x)
  place_if_some n placed = let here = h.places x in (grind arith, grind arith)

  pub is_some-place : is_some (stored_place s x) ≡ is_among x lists
  is_some-place = let here = h.places x in grind arith

  pub placed : is_among x lists ≡ true → stored_place s x ≡ Some (place_of lists x)
  placed among = h.places x ∙ rw among refl

  -- a list that it holds changes nothing
  pub Holds-there : is_among x lists ≡ true → Holds (with_list lists x) s
  unfolding with_list
  Holds-there among = rw among h

  -- another list is appended to those of its table
  module _ (new : Store) (n : ℕ) (b : Bool) (narrow : is_narrow x ≡ b) (fresh : is_among x lists ≡ false) (finds : (y : List ℕ) → stored_place new y ≡ cond (list_eq x y) (Some n) (stored_place s y))
      (at_end : n ≡ length (if b then s.scalars16.items else s.scalars24.items)) where
    place_put : (y : List ℕ) → stored_place new y ≡ (if is_among y (lists ++ x ∷ []) then Some (place_of (lists ++ x ∷ []) y) else None)
    place_put y =
        let found = finds y in
        let held = h.places y in
        let among = is_among-append y lists (x ∷ []) in
        let one = is_among-one y x in
        let same = same_list x y in
        let back = same_list y x in
        let equal = eq_list y x in
        let first = ap (λ (t : Lists). t.scalars16) h.tables in
        let second = ap (λ (t : Lists). t.scalars24) h.tables in
        let ends = place_of-end lists x fresh in
        let kept = place_of-kept lists y x in
        grind arith

    pub Holds-put : new.scalars16.items ≡ s.scalars16.items ++ (if b then x else []) → new.scalars24.items ≡ s.scalars24.items ++ (if b then [] else x) → Holds (with_list lists x) new
    unfolding with_list
    Holds-put narrow_items wide_items =
        let first = ap (λ (t : Lists). t.scalars16) h.tables in
        let second = ap (λ (t : Lists). t.scalars24) h.tables in
        let narrow_table : new.scalars16.items ≡ items_of true (lists ++ x ∷ []) = let more = items_of-more true lists x in grind arith in
        let wide_table : new.scalars24.items ≡ items_of false (lists ++ x ∷ []) = let more = items_of-more false lists x in grind arith in
        rw fresh (record { tables = λ i. record { scalars16 = narrow_table i; scalars24 = wide_table i }; places = place_put })

-- the lists of the first entries
unfoldable pub listed_so_far : Kind → List EntryValue → ℕ → List (List ℕ)
listed_so_far kind entries n = filter_map (listed_of (class_in entries) kind) (take n entries)

-- a member of a list in a table of 16-bit numbers is one
pub narrow_member : (x : List ℕ) (k d : ℕ) → is_narrow x ≡ true → k < length x → get_or x k d ≤ 0xFFFF
unfolding is_narrow
narrow_member x k d narrow within = leb-true _ _ (AllPass-from_list_all (λ c. nat_le c 0xFFFF) x (and_parts _ _ narrow).1 k d within)

pub listed_so_far-none : (kind : Kind) (entries : List EntryValue) → listed_so_far kind entries 0 ≡ []
unfolding listed_so_far
listed_so_far-none kind [] = refl
listed_so_far-none kind (e ∷ entries) = refl

pub listed_so_far-all : (kind : Kind) (entries : List EntryValue) (n : ℕ) → length entries ≤ n → listed_so_far kind entries n ≡ listed_in entries kind
unfolding listed_so_far listed_in
listed_so_far-all kind entries n past = ap (filter_map (listed_of (class_in entries) kind)) (take_all n entries past)

-- the places of lists after one is put into the map of places
pub place_updated : (old mid new : Store) (x : List ℕ) (n : ℕ) → mid.places ≡ old.places →
    UpdatesBy (λ a b. slice_cmp nat_cmp a.now b.now) (λ k. slice_cmp nat_cmp x k.now) mid.places new.places (Some n) → (y : List ℕ) → stored_place new y ≡ cond (list_eq x y) (Some n) (stored_place old y)
unfolding stored_place
place_updated old mid new x n same updates y =
    btree_map_updates_str x mid.places new.places (Some n) updates y ∙ ap (λ m. cond (list_eq x y) (Some n) (get_by (λ k. slice_cmp nat_cmp y k.now) m)) same

module _ (before lists : List (List ℕ)) (first s : Store) (x : List ℕ) (held : Holds (first_come before) first) (h : Holds (apart_from before (first_come lists)) s) where
  among_before : is_some (stored_place first x) ≡ is_among x before
  among_before = is_some-place (first_come before) first x held ∙ is_among-first_come x before

  -- the store before holds a list, and so this one needn't
  pub HoldsLists-there : is_some (stored_place first x) ≡ true → Holds (apart_from before (first_come (lists ++ x ∷ []))) s
  HoldsLists-there some = rw (apart_from-more before lists x, sym among_before ∙ some) h

  pub HoldsLists-more : (new : Store) → is_some (stored_place first x) ≡ false → HoldsMore s x new → Holds (apart_from before (first_come (lists ++ x ∷ []))) new
  HoldsLists-more new none more = rw (apart_from-more before lists x, sym among_before ∙ none) (more (apart_from before (first_come lists)) h)

pub narrow_length : (x : List ℕ) → is_narrow x ≡ true → 2 ≤ length x
unfolding is_narrow
narrow_length x narrow = leb-true _ _ (and_parts _ _ narrow).0

-- the items of both stores are those that the lists need
pub needed_items_stored : (entries : List EntryValue) (a b : Store) → AreStored entries a b → item_count (tables_in a) + item_count (tables_in b) ≡ needed_items entries
needed_items_stored entries a b h =
    let first : item_count (tables_in a) ≡ item_count (tables_of (canonical_lists entries)) = ap item_count h.canonical.tables in
    let second : item_count (tables_in b) ≡ item_count (tables_of (supplementary_lists entries)) = ap item_count h.supplementary.tables in
    omega arith
