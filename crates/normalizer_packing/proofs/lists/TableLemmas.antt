-- Lists in the order in which they first come, and their places in tables.
use Rattle.std.proofs.Common.{◌≡◌, ℕ, Bool, true, false, not, ◌&&◌, ◌||◌, List, [], ◌∷◌, ◌++◌, length, Some, if◌then◌else◌, refl, arith, ap, sym, ◌∙◌, inl, inr}
use Rattle.std.proofs.Common.{length-append}
use Rattle.std.specs.List.{before_first, concat, filter, list_any}
use Rattle.std.proofs.lemmas.Bool.{cases_Bool}
use Rattle.std.proofs.lemmas.Bool.Decides.{nat_tests}
use Rattle.std.proofs.lemmas.List.{append-nil, take-append-le}
use Rattle.std.proofs.lemmas.List.Elements.{filter-append}
use Rattle.std.proofs.lemmas.List.Folds.{concat-append, list_any-append}
use Rattle.std.proofs.lemmas.Map.Views.{any-filter_same}
use Rattle.std.proofs.lemmas.Slice.Eq.{bytes_eq-Decides}
use Rattle.std.proofs.Math.Seq.{drop-append-add, take-length}
use Rattle.normalizer_tables.specs.Characters.{items_at}
use Rattle.normalizer_packing.specs.Spelling.{list_eq}
use Rattle.normalizer_packing.specs.Stored.{apart_from, first_come, is_among, is_narrow, items_of, place_of, stands_in}
use Rattle.normalizer_packing.specs.inner.Stores.{with_list}

pub same_list : (x y : List ℕ) → list_eq x y ≡ true → x ≡ y
same_list x y h = (bytes_eq-Decides x y).0 h

pub eq_list : (x y : List ℕ) → x ≡ y → list_eq x y ≡ true
eq_list x y h = (bytes_eq-Decides x y).1 h

pub is_among-append : (x : List ℕ) (a b : List (List ℕ)) → is_among x (a ++ b) ≡ (is_among x a || is_among x b)
unfolding is_among
is_among-append x a b = list_any-append (list_eq x) a b

pub is_among-one : (x y : List ℕ) → is_among x (y ∷ []) ≡ list_eq x y
unfolding is_among
is_among-one x y = elim (list_eq x y) as (λ b. (b || false) ≡ b) [ true ↦ refl | false ↦ refl ]

-- a filter keeps a list that passes
is_among-filter : (p : List ℕ → Bool) (x : List ℕ) (lists : List (List ℕ)) → is_among x (filter p lists) ≡ (p x && is_among x lists)
unfolding is_among
is_among-filter p x lists = any-filter_same (list_eq x) p (p x) (λ y same. ap p (sym (same_list x y same))) lists

-- the lists that come first are all
pub is_among-first_come : (x : List ℕ) (lists : List (List ℕ)) → is_among x (first_come lists) ≡ is_among x lists
unfolding first_come is_among
is_among-first_come x [] = refl
is_among-first_come x (y ∷ lists) = let kept = is_among-filter (λ z. not (list_eq z y)) x (first_come lists) in let rest = is_among-first_come x lists in grind arith

-- what a filter keeps of lists with one more
filter-with_list : (p : List ℕ → Bool) (lists : List (List ℕ)) (x : List ℕ) → filter p (with_list lists x) ≡ (if p x then with_list (filter p lists) x else filter p lists)
unfolding with_list
filter-with_list p lists x =
    let among = is_among-filter p x lists in let appended = filter-append p lists (x ∷ []) in let ends = append-nil (filter p lists) in grind arith

with_list-behind : (x y : List ℕ) (lists : List (List ℕ)) → y ∷ (if not (list_eq x y) then with_list lists x else lists) ≡ with_list (y ∷ lists) x
unfolding with_list is_among
with_list-behind x y lists = grind arith

-- one more list comes after the others, if it isn't among them
pub first_come-append : (lists : List (List ℕ)) (x : List ℕ) → first_come (lists ++ x ∷ []) ≡ with_list (first_come lists) x
unfolding first_come with_list is_among
first_come-append [] x = refl
first_come-append (y ∷ lists) x =
    ap (λ l. y ∷ filter (λ z. not (list_eq z y)) l) (first_come-append lists x)
    ∙ ap (λ l. y ∷ l) (filter-with_list (λ z. not (list_eq z y)) (first_come lists) x)
    ∙ with_list-behind x y (filter (λ z. not (list_eq z y)) (first_come lists))

-- unless it is among those before
pub apart_from-more : (before lists : List (List ℕ)) (x : List ℕ) → apart_from before (first_come (lists ++ x ∷ [])) ≡
    (if not (is_among x before) then with_list (apart_from before (first_come lists)) x else apart_from before (first_come lists))
unfolding apart_from
apart_from-more before lists x = ap (filter (λ y. not (is_among y before))) (first_come-append lists x) ∙ filter-with_list (λ y. not (is_among y before)) (first_come lists) x

pub apart_from-none : (lists : List (List ℕ)) → apart_from [] lists ≡ lists
unfolding apart_from is_among
apart_from-none [] = refl
apart_from-none (x ∷ lists) = ap (λ l. x ∷ l) (apart_from-none lists)

-- a list that only the other kinds need
pub is_among-apart : (before lists : List (List ℕ)) (x : List ℕ) → is_among x before ≡ false → is_among x (apart_from before (first_come lists)) ≡ is_among x lists
unfolding apart_from
is_among-apart before lists x new = is_among-filter (λ y. not (is_among y before)) x (first_come lists) ∙ rw new (is_among-first_come x lists)

items_of-append : (narrow : Bool) (lists more : List (List ℕ)) → items_of narrow (lists ++ more) ≡ items_of narrow lists ++ items_of narrow more
unfolding items_of
items_of-append narrow lists more = ap concat (filter-append (stands_in narrow) lists more) ∙ concat-append (filter (stands_in narrow) lists) (filter (stands_in narrow) more)

-- the items of one more list
pub items_of-more : (narrow : Bool) (lists : List (List ℕ)) (x : List ℕ) → items_of narrow (lists ++ x ∷ []) ≡ items_of narrow lists ++ (if stands_in narrow x then x else [])
unfolding items_of
items_of-more narrow lists x = let both = items_of-append narrow lists (x ∷ []) in let whole = append-nil x in grind arith

before_first-cons : (p : List ℕ → Bool) (y : List ℕ) (lists : List (List ℕ)) → before_first p (y ∷ lists) ≡ (if p y then [] else y ∷ before_first p lists)
before_first-cons p y lists = grind arith

before_first-append : (p : List ℕ → Bool) (lists more : List (List ℕ)) → before_first p (lists ++ more) ≡ (if list_any p lists then before_first p lists else lists ++ before_first p more)
before_first-append p [] more = refl
before_first-append p (y ∷ lists) more = rw (before_first-cons p y (lists ++ more), before_first-cons p y lists, before_first-append p lists more) (grind arith)

-- a list keeps its place when another comes after
pub place_of-kept : (lists : List (List ℕ)) (x y : List ℕ) → is_among x lists ≡ true → place_of (lists ++ y ∷ []) x ≡ place_of lists x
unfolding is_among place_of
place_of-kept lists x y among = rw (before_first-append (list_eq x) lists (y ∷ []), among) refl

-- and one that is appended is at the end of its table
pub place_of-end : (lists : List (List ℕ)) (x : List ℕ) → is_among x lists ≡ false → place_of (lists ++ x ∷ []) x ≡ length (items_of (is_narrow x) lists)
unfolding is_among place_of
place_of-end lists x new = rw (before_first-append (list_eq x) lists (x ∷ []), new, eq_list x x refl, append-nil lists) refl

items_at-middle : (p x t : List ℕ) → items_at (p ++ (x ++ t)) (length p) (length x) ≡ Some x
unfolding items_at
items_at-middle p x t =
    let lengths = length-append p (x ++ t) in let more = length-append x t in let rest = drop-append-add p (x ++ t) 0 in
    let first = take-append-le (length x) x t in let whole = take-length x in grind (arith, nat_tests)

-- a list is after those before the first that is equal
split_at_list : (lists : List (List ℕ)) (x : List ℕ) → is_among x lists ≡ true → (rest : List (List ℕ)) × (lists ≡ before_first (list_eq x) lists ++ (x ∷ rest))
unfolding is_among
split_at_list [] x among = cc
split_at_list (y ∷ lists) x among = elim (cases_Bool (list_eq x y)) [
  | inl same ↦ (lists, rw (before_first-cons (list_eq x) y lists, same) (ap (λ z. z ∷ lists) (sym (same_list x y same))))
  | inr other ↦ (let rest = split_at_list lists x (rw other at among) in (rest.0, rw (before_first-cons (list_eq x) y lists, other) (ap (λ l. y ∷ l) rest.1)))
]

-- so it is at its place in its table
pub stands_at_place : (lists : List (List ℕ)) (x : List ℕ) → is_among x lists ≡ true → items_at (items_of (is_narrow x) lists) (place_of lists x) (length x) ≡ Some x
unfolding place_of items_of
stands_at_place lists x among =
    let split = split_at_list lists x among in
    let before : List ℕ = items_of (is_narrow x) (before_first (list_eq x) lists) in
    let own : stands_in (is_narrow x) x ≡ true = grind arith in
    let table : items_of (is_narrow x) lists ≡ before ++ (x ++ items_of (is_narrow x) split.0) = ap (items_of (is_narrow x)) split.1 ∙ items_of-append (is_narrow x) _ (x ∷ split.0) ∙ rw own refl in
    rw table (items_at-middle before x (items_of (is_narrow x) split.0))
