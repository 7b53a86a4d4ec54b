-- Members of lists, and lists in the tables.
use Rattle.std.proofs.Common.{◌≡◌, ℕ, suc, add-one, drop-cons, slice_get, ◌∷◌, [], ◌+◌, true, List, take, drop, Some, None, arith, ◌∙◌, ap}
use Rattle.std.specs.Char.{IsScalar}
use Rattle.std.specs.List.{list_all}
use lib.Utf8.{scalar}
use Rattle.std.proofs.lemmas.Bool.Decides.{nat_tests}
use Rattle.std.proofs.lemmas.List.Elements.{All-take, All-drop}
use Rattle.std.proofs.lemmas.List.Sums.{list_all-from_AllPass, AllPass-from_list_all}
use Rattle.std.proofs.lemmas.Option.{slice_get_within, get_or_from_slice_get}
use Rattle.normalizer_tables.specs.Characters.{items_at, placed_in, listed_in}

-- what begins at a place
pub drop_member : {A : Type 0} (x : List A) (place : ℕ) (m : A) → slice_get x place ≡ Some m → drop place x ≡ m ∷ drop (place + 1) x
drop_member x place m h = rw add-one (drop-cons x place m (slice_get_within x place m h) ∙ ap (λ n. n ∷ drop (suc place) x) (get_or_from_slice_get x place m m h))

-- a part of a list of scalar values is one, so that a list in a table of scalar values alone is a text wherever it lies
pub list_all-items_at : (x : List ℕ) (place n : ℕ) (part : List ℕ) → list_all scalar x ≡ true → Some part ≡ items_at x place n → list_all scalar part ≡ true
unfolding items_at
list_all-items_at x place n part h is =
    let all = list_all-from_AllPass scalar (take n (drop place x)) (All-take IsScalar n _ (All-drop IsScalar place x (AllPass-from_list_all scalar x h))) in
    grind arith

-- no list lies in empty tables
pub listed_in-none : (low item : ℕ) → listed_in (record { scalars16 = []; scalars24 = [] }) low (λ past. None) item ≡ None
unfolding listed_in placed_in
listed_in-none low item = grind (arith, nat_tests)

-- what the functions that look for a list cite
pub ruleset listed_lists = (list_all-items_at, listed_in-none)
