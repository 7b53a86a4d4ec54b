-- Lists in canonical order are those in which no two neighbours are a reorderable pair.
use Rattle.std.proofs.Common.{◌≡◌, ℕ, ◌+◌, ◌<◌, ◌≤◌, ◌⊎◌, Bool, true, false, not, ◌&&◌, nat_lt, List, [], ◌∷◌, length, drop, Some, slice_get, refl, subst, arith}
use Rattle.std.proofs.lemmas.Bool.Decides.{nat_tests}
use Rattle.std.proofs.lemmas.List.{drop_all, nil_from_length}
use Rattle.normal_forms.specs.Reading.{Reading}
use Rattle.normal_forms.specs.Order.{insert, is_reorderable, order}
use Rattle.normalizer_tables.proofs.lists.ListedLemmas.{drop_member}
use Rattle.normal_forms.proofs.ordering.OrderLemmas.{IsOrdered, IsOrdered-nil, IsOrdered-cons, IsOrdered-order, insert-nil, insert-past, order-cons}
use Rattle.normal_forms.proofs.ordering.OrderLemmas.{insert-stays, order-nil, order_of_ordered, stands_before}

-- a character of class k and one of class j after it stay as they are
unfoldable pub keeps_place : ℕ → ℕ → Bool
keeps_place k j = not (nat_lt 0 j && nat_lt j k)

-- after a character of class k, no two neighbours are a reorderable pair
unfoldable pub rises_from : (ℕ → ℕ) → ℕ → List ℕ → Bool
rises_from class k [] = true
rises_from class k (c ∷ x) = keeps_place k (class c) && rises_from class (class c) x

ordered-rising : (d : Reading) (c : ℕ) (x : List ℕ) → rises_from d.class (d.class c) x ≡ true → IsOrdered d (c ∷ x)
unfolding IsOrdered insert is_reorderable rises_from keeps_place
ordered-rising d c [] h = (refl, tt)
ordered-rising d c (e ∷ w) h = (grind arith, ordered-rising d e w (grind arith))

pub order-rising : (d : Reading) (k : ℕ) (x : List ℕ) → rises_from d.class k x ≡ true → order d x ≡ x
unfolding rises_from
order-rising d k [] h = order-nil d
order-rising d k (c ∷ x) h = order_of_ordered d (c ∷ x) (ordered-rising d c x (grind arith))

rising-ordered : (d : Reading) (c : ℕ) (x : List ℕ) → IsOrdered d (c ∷ x) → rises_from d.class (d.class c) x ≡ true
unfolding IsOrdered is_reorderable rises_from keeps_place
rising-ordered d c [] o = refl
rising-ordered d c (e ∷ w) o = rw (stands_before d c e w o.0) (rising-ordered d e w o.1)

pub rising-order : (d : Reading) (x : List ℕ) → order d x ≡ x → rises_from d.class 0 x ≡ true
unfolding rises_from keeps_place
rising-order d [] h = refl
rising-order d (c ∷ x) h = grind (arith, nat_tests, rising-ordered d c x (subst (IsOrdered d) h (IsOrdered-order d (c ∷ x))))

pub rises_from-member : (class : ℕ → ℕ) (k : ℕ) (x : List ℕ) (place m j : ℕ) → slice_get x place ≡ Some m → j ≡ class m → ((0 < j) × (k ≤ j)) ⊎ (j ≤ 0) →
    rises_from class k (drop place x) ≡ rises_from class j (drop (place + 1) x)
unfolding rises_from keeps_place
rises_from-member class k x place m j h e either = rw (drop_member x place m h, ← e) (grind (arith, nat_tests))

pub rises_from-fall : (class : ℕ → ℕ) (k : ℕ) (x : List ℕ) (place m j : ℕ) → slice_get x place ≡ Some m → j ≡ class m → 0 < j → j < k → rises_from class k (drop place x) ≡ false
unfolding rises_from keeps_place
rises_from-fall class k x place m j h e above below = rw (drop_member x place m h, ← e) (grind (arith, nat_tests))

pub rises_from-end : (class : ℕ → ℕ) (k : ℕ) (x : List ℕ) (place : ℕ) → length x ≤ place → rises_from class k (drop place x) ≡ true
unfolding rises_from
rises_from-end class k x place h = rw (drop_all place x h)

-- a list of one member at most is in order
pub order-short : (d : Reading) (x : List ℕ) → length x ≤ 1 → order d x ≡ x
order-short d [] h = order-nil d
order-short d (c ∷ []) h = order_of_ordered d (c ∷ []) (IsOrdered-cons d c [] (insert-nil d c) (IsOrdered-nil d))
order-short d (c ∷ e ∷ x) h = absurd (omega arith)

-- what the functions that put characters before others cite
pub ruleset insertions = (nil_from_length, insert-nil, insert-past, insert-stays, order-nil, order-cons)
