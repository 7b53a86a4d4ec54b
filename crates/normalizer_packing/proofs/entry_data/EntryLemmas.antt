-- Look-ups in entries that rise.
use Rattle.std.proofs.Common.{◌≡◌, ◌==◌, ℕ, Bool, true, false, List, [], ◌∷◌}
use Rattle.std.proofs.Common.{refl, Some, None, find, All, arith, ap, subst, ◌∙◌, inl, inr, ◌⊎◌, eqb-true, Contains, map, cond}
use Rattle.std.proofs.lemmas.List.{get_or-map, length-map}
use Rattle.std.proofs.lemmas.List.Elements.{All-cons, All-head, All-nil, All-tail, Contains-append_right}
use Rattle.normalizer_tables.specs.Entries.{EntryValue, entry_of}

-- none passes
pub find-none : {A : Type 0} (p : A → Bool) (xs : List A) → All (λ x. p x ≡ false) xs → find p xs ≡ None
find-none p [] h = refl
find-none p (x ∷ xs) h = rw (All-head (λ y. p y ≡ false) x xs h) (find-none p xs (All-tail (λ y. p y ≡ false) x xs h))

pub Contains-map : {X Y : Type 0} (f : X → Y) (xs : List X) (x : X) → Contains xs x → Contains (map f xs) (f x)
Contains-map f xs x (k, within, is) = (k, omega (arith, length-map xs f), get_or-map f xs k x (f x) within ∙ ap f is)

-- none passes, or one that passes is found
pub find-tells : {X : Type 0} (p : X → Bool) (xs : List X) → ((find p xs ≡ None) × All (λ x. p x ≡ false) xs) ⊎ ((x : X) × (find p xs ≡ Some x) × Contains xs x × (p x ≡ true))
find-tells p [] = inl (refl, All-nil (λ x. p x ≡ false))
find-tells {X} p (x ∷ xs) = elim (p x) as (λ b. p x ≡ b → ((cond b (Some x) (find p xs) ≡ None) × All (λ y. p y ≡ false) (x ∷ xs)) ⊎
    ((y : X) × (cond b (Some x) (find p xs) ≡ Some y) × Contains (x ∷ xs) y × (p y ≡ true))) [
      | true ↦ λ passes. inr (x, refl, (0, omega arith, refl), passes)
      | false ↦ λ fails. elim (find-tells p xs) [
        | inl none ↦ inl (none.0, All-cons (λ y. p y ≡ false) x xs fails none.1)
        | inr some ↦ inr (some.0, some.1, Contains-append_right (x ∷ []) xs some.0 some.2, some.3)
      ]
    ] refl

-- none is found if no element has this number
pub find-missing : {X : Type 0} (number : X → ℕ) (xs : List X) (n : ℕ) → (Contains (map number xs) n → ⊥) → find (λ x. number x == n) xs ≡ None
find-missing number xs n missing = elim (find-tells (λ x. number x == n) xs) [
  | inl none ↦ none.0
  | inr some ↦ absurd (missing (subst (Contains (map number xs)) (eqb-true _ _ some.3) (Contains-map number xs some.0 some.2)))
]

-- what is found by its character is of it, and one of the entries
pub entry_of-own : (entries : List EntryValue) (n : ℕ) (e : EntryValue) → entry_of entries n ≡ Some e → (e.character ≡ n) × Contains entries e
unfolding entry_of
entry_of-own entries n e found = elim (find-tells {X = EntryValue} (λ f. f.character == n) entries) as (λ _. (e.character ≡ n) × Contains entries e) [
  | inl none ↦ absurd (let missing = none.0 in cc)
  | inr some ↦ (let same : some.0 ≡ e = (let here = some.1 in cc) in subst (λ (f : EntryValue). (f.character ≡ n) × Contains entries f) same (eqb-true _ _ some.3, some.2))
]
