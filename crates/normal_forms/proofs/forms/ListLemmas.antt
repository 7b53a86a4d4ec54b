-- Lists: what a list that was split in two ways has in common; facts of each member, by recursion.
use Rattle.std.proofs.Common.{◌≡◌, ℕ, ◌⊎◌, List, [], ◌∷◌, ◌++◌, refl, sym, inl, inr}
use Rattle.std.proofs.lemmas.List.{append_cancel_left}
use Rattle.std.specs.List.{AllByRecursion}

-- a list split in two ways: one front continues the other
pub split_append : (u v q s : List ℕ) → u ++ v ≡ q ++ s → ((w : List ℕ) × (u ≡ q ++ w) × (s ≡ w ++ v)) ⊎ ((w : List ℕ) × (q ≡ u ++ w) × (v ≡ w ++ s))
split_append [] v q s e = inr (q, refl, e)
split_append (c ∷ u) v [] s e = inl (c ∷ u, refl, sym e)
split_append (c ∷ u) v (f ∷ q) s e =
    let head : c ≡ f = cc in
    let rest : u ++ v ≡ q ++ s = cc in
    elim (split_append u v q s rest) [
      | inl longer ↦ inl (longer.0, cc (head, longer.1), longer.2)
      | inr shorter ↦ inr (shorter.0, cc (head, shorter.1), shorter.2)
    ]

pub append_cancel : (u v w : List ℕ) → u ++ v ≡ u ++ w → v ≡ w
append_cancel u v w e = append_cancel_left u v w e

pub AllByRecursion-append : (P : ℕ → Type 0) (u v : List ℕ) → AllByRecursion P u → AllByRecursion P v → AllByRecursion P (u ++ v)
AllByRecursion-append P [] v a b = b
AllByRecursion-append P (c ∷ u) v a b = (a.0, AllByRecursion-append P u v a.1 b)

pub AllByRecursion-front : (P : ℕ → Type 0) (u v : List ℕ) → AllByRecursion P (u ++ v) → AllByRecursion P u
AllByRecursion-front P [] v a = tt
AllByRecursion-front P (c ∷ u) v a = (a.0, AllByRecursion-front P u v a.1)

pub AllByRecursion-rest : (P : ℕ → Type 0) (u v : List ℕ) → AllByRecursion P (u ++ v) → AllByRecursion P v
AllByRecursion-rest P [] v a = a
AllByRecursion-rest P (c ∷ u) v a = AllByRecursion-rest P u v a.1
