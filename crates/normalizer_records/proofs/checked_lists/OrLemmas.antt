-- Tests of several things.
use Rattle.std.proofs.Common.{◌⊎◌, ◌↔◌, inl, inr}

pub iff_trans : (A B C : Type 0) → A ↔ B → B ↔ C → A ↔ C
iff_trans A B C h k = (λ a. k.0 (h.0 a), λ c. h.1 (k.1 c))

pub either : {A A' B B' : Type 0} → A ↔ A' → B ↔ B' → (A ⊎ B) ↔ (A' ⊎ B')
either a b = (
  λ h. elim h [ inl x ↦ inl (a.0 x) | inr y ↦ inr (b.0 y) ],
  λ h. elim h [ inl x ↦ inl (a.1 x) | inr y ↦ inr (b.1 y) ],
)
