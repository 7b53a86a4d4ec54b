-- What is between a starter and a character that isn't blocked from it.
use Rattle.std.proofs.Common.{◌≡◌, ℕ, ◌<◌, Bool, true, false, ◌||◌, ◌==◌, nat_le, List, [], ◌∷◌, All, refl, arith}
use Rattle.std.proofs.lemmas.Bool.Decides.{nat_tests}
use Rattle.std.proofs.lemmas.List.Elements.{All-cons, All-nil}
use Rattle.normal_forms.specs.Reading.{Reading, IsMark}
use Rattle.normal_forms.specs.Composition.{is_blocked}

neither : (p q rest : Bool) → ((p || q) || rest) ≡ false → (p ≡ false) × (rest ≡ false)
neither true q rest h = cc
neither false true rest h = cc
neither false false true h = cc
neither false false false h = (refl, refl)

not_zero : (k : ℕ) → (k == 0) ≡ false → 0 < k
not_zero k h = grind (arith, nat_tests)

pub unblocked_are_marks : (d : Reading) (between : List ℕ) (c : ℕ) → is_blocked d between c ≡ false → All (IsMark d) between
unfolding is_blocked
unblocked_are_marks d [] c h = All-nil (IsMark d)
unblocked_are_marks d (b ∷ between) c h =
    let parts = neither (d.class b == 0) (nat_le (d.class c) (d.class b)) (is_blocked d between c) h in
    All-cons (IsMark d) b between (not_zero (d.class b) parts.0) (unblocked_are_marks d between c parts.1)
