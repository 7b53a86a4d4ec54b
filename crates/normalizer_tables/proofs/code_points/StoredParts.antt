-- If a value can be read back from its two parts, values are equal exactly if both parts are.
use Rattle.std.proofs.Common.{◌≡◌, ◌&&◌, Bool}
use Rattle.std.specs.Bool.{Decides}
use Rattle.std.proofs.lemmas.Bool.Decides.{same_from_decides, Decides-and, Decides-like}

pub same_parts : {A B V : Type 0} (value : A → B → V) (a c : A) (b d : B) → (value a b ≡ value c d → a ≡ c) → (value a b ≡ value c d → b ≡ d) → {x y z : Bool} → Decides x (a ≡ c)
    → Decides y (b ≡ d) → Decides z (value a b ≡ value c d) → (x && y) ≡ z
same_parts value a c b d first second {x} {y} {z} one two both =
    same_from_decides (x && y) z (Decides-like _ (λ p i. value (p.0 i) (p.1 i)) (λ e. (first e, second e)) (Decides-and _ _ one two)) both
