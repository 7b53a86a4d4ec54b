-- The normalization forms (The Unicode Standard, D118 to D121; UAX #15, section 1.2). Over canonical data they are NFD
-- and NFC, over compatibility data NFKD and NFKC.
use Rattle.std.specs.Prelude.{◌≡◌, ℕ, List}
pub use Rattle.normal_forms.specs.declared.Form.{Form}
pub use Rattle.normal_forms.specs.declared.Form.TheVariants.{Decomposing, Composing}
use Rattle.normal_forms.specs.Reading.{Reading}
use Rattle.normal_forms.specs.Decomposition.{expand}
use Rattle.normal_forms.specs.Order.{order}
use Rattle.normal_forms.specs.Composition.{compose}

-- D118, D119
unfoldable pub nfd : Reading → List ℕ → List ℕ
nfd d x = order d (expand d x)

-- D120, D121
unfoldable pub nfc : Reading → List ℕ → List ℕ
nfc d x = compose d (nfd d x)

-- the form of that kind of the text x
unfoldable pub normal_form : Reading → Form → List ℕ → List ℕ
normal_form d Decomposing x = nfd d x
normal_form d Composing x = nfc d x

-- x is its own normal form
abbrev pub IsNormalized : Reading → Form → List ℕ → Type 0
IsNormalized d form x = normal_form d form x ≡ x
