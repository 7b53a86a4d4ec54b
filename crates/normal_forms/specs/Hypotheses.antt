-- What the laws of the normal forms require of a reading. Each law takes those that it needs.
use Rattle.std.specs.Prelude.{◌≡◌, ◌≢◌, ℕ, [], ◌++◌, Some, All}
use Rattle.std.specs.Char.{IsScalar}
use Rattle.normal_forms.specs.Reading.{Reading, IsStarter, ReadsAsItself, IsText}
use Rattle.normal_forms.specs.Order.{order}
use Rattle.normal_forms.specs.Forms.{Form, Decomposing, Composing}

-- every member of every list reads as itself
pub record HasFullLists (d : Reading) : Type 0 where
  pub members : (c : ℕ) → All (ReadsAsItself d) (d.list c)

-- what a pair joins to is a starter
pub record HasStarterResults (d : Reading) : Type 0 where
  pub starters : (a c r : ℕ) → d.pair a c ≡ Some r → IsStarter d r

-- what a pair joins to has the ordered lists of the pair
pub record HasFaithfulResults (d : Reading) : Type 0 where
  pub results : (a c r : ℕ) → d.pair a c ≡ Some r → d.list r ≡ order d (d.list a ++ d.list c)

-- no list is empty
pub record HasNonemptyLists (d : Reading) : Type 0 where
  pub are_nonempty : (c : ℕ) → d.list c ≢ []

-- the list of a Unicode scalar value is a text
pub record HasTextLists (d : Reading) : Type 0 where
  pub texts : (c : ℕ) → IsScalar c → IsText (d.list c)

-- what two scalar values join to is a scalar value
pub record HasScalarResults (d : Reading) : Type 0 where
  pub scalars : (a c r : ℕ) → IsScalar a → IsScalar c → d.pair a c ≡ Some r → IsScalar r

-- what the laws of canonicity and of the cut require for a form: nothing of pairs if nothing is composed
abbrev pub SuitsForm : Reading → Form → Type 0
SuitsForm d Decomposing = HasFullLists d
SuitsForm d Composing = HasFullLists d × HasStarterResults d × HasFaithfulResults d
