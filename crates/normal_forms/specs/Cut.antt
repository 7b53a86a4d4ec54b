-- The positions at which a text may be cut so that the front stays as it is (UAX #15, section 1.4).
use Rattle.std.specs.Prelude.{◌≡◌, ℕ, ◌≤◌, List, ◌++◌, length, take, drop}
use Rattle.normal_forms.specs.Reading.{Reading}
use Rattle.normal_forms.specs.Forms.{Form, normal_form}

-- the first n characters, followed by the form of the rest, are the form of the whole
pub record QualifiesForCut (d : Reading) (form : Form) (x : List ℕ) (n : ℕ) : Type 0 where
  pub within : n ≤ length x
  pub keeps : take n x ++ normal_form d form (drop n x) ≡ normal_form d form x

-- the greatest number that qualifies
pub record IsCut (d : Reading) (form : Form) (x : List ℕ) (n : ℕ) : Type 0 where
  pub qualifies : QualifiesForCut d form x n
  pub greatest : (m : ℕ) → QualifiesForCut d form x m → m ≤ n

-- the first n characters of x are those of y
pub record IsCommonFront (x y : List ℕ) (n : ℕ) : Type 0 where
  pub within_first : n ≤ length x
  pub within_second : n ≤ length y
  pub same : take n x ≡ take n y

-- x is a prefix of y
abbrev pub IsFront : List ℕ → List ℕ → Type 0
IsFront x y = (rest : List ℕ) × (y ≡ x ++ rest)
