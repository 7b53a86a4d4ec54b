-- What the data say of each character (The Unicode Standard, sections 3.7 and 3.11).
use Rattle.std.specs.Prelude.{◌≡◌, ℕ, ◌<◌, Bool, List, [], ◌∷◌, Option, None, All, ◌==◌}
use Rattle.std.specs.Char.{IsScalar}

-- `list c` is the full decomposition of c (D64), whether its marks are in canonical order or not; `class c` its
-- canonical combining class (D104); `pair a c` the primary composite of a followed by c (D114). Each is total on all
-- numbers.
pub record Reading : Type 0 where
  pub list : ℕ → List ℕ
  pub class : ℕ → ℕ
  pub pair : ℕ → ℕ → Option ℕ

-- D107
abbrev pub IsStarter : Reading → ℕ → Type 0
IsStarter d c = d.class c ≡ 0

-- the same as a test (D107)
abbrev pub is_starter : Reading → ℕ → Bool
is_starter d c = d.class c == 0

-- a non-starter (D107)
abbrev pub IsMark : Reading → ℕ → Type 0
IsMark d c = 0 < d.class c

-- c has no decomposition mapping: it decomposes to itself (D64)
abbrev pub ReadsAsItself : Reading → ℕ → Type 0
ReadsAsItself d c = d.list c ≡ c ∷ []

-- no pair has c second (D114)
abbrev pub IsSecondInNoPair : Reading → ℕ → Type 0
IsSecondInNoPair d c = (a : ℕ) → d.pair a c ≡ None

-- a list of Unicode scalar values (D76)
abbrev pub IsText : List ℕ → Type 0
IsText x = All IsScalar x
