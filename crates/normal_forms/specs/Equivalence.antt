-- Equivalence by steps. The Unicode Standard defines it by decompositions: texts are canonical equivalents if their
-- full canonical ones are equal (D70; over compatibility data D67). `laws::canonicity` says that the two are the same.
use Rattle.std.specs.Prelude.{◌≢◌, ℕ, List, ◌∷◌, ◌++◌, All}
use Rattle.std.specs.Char.{IsScalar}
use Rattle.normal_forms.specs.Reading.{Reading, IsMark, ReadsAsItself}

-- neighbours that may change places: marks of different classes, each reading as itself
pub record MayChangePlaces (d : Reading) (m n : ℕ) : Type 0 where
  pub first : ReadsAsItself d m × IsMark d m
  pub second : ReadsAsItself d n × IsMark d n
  pub apart : d.class m ≢ d.class n

-- one step: a character is replaced by its list, or two neighbours change places
pub data IsStep (d : Reading) : List ℕ → List ℕ → Type 0 where
  mapping : (u : List ℕ) (c : ℕ) (v : List ℕ) → IsStep d (u ++ c ∷ v) (u ++ d.list c ++ v)
  swap : (u : List ℕ) (m n : ℕ) (v : List ℕ) → MayChangePlaces d m n → IsStep d (u ++ m ∷ n ∷ v) (u ++ n ∷ m ∷ v)

-- the least equivalence that holds across each step, among the lists of characters that P holds of
pub data EquivalentAmong (P : ℕ → Type 0) (d : Reading) : List ℕ → List ℕ → Type 0 where
  same : (x : List ℕ) → All P x → EquivalentAmong P d x x
  back : {x y : List ℕ} → EquivalentAmong P d x y → EquivalentAmong P d y x
  chain : {x y z : List ℕ} → EquivalentAmong P d x y → EquivalentAmong P d y z → EquivalentAmong P d x z
  step : {x y : List ℕ} → All P x → All P y → IsStep d x y → EquivalentAmong P d x y

-- among all lists of numbers
abbrev pub Equivalent : Reading → List ℕ → List ℕ → Type 0
Equivalent d = EquivalentAmong (λ c. Unit {0}) d

-- among texts: all lists in the chain between the two are texts too
abbrev pub EquivalentTexts : Reading → List ℕ → List ℕ → Type 0
EquivalentTexts d = EquivalentAmong IsScalar d
