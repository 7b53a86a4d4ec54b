-- What one step of canonical decomposition is to the lists of characters (The Unicode Standard, D68: the canonical
-- decomposition is the mapping applied until nothing changes, put in order).
use Rattle.std.specs.Prelude.{◌≡◌, ◌≢◌, ◌↔◌, ℕ, [], ◌∷◌, ◌++◌, Some, None}
use Rattle.std.specs.Char.{IsScalar}
use Rattle.normal_forms.specs.Order.{order}
use Rattle.normalizer_tables.specs.declared.step.Step.{Step}
use Rattle.normalizer_tables.specs.declared.step.Step.TheVariants.{Default, Singleton, Expansion}
use Rattle.normalizer_tables.specs.Characters.{Characters, list_of}
use Rattle.normalizer_tables.specs.Data.{Supplement}
use Rattle.normalizer_tables.specs.Steps.{step_of}
use Rattle.normalizer_tables.specs.Readings.{reading_by}
use Rattle.normalizer_tables.specs.declared.characters.IgnoredCharacters.TheVariants.{Dropped}

-- a step of n is `Default` if the list of n is n alone; a singleton has the list of its part; the list of an
-- expansion is the lists of its parts in canonical order
pub record MeansInLists (s : Characters) (n : ℕ) (step : Step) : Type 0 where
  pub default : step ≡ Default ↔ (list_of s [] n ≡ n ∷ [])
  pub singleton : (a : ℕ) → step ≡ Singleton a → list_of s [] n ≡ list_of s [] a
  pub expansion : (a b : ℕ) → step ≡ Expansion a b
      → list_of s [] n ≡ order (reading_by s Dropped []) (list_of s [] a ++ list_of s [] b)

-- each character has a step, which agrees with its list
pub record HasSteps (s : Characters) (t : Supplement) : Type 0 where
  pub given : (n : ℕ) → IsScalar n → step_of s t n ≢ None
  pub means : (n : ℕ) → IsScalar n → (step : Step) → step_of s t n ≡ Some step → MeansInLists s n step
