-- Properties of characters, by the data that hold them.
use Rattle.std.specs.Prelude.{◌≡◌, ℕ, List, Option}
use Rattle.icu_normalizer.specs.AllNormalizers.{canonical_data_of}
use Rattle.icu_normalizer.specs.Building.{MeansRecords}
use Rattle.icu_normalizer.specs.Characters.{Characters}
use Rattle.icu_normalizer.specs.ClassData.{combining_class}
use Rattle.icu_normalizer.specs.Kind.TheVariants.{Canonical}
use Rattle.icu_normalizer.specs.Packed.{Packed}
use Rattle.icu_normalizer.specs.Pairs.{pair_of, Pair}
use Rattle.icu_normalizer.specs.ReadBack.{characters_of}
use Rattle.icu_normalizer.specs.RecordValue.{RecordValue, Uts46RecordValue}
use Rattle.normalizer_tables.specs.Steps.{step_of}
use Rattle.normalizer_tables.specs.declared.step.Step.{Step}
use Rattle.normalizer_handles.specs.declared.properties.Properties.{Properties}

-- the class of a character
abbrev pub class_in : Properties → ℕ → ℕ
class_in q c = combining_class (canonical_data_of q.forms).0.decompositions c

-- what two characters compose to, if they do
abbrev pub composite_in : Properties → (first second : ℕ) → Option ℕ
composite_in q first second = pair_of (canonical_data_of q.forms).1 first second

-- one step of the canonical decomposition of a character
abbrev pub step_in : Properties → ℕ → Option Step
step_in q c = step_of (canonical_data_of q.forms).0 q.supplement c

-- canonical data with the pairs
abbrev pub canonical_in : Packed → Characters × List Pair
canonical_in p = (characters_of p Canonical, p.compositions)

-- the properties are those of these data
pub record AreOver (q : Properties) (p : Packed) : Type 0 where
  pub canonical : canonical_data_of q.forms ≡ canonical_in p
  pub supplement : q.supplement ≡ p.supplement

-- the properties are those of data that say what the records mean
abbrev pub TellBy : Properties → List RecordValue → List Uts46RecordValue → Type 0
TellBy q records mapper = (p : Packed) × MeansRecords records mapper p × AreOver q p
