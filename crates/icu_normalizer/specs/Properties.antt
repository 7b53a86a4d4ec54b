-- The data of the properties.
use Rattle.std.specs.Prelude.{ℕ, List, Option, option_and_then}
use Rattle.normalizer_tables.specs.Data.{Decompositions}
use Rattle.normalizer_tables.specs.Pairs.{Pair}
use Rattle.normalizer_tables.specs.Steps.{step_of}
use Rattle.icu_normalizer.specs.declared.combining_class.CanonicalCombiningClassMap.{CanonicalCombiningClassMap}
use Rattle.icu_normalizer.specs.declared.combining_class.CanonicalCombiningClassMapBorrowed.{
  CanonicalCombiningClassMapBorrowed,
}
use Rattle.icu_normalizer.specs.declared.composition.CanonicalComposition.{CanonicalComposition}
use Rattle.icu_normalizer.specs.declared.composition.CanonicalCompositionBorrowed.{CanonicalCompositionBorrowed}
use Rattle.icu_normalizer.specs.declared.decomposition.CanonicalDecomposition.{CanonicalDecomposition}
use Rattle.icu_normalizer.specs.declared.decomposition.CanonicalDecompositionBorrowed.{
  CanonicalDecompositionBorrowed,
}
use Rattle.icu_normalizer.specs.Shapers.{shaper_mapping}
use Rattle.icu_normalizer.specs.StepData.{StepData, steps_from}

-- the data that it owns
abbrev pub classes_of : CanonicalCombiningClassMap → Decompositions
classes_of m = m.decompositions

-- the data that it borrows
abbrev pub classes_of_borrowed : CanonicalCombiningClassMapBorrowed → Decompositions
classes_of_borrowed m = m.decompositions.now

-- the pairs that it owns
abbrev pub pairs_of : CanonicalComposition → List Pair
pairs_of c = c.pairs

-- the pairs that it borrows
abbrev pub pairs_of_borrowed : CanonicalCompositionBorrowed → List Pair
pairs_of_borrowed c = c.pairs.now

-- the data and the supplement that it owns
abbrev pub steps_of : CanonicalDecomposition → StepData
steps_of d = steps_from d.decompositions d.tables d.supplement

-- the data and the supplement that it borrows
abbrev pub steps_of_borrowed : CanonicalDecompositionBorrowed → StepData
steps_of_borrowed d = (d.characters, d.supplement.now)

-- what is returned to shapers for the step of a character
abbrev pub shaper_step : StepData → ℕ → Option (ℕ × ℕ)
shaper_step h c = option_and_then shaper_mapping (step_of h.0 h.1 c)
