use Rattle.std.proofs.Common.{refl}
use Rattle.icu_normalizer.specs.ClassData.{SuitsClasses}
use Rattle.icu_normalizer.proofs.property_data.ClassWords.{HasNoClassesElsewhere-met}
use Rattle.icu_normalizer.proofs.combining_class.CanonicalCombiningClassMap.over.Goals as goal
use Rattle.icu_normalizer.proofs.combining_class.CanonicalCombiningClassMap.over.Goals.{In_ok-check}

-- the data that were supplied meet the conditions
met : (c : In_ok-check) → SuitsClasses c.args.decompositions
met c = let h = c.in_ok-check.ensures.ok.0 refl in rw (c.new-loaded.ensures, c.new-characters.ensures, c.empty-tables.ensures) at h

pub invariant_of-result : goal.invariant_of-result
invariant_of-result c = record { classes = HasNoClassesElsewhere-met _ (met c) }

pub returns-clause-ok : goal.returns-clause-ok
returns-clause-ok c = (refl, met (goal.at.returns-clause-ok c).In_ok-check)
