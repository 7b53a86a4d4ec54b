-- Data by which characters are decomposed one step.
use Rattle.std.specs.Prelude.{Option, Some, None, Result, Ok, Err, All}
use Rattle.normalizer_tables.specs.declared.provider.DataError.{DataError}
use Rattle.normalizer_tables.specs.declared.provider.DataMarkerInfo.{DataMarkerInfo}
use Rattle.normalizer_tables.specs.declared.provider.DataMarkerInfo.TheVariants as marker
use Rattle.normalizer_check.specs.RequiredConditions.{step_conditions}
use Rattle.normalizer_tables.specs.conditions.Conditions.{IsMet}
use Rattle.normalizer_tables.specs.conditions.Loaded.{Loaded, nfd_bounds}
use Rattle.normalizer_tables.specs.Characters.{Characters, characters_from}
use Rattle.normalizer_tables.specs.Data.{Decompositions, Lists, Supplement}
use Rattle.normalizer_check.specs.Refusals.{RefusesFirstFailing}

-- canonical data and the supplement
abbrev pub StepData : Type 0
StepData = Characters × Supplement

-- canonical data with their tables and the supplement, by their parts
abbrev pub steps_from : Decompositions → Lists → Supplement → StepData
steps_from decompositions tables supplement = (characters_from decompositions tables None, supplement)

-- the data that are held, or the marker of the first load for which nothing is held
abbrev pub step_data : Option Decompositions → Option Lists → Option Supplement → Result StepData DataMarkerInfo
step_data None tables supplement = Err marker.NormalizerNfdDataV1
step_data (Some decompositions) None supplement = Err marker.NormalizerNfdTablesV1
step_data (Some decompositions) (Some tables) None = Err marker.NormalizerNfdSupplementV1
step_data (Some decompositions) (Some tables) (Some supplement) = Ok (steps_from decompositions tables supplement)

-- the data and the supplement as they were loaded
abbrev pub steps_loaded : StepData → Loaded
steps_loaded h = record { characters = h.0; bounds = nfd_bounds; pairs = None; supplement = Some h.1 }

-- data that meet conditions 1, 5 to 9, 15 and 16
abbrev pub SuitsSteps : StepData → Type 0
SuitsSteps h = All (IsMet (steps_loaded h)) step_conditions

-- the error for the first of them that fails
abbrev pub RefusesSteps : DataMarkerInfo → StepData → DataError → Type 0
RefusesSteps kind h e = RefusesFirstFailing kind (steps_loaded h) step_conditions e
