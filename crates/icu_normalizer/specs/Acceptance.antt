-- Which data a constructor accepts, and its error for others.
use Rattle.std.specs.Prelude.{Option, Some, None, Result, Ok, Err, All}
use Rattle.normalizer_tables.specs.declared.condition.Bounds.{Bounds}
use Rattle.normalizer_tables.specs.declared.provider.DataError.{DataError}
use Rattle.normalizer_tables.specs.declared.provider.DataMarkerInfo.{DataMarkerInfo}
use Rattle.normalizer_tables.specs.declared.provider.DataMarkerInfo.TheVariants as marker
use Rattle.normalizer_check.specs.RequiredConditions.{decomposing_conditions}
use Rattle.normalizer_tables.specs.conditions.Conditions.{IsMet}
use Rattle.normalizer_tables.specs.conditions.Loaded.{bounds_of_cap, characters_alone}
use Rattle.normalizer_tables.specs.Characters.{Characters, characters_from}
use Rattle.normalizer_tables.specs.Data.{Decompositions, Lists}
pub use Rattle.normalizer_tables.specs.Held.{AcceptsHeld, RefusesHeld, AnswersHeld}
use Rattle.normalizer_check.specs.Refusals.{RefusesFirstFailing}

-- below which numbers characters are passthrough
abbrev pub bounds_of : Decompositions → Bounds
bounds_of decompositions = bounds_of_cap decompositions.cap

-- data that meet all conditions for decomposing text
abbrev pub SuitsDecomposing : Characters → Type 0
SuitsDecomposing s = All (IsMet (characters_alone s)) decomposing_conditions

-- the error for the first of them that fails
abbrev pub RefusesToDecompose : DataMarkerInfo → Characters → DataError → Type 0
RefusesToDecompose kind s e = RefusesFirstFailing kind (characters_alone s) decomposing_conditions e

-- the data that are held for canonical forms, or the marker of the first load for which nothing is held
abbrev pub nfd_data : Option Decompositions → Option Lists → Result Characters DataMarkerInfo
nfd_data None tables = Err marker.NormalizerNfdDataV1
nfd_data (Some decompositions) None = Err marker.NormalizerNfdTablesV1
nfd_data (Some decompositions) (Some tables) = Ok (characters_from decompositions tables None)

-- the same for compatibility forms
abbrev pub nfkd_data : Option Decompositions → Option Lists → Option Lists → Result Characters DataMarkerInfo
nfkd_data None tables supplementary = Err marker.NormalizerNfkdDataV1
nfkd_data (Some decompositions) None supplementary = Err marker.NormalizerNfdTablesV1
nfkd_data (Some decompositions) (Some tables) None = Err marker.NormalizerNfkdTablesV1
nfkd_data (Some decompositions) (Some tables) (Some supplementary) =
    Ok (characters_from decompositions tables (Some supplementary))
