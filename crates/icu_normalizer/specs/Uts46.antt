-- The mapper (UTS #46, section 4): its data, and which of them it accepts. They have two readings: ignored characters
-- are dropped, for mapping, or read as U+FFFD, for validation.
use Rattle.std.specs.Prelude.{List, Option, Some, None, Result, Ok, Err, true, []}
use Rattle.normalizer_tables.specs.declared.condition.Bounds.{Bounds}
use Rattle.normalizer_tables.specs.declared.provider.DataMarkerInfo.{DataMarkerInfo}
use Rattle.normalizer_tables.specs.declared.provider.DataMarkerInfo.TheVariants as marker
use Rattle.normalizer_check.specs.RequiredConditions.{SuitsMapper}
use Rattle.normalizer_tables.specs.Characters.{Characters, has_class_form}
use Rattle.normalizer_tables.specs.Data.{Decompositions, Lists}
use Rattle.normalizer_tables.specs.declared.characters.IgnoredCharacters.{IgnoredCharacters}
use Rattle.normalizer_tables.specs.Pairs.{Pair}
use Rattle.normalizer_tables.specs.Readings.{reading_by}
use Rattle.normalizer_tables.specs.Passthrough.{IsPassthroughBelow}
use Rattle.normalizer_iterators.specs.LazyComposing.{SuitsLazyComposing}
use Rattle.normalizer_iterators.specs.LazyReading.{SuitsLazyReading}

-- the mapper's data and the pairs
abbrev pub MapperData : Type 0
MapperData = Characters × List Pair

-- what the mapper's data say of characters
abbrev pub mapper_characters : Decompositions → Lists → Lists → Characters
mapper_characters decompositions tables supplementary =
    record { decompositions = decompositions; tables = tables; supplementary = supplementary; is_mapper = true }

-- the mapper's data and the pairs, by their parts
abbrev pub mapper_data : Decompositions → Lists → Lists → List Pair → MapperData
mapper_data decompositions tables supplementary pairs = (mapper_characters decompositions tables supplementary, pairs)

-- the data that are held, or the marker of the first load for which nothing is held
abbrev pub uts46_data : Option Decompositions → Option Lists → Option Lists → Option (List Pair)
    → Result MapperData DataMarkerInfo
uts46_data None tables supplementary pairs = Err marker.NormalizerUts46DataV1
uts46_data (Some decompositions) None supplementary pairs = Err marker.NormalizerNfdTablesV1
uts46_data (Some decompositions) (Some tables) None pairs = Err marker.NormalizerNfkdTablesV1
uts46_data (Some decompositions) (Some tables) (Some supplementary) None = Err marker.NormalizerNfcV1
uts46_data (Some decompositions) (Some tables) (Some supplementary) (Some pairs) =
    Ok (mapper_data decompositions tables supplementary pairs)

-- text may be mapped by them character by character in either way, characters below the bound of decomposing pass
-- unseen, and the laws that a mapper keeps hold
pub record ServesMapper (h : MapperData) (b : Bounds) : Type 0 where
  pub reading : (i : IgnoredCharacters) → SuitsLazyReading (has_class_form h.0) (reading_by h.0 i [])
  pub composing : SuitsLazyComposing h.0 b h.1
  pub passthrough : IsPassthroughBelow h.0 b.decomposition
  pub laws : (i : IgnoredCharacters) → SuitsMapper (reading_by h.0 i h.1)
