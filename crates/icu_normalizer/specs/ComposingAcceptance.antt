-- Which data and pairs a constructor accepts for composing text, and its error for others.
use Rattle.std.specs.Prelude.{List, Option, Some, None, Result, Ok, Err, All}
use Rattle.normalizer_tables.specs.declared.provider.DataError.{DataError}
use Rattle.normalizer_tables.specs.declared.provider.DataMarkerInfo.{DataMarkerInfo}
use Rattle.normalizer_tables.specs.declared.provider.DataMarkerInfo.TheVariants as marker
use Rattle.normalizer_check.specs.RequiredConditions.{composing_conditions}
use Rattle.normalizer_tables.specs.conditions.Conditions.{IsMet}
use Rattle.normalizer_tables.specs.conditions.Loaded.{characters_and_pairs}
use Rattle.normalizer_tables.specs.Characters.{Characters}
use Rattle.normalizer_tables.specs.Pairs.{Pair}
use Rattle.normalizer_check.specs.Refusals.{RefusesFirstFailing}

-- data with pairs that meet all conditions for composing text
abbrev pub SuitsComposing : Characters × List Pair → Type 0
SuitsComposing h = All (IsMet (characters_and_pairs h.0 h.1)) (composing_conditions h.0.is_mapper)

-- the error for the first of them that fails
abbrev pub RefusesToCompose : DataMarkerInfo → Characters × List Pair → DataError → Type 0
RefusesToCompose kind h e =
    RefusesFirstFailing kind (characters_and_pairs h.0 h.1) (composing_conditions h.0.is_mapper) e

-- the data that are held with the pairs that are loaded after them, or the marker of the first load for which nothing
-- is held
abbrev pub with_pairs : Result Characters DataMarkerInfo → Option (List Pair)
    → Result (Characters × List Pair) DataMarkerInfo
with_pairs (Err missing) pairs = Err missing
with_pairs (Ok s) None = Err marker.NormalizerNfcV1
with_pairs (Ok s) (Some pairs) = Ok (s, pairs)
