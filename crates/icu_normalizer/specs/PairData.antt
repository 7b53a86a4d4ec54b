-- Pairs by themselves, of which only a part of condition 11 is required.
use Rattle.std.specs.Prelude.{◌≡◌, List}
use Rattle.normalizer_tables.specs.declared.provider.DataError.{DataError}
use Rattle.normalizer_tables.specs.declared.condition.Condition.TheVariants.{PairOrder}
use Rattle.normalizer_tables.specs.declared.provider.DataMarkerInfo.{DataMarkerInfo}
use Rattle.normalizer_tables.specs.conditions.PairConditions.{AreSoundPairs}
use Rattle.normalizer_tables.specs.Pairs.{Pair}
use Rattle.normalizer_check.specs.Refusals.{refusal_of}

-- pairs that aren't sorted, or have a second of the Hangul arithmetic, break condition 11
abbrev pub RefusesPairs : DataMarkerInfo → List Pair → DataError → Type 0
RefusesPairs kind pairs e = (¬ AreSoundPairs pairs) × (e ≡ refusal_of kind PairOrder)
