-- How data that break a written condition are reported.
use Rattle.std.specs.Prelude.{◌≡◌, List, Some}
use Rattle.normalizer_tables.specs.declared.condition.Condition.{Condition}
use Rattle.normalizer_tables.specs.declared.condition.Condition.TheVariants.{ItemLimit, Pairs, Results, FdfaForms}
use Rattle.normalizer_tables.specs.declared.condition.Condition.TheVariants.{Steps, PairOrder}
use Rattle.normalizer_tables.specs.declared.provider.DataError.{DataError}
use Rattle.normalizer_tables.specs.declared.provider.DataError.TheVariants.{FutureExtension, Invalid}
use Rattle.normalizer_tables.specs.declared.provider.DataMarkerInfo.{DataMarkerInfo}
use Rattle.normalizer_tables.specs.declared.provider.DataMarkerInfo.TheVariants.{NormalizerNfdDataV1}
use Rattle.normalizer_tables.specs.declared.provider.DataMarkerInfo.TheVariants.{NormalizerNfdTablesV1, NormalizerNfcV1}
use Rattle.normalizer_tables.specs.declared.provider.DataMarkerInfo.TheVariants.{NormalizerNfdSupplementV1}
use Rattle.normalizer_tables.specs.conditions.Conditions.{IsFirstFailing, IsMet, number_of}
use Rattle.normalizer_tables.specs.conditions.Loaded.{Loaded}

-- the marker that is reported if a condition fails; the decomposition data have the marker `data_marker`
abbrev pub marker_of : DataMarkerInfo → Condition → DataMarkerInfo
marker_of data_marker ItemLimit = NormalizerNfdTablesV1
marker_of data_marker Pairs = NormalizerNfcV1
marker_of data_marker PairOrder = NormalizerNfcV1
marker_of data_marker Results = NormalizerNfcV1
marker_of data_marker FdfaForms = NormalizerNfdDataV1
marker_of data_marker Steps = NormalizerNfdSupplementV1
marker_of data_marker _ = data_marker

-- the error for a condition that fails
abbrev pub refusal_of : DataMarkerInfo → Condition → DataError
refusal_of data_marker ItemLimit = FutureExtension NormalizerNfdTablesV1
refusal_of data_marker c = Invalid (marker_of data_marker c) (number_of c)

-- e reports the first of these conditions that isn't met
abbrev pub RefusesFirstFailing : DataMarkerInfo → Loaded → List Condition → DataError → Type 0
RefusesFirstFailing data_marker d conditions e =
    (c : Condition) × IsFirstFailing (IsMet d) conditions (Some c) × (e ≡ refusal_of data_marker c)
