-- What is required of data that pack records, in order, and how data that don't meet a requirement are reported.
use Rattle.std.specs.Prelude.{◌≡◌, ◌==◌, ℕ, Bool, true, false, List, [], ◌∷◌, ◌++◌, filter, flat_map, map}
use Rattle.std.specs.Prelude.{Option, Some, None, IfSome}
use Rattle.std.specs.List.{list_any}
use Rattle.normalizer_tables.specs.declared.condition.Condition.{Condition}
use Rattle.normalizer_tables.specs.declared.condition.Condition.TheVariants.{Steps}
use Rattle.normalizer_tables.specs.declared.provider.DataMarkerInfo.{DataMarkerInfo}
use Rattle.normalizer_tables.specs.declared.provider.DataMarkerInfo.TheVariants as marker
use Rattle.normalizer_tables.specs.conditions.Conditions.{composing_conditions, every_condition}
use Rattle.normalizer_tables.specs.conditions.Conditions.{IsFirstFailing, IsMet, number_of}
use Rattle.normalizer_tables.specs.conditions.Loaded.{bounds_of_cap, Loaded}
use Rattle.normalizer_tables.specs.Data.{Supplement}
use Rattle.normalizer_check.specs.Refusals.{marker_of}
use Rattle.normalizer_tables.specs.Steps.{step_of}
use Rattle.normalizer_tables.specs.declared.entry.Kind.{Kind}
use Rattle.normalizer_tables.specs.declared.entry.Kind.TheVariants.{Canonical, Compatibility, Mapper}
use Rattle.normalizer_packing.specs.declared.Packed.{Packed}
pub use Rattle.normalizer_packing.specs.ReadBack.{characters_of, decompositions_of}
use Rattle.normalizer_records.specs.declared.records.BuildError.{BuildError}
use Rattle.normalizer_records.specs.declared.records.BuildError.TheVariants as error
use Rattle.normalizer_records.specs.RecordValue.{RecordValue}
use Rattle.normalizer_records.specs.Recorded.{recorded_step}
use Rattle.normalizer_builder.specs.declared.demand.Demand.{Demand}
use Rattle.normalizer_builder.specs.declared.demand.Demand.TheVariants.{Asks, KeepsMappings}

-- all that constructors load with the data of one kind
abbrev pub supplement_of : Packed → Kind → Option Supplement
supplement_of p Canonical = Some p.supplement
supplement_of p kind = None

-- what constructors load of packed data, with the data of one kind
abbrev pub loaded_of : Packed → Kind → Loaded
loaded_of p kind = record {
  characters = characters_of p kind;
  bounds = bounds_of_cap (decompositions_of p kind).cap;
  pairs = Some p.compositions;
  supplement = supplement_of p kind;
}

-- one step of n is the canonical mapping that is recorded of it
unfoldable pub KeepsMapping : List RecordValue → Packed → ℕ → Type 0
KeepsMapping records p n =
    IfSome (recorded_step records n) (λ s. step_of (characters_of p Canonical) p.supplement n ≡ Some s)

-- the data meet the requirement
unfoldable pub Meets : List RecordValue → Packed → Demand → Type 0
Meets records p (Asks c kind) = IsMet (loaded_of p kind) c
Meets records p KeepsMappings = (n : ℕ) → KeepsMapping records p n

-- the conditions that constructors require of the data of one kind
abbrev pub conditions_of : Kind → List Condition
conditions_of Canonical = every_condition
conditions_of Compatibility = composing_conditions false
conditions_of Mapper = composing_conditions true

-- one with this number is among the conditions on the data of the kind
abbrev pub is_asked : Condition → Kind → Bool
is_asked c kind = list_any (λ e. number_of e == number_of c) (conditions_of kind)

-- the kinds of data of which constructors require the condition. What is required for classes alone, or of pairs
-- alone, is part of these, under their numbers and markers.
abbrev pub kinds_asked : Condition → List Kind
kinds_asked c = filter (is_asked c) (Canonical ∷ Compatibility ∷ Mapper ∷ [])

-- what constructors require
abbrev pub constructor_demands : List Demand
constructor_demands = flat_map (λ c. map (Asks c) (kinds_asked c)) every_condition

-- all that is required: by constructors, then that the recorded mappings are kept
abbrev pub demands : List Demand
demands = constructor_demands ++ KeepsMappings ∷ []

-- all requirements are met, or this is the first that isn't
abbrev pub IsFirstUnmet : List RecordValue → Packed → Option Demand → Type 0
IsFirstUnmet records p r = IsFirstFailing (Meets records p) demands r

-- the marker of the decomposition data of one kind
abbrev pub marker_of_kind : Kind → DataMarkerInfo
marker_of_kind Canonical = marker.NormalizerNfdDataV1
marker_of_kind Compatibility = marker.NormalizerNfkdDataV1
marker_of_kind Mapper = marker.NormalizerUts46DataV1

-- the marker that is reported. Mappings that aren't kept are reported as condition 16, that steps are sound.
abbrev pub reported_marker : Demand → DataMarkerInfo
reported_marker (Asks c kind) = marker_of (marker_of_kind kind) c
reported_marker KeepsMappings = marker.NormalizerNfdSupplementV1

-- the number of the condition that is reported
abbrev pub reported_number : Demand → ℕ
reported_number (Asks c kind) = number_of c
reported_number KeepsMappings = number_of Steps

-- the error for a requirement that isn't met
abbrev pub error_of : Demand → BuildError
error_of d = error.Unfit (reported_marker d) (reported_number d)
