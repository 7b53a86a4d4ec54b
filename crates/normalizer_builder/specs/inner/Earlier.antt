-- The first of the requirements on the data of each kind, put together.
use Rattle.std.specs.Prelude.{nat_lt, List, map, Option, Some, None, if◌then◌else◌}
use Rattle.normalizer_tables.specs.declared.entry.Kind.{Kind}
use Rattle.normalizer_builder.specs.declared.demand.Demand.{Demand}
use Rattle.normalizer_builder.specs.declared.demand.Demand.TheVariants.{Asks}
use Rattle.normalizer_builder.specs.Demands.{conditions_of, reported_number}

-- what constructors require of the data of one kind
abbrev pub asked_of : Kind → List Demand
asked_of kind = map (λ c. Asks c kind) (conditions_of kind)

-- the one that is reported under the smaller number; of one number, the first
abbrev pub earlier : Option Demand → Option Demand → Option Demand
earlier None b = b
earlier (Some a) None = Some a
earlier (Some a) (Some b) = if nat_lt (reported_number b) (reported_number a) then Some b else Some a
