-- The status of a record of the mapper, its mapping seen as a list.
use Rattle.normalizer_records.specs.declared.records.Uts46Status.{Uts46Status}
use Rattle.normalizer_records.specs.declared.records.Uts46Status.TheVariants.{Mapped, Ignored, Disallowed}
use Rattle.normalizer_records.specs.RecordValue.{Status, MapsTo, IsIgnored, IsDisallowed}

-- the status that a record of the mapper states
abbrev pub status_of : Uts46Status → Status
status_of (Mapped mapping) = MapsTo mapping.items
status_of Ignored = IsIgnored
status_of Disallowed = IsDisallowed
