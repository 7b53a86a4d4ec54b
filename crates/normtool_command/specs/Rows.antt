-- What the rows of the tables record.
use Rattle.std.specs.Prelude.{ℕ, Bool, true, false, List}
use Rattle.icu_normalizer.specs.RecordValue.{RecordValue, Status, Uts46RecordValue, MapsTo, IsIgnored, IsDisallowed}
use Rattle.normtool_command.specs.declared.row.Kind.{Kind}
use Rattle.normtool_command.specs.declared.row.Kind.TheVariants.{Unmapped, Canonical, Excluded, Compatibility}
use Rattle.normtool_command.specs.declared.row.Treatment.{Treatment}
use Rattle.normtool_command.specs.declared.row.Treatment.TheVariants.{Mapped, Ignored, Disallowed}

-- the mapping is a compatibility mapping
abbrev pub is_compatibility : Kind → Bool
is_compatibility Unmapped = false
is_compatibility Canonical = false
is_compatibility Excluded = false
is_compatibility Compatibility = true

-- the pair is excluded from composition
abbrev pub is_excluded : Kind → Bool
is_excluded Unmapped = false
is_excluded Canonical = false
is_excluded Excluded = true
is_excluded Compatibility = false

-- the record of a character with its class and mapping; an empty mapping is none
abbrev pub entry_of : ℕ → ℕ → List ℕ → Kind → RecordValue
entry_of c class mapping kind = record {
  c = c;
  class = class;
  mapping = mapping;
  compatibility = is_compatibility kind;
  excluded = is_excluded kind;
}

-- what the mapper does, by the columns of a row
abbrev pub status_of : List ℕ → Treatment → Status
status_of mapping Mapped = MapsTo mapping
status_of mapping Ignored = IsIgnored
status_of mapping Disallowed = IsDisallowed

-- the mapper's record of a character
abbrev pub mapper_entry_of : ℕ → List ℕ → Treatment → Uts46RecordValue
mapper_entry_of c mapping treatment = record { c = c; status = status_of mapping treatment }
