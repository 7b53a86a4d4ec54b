-- Records that say the same: all their fields are equal.
use Rattle.std.specs.Prelude.{Bool, true, false, ◌&&◌, ◌==◌, nat_eq}
use Rattle.std.specs.Bool.{beq}
use Rattle.std.specs.Cmp.Lexicographic.{pointwise}
use Rattle.normalizer_records.specs.RecordValue.{RecordValue, Status, MapsTo, IsIgnored, IsDisallowed, Uts46RecordValue}

-- two records are equal in all fields
abbrev pub entry_eq : RecordValue → RecordValue → Bool
entry_eq r s =
    (r.c == s.c) && ((r.class == s.class) && (pointwise nat_eq r.mapping s.mapping
    && (beq r.compatibility s.compatibility && beq r.excluded s.excluded)))

-- two mappings are equal, or the mapper does the same without one
abbrev pub status_eq : Status → Status → Bool
status_eq (MapsTo x) (MapsTo y) = pointwise nat_eq x y
status_eq IsIgnored IsIgnored = true
status_eq IsDisallowed IsDisallowed = true
status_eq _ _ = false

-- two records of the mapper are equal in all fields
abbrev pub mapper_entry_eq : Uts46RecordValue → Uts46RecordValue → Bool
mapper_entry_eq r s = (r.c == s.c) && status_eq r.status s.status
