-- Records of the mapper by ranges: what it does with all characters of each.
use Rattle.std.specs.Prelude.{ℕ, ◌-◌, ◌||◌, List, [], ◌∷◌, if◌then◌else◌}
use Rattle.std.specs.Int.{is_in_range}
use Rattle.std.specs.List.{flat_map, range_with_len}
use Rattle.normalizer_records.specs.RecordValue.{Status, Uts46RecordValue}

-- the code points from first on, before end, and what is done with them
pub record Uts46RangeValue : Type 0 where
  pub first : ℕ
  pub end : ℕ
  pub status : Status

-- a surrogate isn't a character
abbrev pub entries_at : Status → ℕ → List Uts46RecordValue
entries_at status c =
    if is_in_range 0 0xD7FF c || is_in_range 0xE000 0x10FFFF c then record { c = c; status = status } ∷ [] else []

-- a record for each character of a range
unfoldable pub entries_of : Uts46RangeValue → List Uts46RecordValue
entries_of r = flat_map (entries_at r.status) (range_with_len r.first (r.end - r.first))
