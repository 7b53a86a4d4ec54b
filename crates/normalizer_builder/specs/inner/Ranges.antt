-- Which ranges of the mapper stay ranges, and what private contracts say of them and of the other records.
use Rattle.std.specs.Prelude.{◌≡◌, ℕ, ◌<◌, ◌-◌, Bool, true, false, not, ◌&&◌, ◌||◌, nat_lt, nat_le, List, All, Contains}
use Rattle.std.specs.Prelude.{filter, Option, Some, None, if◌then◌else◌}
use Rattle.std.specs.Char.{IsScalar}
use Rattle.std.specs.Int.{is_in_range}
use Rattle.std.specs.List.{list_any}
use Rattle.normalizer_packing.specs.Disallowed.{is_in}
use Rattle.normalizer_records.specs.Faults.{AreMapperRising, is_disallowed, is_fixed}
use Rattle.normalizer_records.specs.Meaning.{entry_of}
use Rattle.normalizer_records.specs.Ranges.{Uts46RangeValue}
use Rattle.normalizer_records.specs.RecordValue.{IsDisallowed, RecordValue, Uts46RecordValue}

-- the numbers before the end have none from low to high
abbrev pub is_clear : ℕ → ℕ → ℕ → ℕ → Bool
is_clear first end low high = nat_le end low || nat_lt high first

-- no character in the range has fixed data
unfoldable pub is_free : ℕ → ℕ → Bool
is_free first end =
    is_clear first end 0x1100 0x11FF && (is_clear first end 0xAC00 0xD7A3 && is_clear first end 0xFFFD 0xFFFD)

-- some record is of a character in the range
unfoldable pub is_recorded : List RecordValue → ℕ → ℕ → Bool
is_recorded records first end = list_any (λ r. nat_le first r.c && nat_lt r.c end) records

-- the first and the last code point, if both are characters
unfoldable pub ends_of : ℕ → ℕ → Option (ℕ × ℕ)
ends_of first end =
    if nat_lt 0 end && ((is_in_range 0 0xD7FF first || is_in_range 0xE000 0x10FFFF first)
    && (is_in_range 0 0xD7FF (end - 1) || is_in_range 0xE000 0x10FFFF (end - 1))) then Some (first, end - 1) else None

-- the ends of a range that stays one: it is only recorded of its characters that the mapper disallows them
unfoldable pub whole_range : List RecordValue → Uts46RangeValue → Option (ℕ × ℕ)
whole_range records r =
    if is_disallowed r.status && (is_free r.first r.end && not (is_recorded records r.first r.end))
    then ends_of r.first r.end else None

-- of all records of the mapper, those that aren't in ranges, which have disallowed characters of which nothing else is
-- recorded; the characters are before the end
pub record IsSplit (records : List RecordValue) (all others : List Uts46RecordValue) (ranges : List (ℕ × ℕ)) (end : ℕ)
    : Type 0 where
  pub rising : AreMapperRising all
  pub before : All (λ r. r.c < end) all
  pub early : (n : ℕ) → is_in ranges n ≡ true → n < end
  pub kept : others ≡ filter (λ r. not (is_in ranges r.c)) all
  pub disallowed : All (λ r. is_in ranges r.c ≡ true → r.status ≡ IsDisallowed) all
  pub characters : All (λ r. IsScalar r.c) all
  pub each : (n : ℕ) → IsScalar n → is_in ranges n ≡ true → Contains all (record { c = n; status = IsDisallowed })
  pub unrecorded : (n : ℕ) → is_in ranges n ≡ true → entry_of records n ≡ None
  pub unfixed : (n : ℕ) → is_in ranges n ≡ true → is_fixed n ≡ false
