-- Reading a file of prepared data.
use Rattle.std.specs.Prelude.{◌≡◌, ℕ, ◌+◌, ◌-◌, ◌%◌, ◌^◌, ◌==◌, List, length, drop, Result, Ok, Err, if◌then◌else◌}
use Rattle.std.specs.List.{fold}
use Rattle.normalizer_packing.specs.declared.Packed.{Packed}
use Rattle.normalizer_tables.specs.Data.{Decompositions}
use Rattle.normalizer_prepared.specs.declared.fault.Fault.{Fault}
use Rattle.normalizer_prepared.specs.declared.fault.Fault.TheVariants.{Magic, Version, Length, Sum, Trailing}
use Rattle.normalizer_prepared.specs.declared.fault.PreparedError.{PreparedError}
use Rattle.normalizer_prepared.specs.declared.fault.PreparedError.TheVariants as error
use Rattle.normalizer_prepared.specs.declared.fault.ReadError.{ReadError}
use Rattle.normalizer_prepared.specs.declared.fault.ReadError.TheVariants as errors
use Rattle.normalizer_prepared.specs.declared.reading.PreparedData.{PreparedData}
use Rattle.normalizer_prepared.specs.Reading.{◌>>=◌, Read, Wrong, byte_at, number_at, list_at, pair_at}
use Rattle.normalizer_prepared.specs.Reading.{decompositions_at, lists_at, supplement_at}

-- the letters NORM
abbrev pub magic : ℕ
magic = 0x4D524F4E

-- the version of the format
abbrev pub format : ℕ
format = 2

-- how many bytes are before what the sums are of
abbrev pub header_length : ℕ
header_length = 20

-- the sum modulo 2 ^ 32
abbrev pub plus : ℕ → ℕ → ℕ
plus a b = (a + b) % 2 ^ 32

-- the sum of bytes, and the sum of the sums of all their beginnings, with one byte more
abbrev pub add_byte : ℕ × ℕ → ℕ → ℕ × ℕ
add_byte s b = (plus s.0 b, plus s.1 (plus s.0 b))

-- both sums of bytes
unfoldable pub sums : List ℕ → ℕ × ℕ
sums bytes = fold add_byte (0, 0) bytes

-- the bytes after a number of four bytes, which must be this one
unfoldable pub fixed_at : Fault → ℕ → List ℕ → Result (List ℕ) Wrong
fixed_at fault wanted bytes = do
  n ← number_at 4 bytes
  if n.0 == wanted then Ok n.1 else Err (fault, length bytes)

-- the bytes after the header, which must have both sums
unfoldable pub header_at : List ℕ → Result (List ℕ) Wrong
header_at bytes = do
  a ← fixed_at Magic magic bytes
  b ← fixed_at Version format a
  c ← fixed_at Length (length bytes) b
  d ← fixed_at Sum (sums (drop header_length bytes)).0 c
  fixed_at Sum (sums (drop header_length bytes)).1 d

-- the version of Unicode
unfoldable pub version_at : List ℕ → Read (ℕ × ℕ × ℕ)
version_at bytes = do
  major ← number_at 4 bytes
  minor ← number_at 4 major.1
  update ← number_at 4 minor.1
  Ok ((major.0, minor.0, update.0), update.1)

-- the mapper's data: the canonical ones after the flag 0, otherwise its own
unfoldable pub mapper_at : Decompositions → List ℕ → Read Decompositions
mapper_at canonical bytes = do
  flag ← byte_at bytes
  if flag.0 == 0 then Ok (canonical, flag.1) else decompositions_at flag.1

-- the data of all markers
unfoldable pub data_at : List ℕ → Read Packed
data_at bytes = do
  canonical ← decompositions_at bytes
  compatibility ← decompositions_at canonical.1
  mapper ← mapper_at canonical.0 compatibility.1
  tables ← lists_at mapper.1
  further ← lists_at tables.1
  pairs ← list_at pair_at further.1
  supplement ← supplement_at pairs.1
  Ok (
    record {
      canonical = canonical.0;
      compatibility = compatibility.0;
      mapper = mapper.0;
      tables = tables.0;
      supplementary_tables = further.0;
      compositions = pairs.0;
      supplement = supplement.0;
    },
    supplement.1,
  )

abbrev pub holding : Packed → ℕ × ℕ × ℕ → PreparedData
holding p version = record { built = record { packed = p }; version = version }

-- what a file holds
unfoldable pub held_in : List ℕ → Result PreparedData Wrong
held_in bytes = do
  rest ← header_at bytes
  version ← version_at rest
  p ← data_at version.1
  if length p.1 == 0 then Ok (holding p.0 version.0) else Err (Trailing, length p.1)

-- the error for a fault in this many bytes
abbrev pub error_for : ℕ → ReadError → PreparedError
error_for long errors.Memory = error.Memory
error_for long (errors.Wrong fault left) = error.Wrong fault (long - left)

-- the error is `Memory`, or the first fault that is met, with its offset
abbrev pub IsFirstFault : List ℕ → PreparedError → Type 0
IsFirstFault bytes error.Memory = Unit {0}
IsFirstFault bytes (error.Wrong fault offset) =
    (left : ℕ) × (held_in bytes ≡ Err (fault, left)) × (offset ≡ length bytes - left)
