-- The faults that the class and the lists of an entry show.
use Rattle.std.specs.Prelude.{◌≡◌, ◌⊎◌, false, nat_lt, List, IsSomeAnd}
use Rattle.normalizer_tables.specs.Entries.{EntryValue}
use Rattle.normalizer_records.specs.RecordValue.{RecordValue}
use Rattle.normalizer_records.specs.Faults.{IsTooLong, IsWrong}

-- class 255, or the canonical or the compatibility list is wrong
abbrev pub HasWrongOwnClass : List RecordValue → EntryValue → Type 0
HasWrongOwnClass records e =
    (e.class ≡ 255)
    ⊎ (IsWrong records e.character (nat_lt 0 e.class) e.canonical
    ⊎ IsWrong records e.character (nat_lt 0 e.class) e.compatibility)

-- the mapper's list is wrong
abbrev pub HasWrongMapperList : List RecordValue → EntryValue → Type 0
HasWrongMapperList records e = IsSomeAnd e.mapper (IsWrong records e.character false)

-- the canonical or the compatibility list is too long
abbrev pub HasLongOwnList : EntryValue → Type 0
HasLongOwnList e = IsTooLong e.canonical ⊎ IsTooLong e.compatibility

-- the mapper's list is too long
abbrev pub HasLongMapperList : EntryValue → Type 0
HasLongMapperList e = IsSomeAnd e.mapper IsTooLong
