-- The data of mappers.
use Rattle.std.specs.Prelude.{true}
use Rattle.normalizer_tables.specs.Owned.{characters_owned}
use Rattle.icu_normalizer.specs.declared.uts46.Uts46Mapper.{Uts46Mapper}
use Rattle.icu_normalizer.specs.declared.uts46.Uts46MapperBorrowed.{Uts46MapperBorrowed}
use Rattle.icu_normalizer.specs.Uts46.{MapperData}

-- the data and the pairs that it owns
abbrev pub mapper_data_of : Uts46Mapper → MapperData
mapper_data_of m = (characters_owned m.characters true, m.pairs)

-- the data and the pairs that it borrows
abbrev pub mapper_data_of_borrowed : Uts46MapperBorrowed → MapperData
mapper_data_of_borrowed m = (m.characters, m.pairs.now)
