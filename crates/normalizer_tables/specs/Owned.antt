-- What a normalizer's data say of characters.
use Rattle.std.specs.Prelude.{Bool}
use Rattle.normalizer_tables.specs.Characters.{Characters}
use Rattle.normalizer_tables.specs.Data.{lists_or_none}
use Rattle.normalizer_tables.specs.declared.owned.OwnedCharacterData.{OwnedCharacterData}

-- the data with their tables, a mapper's or others
abbrev pub characters_owned : OwnedCharacterData → Bool → Characters
characters_owned owned is_mapper = record {
  decompositions = owned.decompositions;
  tables = owned.tables;
  supplementary = lists_or_none owned.supplementary;
  is_mapper = is_mapper;
}
