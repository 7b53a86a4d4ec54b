-- What was read of a character.
use Rattle.std.specs.Prelude.{◌≡◌, ◌↔◌, [], IsSome, IsTrue}
use Rattle.std.specs.Char.{IsScalar}
use Rattle.normalizer_tables.specs.declared.read.ReadCharacter.{ReadCharacter}
use Rattle.normalizer_tables.specs.Characters.{Characters, word_of, reading_of_word, list_read, list_of}

-- it is what these data say of the character
pub record IsRead (s : Characters) (r : ReadCharacter) : Type 0 where
  pub character : IsScalar r.character
  pub word : r.word ≡ word_of s r.character
  pub reading : r.reading ≡ reading_of_word s r.character
  pub reads : IsTrue r.reads ↔ IsSome (list_read s [] r.character)
  pub list : r.list ≡ list_of s [] r.character
