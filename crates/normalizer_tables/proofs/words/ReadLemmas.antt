-- What follows for a character that was read.
use Rattle.std.proofs.Common.{arith, ◌≡◌, true, false, [], Some, None, ap, sym, ◌∙◌}
use Rattle.normalizer_tables.specs.declared.read.ReadCharacter.{ReadCharacter}
use Rattle.normalizer_tables.specs.Words.{class_of_word}
use Rattle.normalizer_tables.specs.Characters.{Characters, list_read, list_of, class_of}
use Rattle.normalizer_tables.specs.Read.{IsRead}
use Rattle.normalizer_tables.proofs.words.CharacterLemmas.{list_of-reads, class_of-scalar}

-- the list is read, or none is
pub list_read-reads : (s : Characters) (r : ReadCharacter) → IsRead s r → r.reads ≡ true → list_read s [] r.character ≡ Some r.list
unfolding list_of
list_read-reads s r is_read reads = grind (arith, is_read.reads, is_read.list)

pub list_read-fails : (s : Characters) (r : ReadCharacter) → IsRead s r → r.reads ≡ false → list_read s [] r.character ≡ None
list_read-fails s r is_read fails = grind (arith, is_read.reads)

pub class_of-read : (s : Characters) (r : ReadCharacter) → IsRead s r → class_of_word r.word ≡ class_of s r.character
class_of-read s r is_read = ap class_of_word is_read.word ∙ sym (class_of-scalar s r.character is_read.character)

-- what a character that was read says
pub ruleset readings = (list_read-reads, list_read-fails, class_of-read, list_of-reads)
