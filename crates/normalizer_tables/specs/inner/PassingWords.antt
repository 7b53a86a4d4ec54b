-- How the bytes of a table are made and kept.
use Rattle.std.specs.Prelude.{◌≡◌, ℕ, ◌<◌, ◌==◌, ◌&&◌, List, bit_and, length, nat_lt, slice_index, if◌then◌else◌}
use Rattle.normalizer_passing.specs.PassBytes.{byte_of}
use Rattle.normalizer_tables.specs.PassingWords.{byte_of_word}
use Rattle.normalizer_tables.specs.Ranges.{IsComplete}
use Rattle.normalizer_tables.specs.Table.{Block, Table, word_at}
use Rattle.normalizer_tables.specs.Words.{is_ordinary_class_form, low_byte}

-- a starter passes if its word has none of the bits, and a mark if it has the ordinary class form
unfoldable pub byte_without : ℕ → ℕ → ℕ
byte_without bits w =
    if bit_and w bits == 0 then 255 else if is_ordinary_class_form w && nat_lt (low_byte w) 255 then low_byte w else 0

-- the bytes of the words of a block
pub record AreBytesWithout (bits : ℕ) (block : Block) (bytes : List ℕ) : Type 0 where
  pub long : length bytes ≡ 64
  pub of_words : (k : ℕ) → k < 64 → slice_index bytes k ≡ byte_without bits (slice_index block k)

-- what passes does so by its word
abbrev pub HasBytesWithout : ℕ → Table → List ℕ → Type 0
HasBytesWithout bits t bytes = (n : ℕ) → 0 < byte_of bytes n → byte_of bytes n ≡ byte_without bits (word_at t n)

-- the table is complete, and what passes in a decomposing form does so by its word
pub record HasBytes (t : Table) (bytes : List ℕ) : Type 0 where
  pub complete : IsComplete t
  pub of_words : (n : ℕ) → 0 < byte_of bytes n → byte_of bytes n ≡ byte_of_word (word_at t n)
