-- What the data say of each character: its list and its class.
use Rattle.std.specs.Prelude.{ℕ, ◌+◌, ◌-◌, Bool, nat_lt, nat_le, List, [], ◌∷◌, length, take, drop, Option, Some, None}
use Rattle.std.specs.Prelude.{unwrap_or, option_and_then, if◌then◌else◌, true, false, ◌≡◌, ◌<◌, ◌≤◌}
use Rattle.std.specs.List.{list_all}
use Rattle.std.specs.Option.{option_map}
use lib.Utf8.{scalar}
use Rattle.normalizer_tables.specs.declared.word.WordReading.{WordReading}
use Rattle.normalizer_tables.specs.declared.word.WordReading.TheVariants.{Ignored, Itself, ClassForm, SpecialForm}
use Rattle.normalizer_tables.specs.declared.word.WordReading.TheVariants.{TwoCharacters, HangulSyllable, Fdfa}
use Rattle.normalizer_tables.specs.declared.word.WordReading.TheVariants.{OneCharacter, Listed}
use Rattle.normalizer_tables.specs.Table.{word_at, code_points}
use Rattle.normalizer_tables.specs.Data.{Decompositions, Lists, lists_or_none}
use Rattle.normalizer_tables.specs.Hangul.{hangul_decomposition}
use Rattle.normalizer_tables.specs.SpecialLists.{fixed_list_of, fdfa_list}
use Rattle.normalizer_tables.specs.Words.{read, class_of_word, is_class_form, is_disallowed, is_plain}

-- decomposition data, the tables that their words point into, one after another, and whether they are the mapper's
pub record Characters : Type 0 where
  pub decompositions : Decompositions
  pub tables : Lists
  pub supplementary : Lists
  pub is_mapper : Bool

-- the word of a number
unfoldable pub word_of : Characters → ℕ → ℕ
word_of s n = word_at s.decompositions.table n

-- how the word of a number reads
unfoldable pub reading_of_word : Characters → ℕ → WordReading
reading_of_word s n = read n (word_of s n) s.is_mapper

-- a list of scalar values
unfoldable pub as_text : List ℕ → Option (List ℕ)
as_text x = if list_all scalar x then Some x else None

-- n items from a place on, if they lie within the table
unfoldable pub items_at : {A : Type 0} → List A → ℕ → ℕ → Option (List A)
items_at table place n = if nat_le (place + n) (length table) then Some (take n (drop place table)) else None

-- a list in a table of 16-bit numbers: of the low bits plus two, and all of them scalar values
unfoldable pub narrow_at : List ℕ → ℕ → ℕ → Option (List ℕ)
narrow_at units low place = option_and_then as_text (items_at units place (low + 2))

-- a list in a table of 24-bit numbers, which holds scalar values alone: of the low bits plus one
unfoldable pub wide_at : List ℕ → ℕ → ℕ → Option (List ℕ)
wide_at scalars low place = items_at scalars place (low + 1)

-- what this table has at a place, or the tables after it at the places past it
unfoldable pub placed_in : List ℕ → (ℕ → Option (List ℕ)) → (ℕ → Option (List ℕ)) → ℕ → Option (List ℕ)
placed_in table gives after item = if nat_lt item (length table) then gives item else after (item - length table)

-- the list from an item on of one pair of tables, or of those after them
unfoldable pub listed_in : Lists → ℕ → (ℕ → Option (List ℕ)) → ℕ → Option (List ℕ)
listed_in t low after =
    placed_in t.scalars16 (narrow_at t.scalars16 low) (placed_in t.scalars24 (wide_at t.scalars24 low) after)

-- the list from an item on of the four tables, put one after another
unfoldable pub listed_at : Characters → ℕ → ℕ → Option (List ℕ)
listed_at s item low = listed_in s.tables low (listed_in s.supplementary low (λ past. None)) item

-- the list that a reading names; none if a member isn't a scalar value, or it lies outside the tables
unfoldable pub named_list : Characters → List ℕ → ℕ → WordReading → Option (List ℕ)
named_list s ignored n Ignored = Some ignored
named_list s ignored n Itself = Some (n ∷ [])
named_list s ignored n (ClassForm k) = Some (n ∷ [])
named_list s ignored n (SpecialForm k) = option_map (λ f. f.list) (fixed_list_of n)
named_list s ignored n (TwoCharacters a b) = as_text (a ∷ b ∷ [])
named_list s ignored n HangulSyllable = as_text (hangul_decomposition n)
named_list s ignored n Fdfa = Some fdfa_list
named_list s ignored n (OneCharacter a) = as_text (a ∷ [])
named_list s ignored n (Listed item low rest_are_marks) = listed_at s item low

-- the list that the word of a character reads to; none if it doesn't read, as for numbers that are no scalar values
unfoldable pub list_read : Characters → List ℕ → ℕ → Option (List ℕ)
list_read s ignored n = if scalar n then named_list s ignored n (reading_of_word s n) else None

-- the list of a character; that of the ignored marker is `ignored`. Every number has one: its own if it is no scalar
-- value, or its word doesn't read.
unfoldable pub list_of : Characters → List ℕ → ℕ → List ℕ
list_of s ignored n = unwrap_or (list_read s ignored n) (n ∷ [])

-- the class of a scalar value, 0 for other numbers
unfoldable pub class_of : Characters → ℕ → ℕ
class_of s n = if scalar n then class_of_word (word_of s n) else 0

-- the class of a character that reads as itself
unfoldable pub class_of_itself : WordReading → Option ℕ
class_of_itself Itself = Some 0
class_of_itself (ClassForm k) = Some k
class_of_itself _ = None

-- the word of the character is a class form
unfoldable pub has_class_form : Characters → ℕ → Bool
has_class_form s n = is_class_form (word_of s n)

-- what data that are no mapper's say of characters, with the tables of compatibility data if there are some
abbrev pub characters_from : Decompositions → Lists → Option Lists → Characters
characters_from decompositions tables supplementary = record {
  decompositions = decompositions;
  tables = tables;
  supplementary = lists_or_none supplementary;
  is_mapper = false;
}

-- n is the first number from `from` on whose word isn't 0, flags aside, or the first past the code points
pub record IsNextWord (s : Characters) (from n : ℕ) : Type 0 where
  pub least : from ≤ n
  pub within : n ≤ code_points
  pub between : (m : ℕ) → from ≤ m → m < n → is_plain (word_of s m) ≡ true
  pub found : n < code_points → is_plain (word_of s n) ≡ false

-- `end` is the first number from `from` on that hasn't the word of a disallowed character, or the first past the code
-- points
pub record IsEndOfDisallowed (s : Characters) (from end : ℕ) : Type 0 where
  pub least : from ≤ end
  pub within : end ≤ code_points
  pub between : (m : ℕ) → from ≤ m → m < end → is_disallowed (word_of s m) ≡ true
  pub found : end < code_points → is_disallowed (word_of s end) ≡ false
