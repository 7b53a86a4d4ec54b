-- The reading of a 32-bit word: the first line that fits decides.
use Rattle.std.specs.Prelude.{ℕ, ◌-◌, ◌/◌, ◌^◌, Bool, not, ◌&&◌, ◌||◌, ◌==◌, bit_and, if◌then◌else◌}
use Rattle.normalizer_tables.specs.declared.word.WordReading.{WordReading}
use Rattle.normalizer_tables.specs.declared.word.WordReading.TheVariants.{Ignored, Itself, ClassForm, SpecialForm}
use Rattle.normalizer_tables.specs.declared.word.WordReading.TheVariants.{TwoCharacters, HangulSyllable, Fdfa}
use Rattle.normalizer_tables.specs.declared.word.WordReading.TheVariants.{OneCharacter, Listed}
use Rattle.normalizer_tables.specs.Hangul.{is_hangul_syllable}

-- the word of a character that the mapper ignores (UTS #46, section 4)
abbrev pub ignored_marker : ℕ
ignored_marker = 0xFFFFFFFF

-- the word of a character that the mapper disallows: U+FFFD, with NON_ROUND_TRIP
unfoldable pub is_disallowed : ℕ → Bool
is_disallowed w = bit_and w 0xFFFFFFFF == 0x4000FFFD

-- bit 30, NON_ROUND_TRIP: the list doesn't compose to the character alone
unfoldable pub is_non_round_trip : ℕ → Bool
is_non_round_trip w = not (bit_and w 0x40000000 == 0)

-- bit 31, BACKWARD_COMBINING: the list begins with a mark or with the second of a pair
unfoldable pub is_backward_combining : ℕ → Bool
is_backward_combining w = not (bit_and w 0x80000000 == 0)

-- the character itself, with the class of the low byte
unfoldable pub is_ordinary_class_form : ℕ → Bool
is_ordinary_class_form w = bit_and w 0x3FFFFF00 == 0xD800

-- the fixed list of the character, with the class of the low byte
unfoldable pub is_special_class_form : ℕ → Bool
is_special_class_form w = bit_and w 0x3FFFFF00 == 0xD900

-- one of the two forms with a class
unfoldable pub is_class_form : ℕ → Bool
is_class_form w = is_ordinary_class_form w || is_special_class_form w

-- the low byte
unfoldable pub low_byte : ℕ → ℕ
low_byte w = bit_and w 0xFF

-- the class in a word
unfoldable pub class_of_word : ℕ → ℕ
class_of_word w = if is_class_form w then low_byte w else 0

-- the character itself, with class 0, whatever the flags
unfoldable pub is_plain : ℕ → Bool
is_plain w = bit_and w 0x3FFFFFFF == 0

-- bits 16 to 29 are 0
unfoldable pub has_high_zeros : ℕ → Bool
has_high_zeros w = bit_and w 0x3FFF0000 == 0

-- bits 5 to 15 are 0
unfoldable pub has_low_zeros : ℕ → Bool
has_low_zeros w = bit_and w 0xFFE0 == 0

-- a word that spells two characters
unfoldable pub two_characters : ℕ → WordReading
two_characters w = TwoCharacters (bit_and w 0x7FFF) (bit_and (w / 2 ^ 15) 0x7FFF)

-- a word that points into the tables: the first item, the low bits of the length, and whether all members after the
-- first are promised as marks
unfoldable pub listed_reading : ℕ → WordReading
listed_reading w = Listed (bit_and w 0x3FFFFFFF / 2 ^ 16 - 1) (bit_and w 0xF) (not (bit_and w 0x10 == 0))

-- a word with high zeros
unfoldable pub read_low : ℕ → ℕ → WordReading
read_low c w =
    if is_hangul_syllable c then HangulSyllable
    else if bit_and w 0xFFFF == 1 then Fdfa
    else OneCharacter (bit_and w 0xFFFF)

-- the reading of the word w of the character c, in the mapper's data or in others
unfoldable pub read : ℕ → ℕ → Bool → WordReading
read c w is_mapper =
    if is_mapper && (w == ignored_marker) then Ignored
    else if is_plain w then Itself
    else if is_ordinary_class_form w then ClassForm (low_byte w)
    else if is_special_class_form w then SpecialForm (low_byte w)
    else if not (has_high_zeros w) && not (has_low_zeros w) then two_characters w
    else if has_high_zeros w then read_low c w
    else listed_reading w
