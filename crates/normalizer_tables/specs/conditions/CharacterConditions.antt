-- What the written conditions say of decomposition data, word by word and list by list.
use Rattle.std.specs.Prelude.{◌≡◌, ◌≢◌, ℕ, ◌+◌, ◌<◌, Bool, true, false, ◌||◌, List, [], ◌∷◌, length, drop}
use Rattle.std.specs.Prelude.{map, All, Some, IsSome}
use Rattle.std.specs.Int.{is_in_range}
use Rattle.std.specs.Option.{option_map}
use Rattle.normal_forms.specs.Reading.{IsStarter, IsMark}
use Rattle.normal_forms.specs.Order.{order}
use Rattle.normal_forms.specs.Boundary.{BeginsWithStarter}
use Rattle.normalizer_tables.specs.declared.word.WordReading.{WordReading}
use Rattle.normalizer_tables.specs.declared.word.WordReading.TheVariants.{SpecialForm, TwoCharacters, Fdfa, Listed}
use Rattle.normalizer_tables.specs.Data.{Lists}
use Rattle.normalizer_tables.specs.Hangul.{is_hangul_syllable}
use Rattle.normalizer_tables.specs.SpecialLists.{fixed_list_of}
use Rattle.normalizer_tables.specs.Words.{ignored_marker, is_class_form, is_ordinary_class_form, is_special_class_form}
use Rattle.normalizer_tables.specs.Words.{is_non_round_trip, is_backward_combining, low_byte}
use Rattle.normalizer_tables.specs.Characters.{Characters, word_of, reading_of_word, list_read, list_of, class_of}
use Rattle.normalizer_tables.specs.Characters.{has_class_form}
use Rattle.normalizer_tables.specs.Readings.{reading_by}
use Rattle.normalizer_tables.specs.Ignored.{Dropped}

-- how many items two tables hold together
abbrev pub item_count : Lists → ℕ
item_count t = length t.scalars16 + length t.scalars24

-- the word of n reads, and to n alone. The ignored marker doesn't.
unfoldable pub ReadsToItself : Characters → ℕ → Type 0
ReadsToItself s n = list_read s [] n ≡ Some (n ∷ [])

-- n reads to itself with class 0
unfoldable pub IsPlainStarter : Characters → ℕ → Type 0
IsPlainStarter s n = ReadsToItself s n × (class_of s n ≡ 0)

-- a conjoining jamo that takes part in a Hangul syllable
unfoldable pub is_composing_jamo : ℕ → Bool
is_composing_jamo n = is_in_range 0x1100 0x1112 n || is_in_range 0x1161 0x1175 n || is_in_range 0x11A8 0x11C2 n

-- a surrogate code point (The Unicode Standard, D71, D73)
unfoldable pub is_surrogate : ℕ → Bool
is_surrogate n = is_in_range 0xD800 0xDFFF n

-- U+FFFD reads to itself with class 0, and has NON_ROUND_TRIP alone
unfoldable pub IsFlaggedReplacement : Characters → Type 0
IsFlaggedReplacement s =
    IsPlainStarter s 0xFFFD × (is_non_round_trip (word_of s 0xFFFD) ≡ true)
    × (is_backward_combining (word_of s 0xFFFD) ≡ false)

-- a Hangul syllable has the word 1, and a jamo of one reads to itself with class 0
pub record IsSoundHangul (s : Characters) (n : ℕ) : Type 0 where
  pub syllable : is_hangul_syllable n ≡ true → word_of s n ≡ 1
  pub jamo : is_composing_jamo n ≡ true → IsPlainStarter s n

-- of the character n with the word w, an ordinary class is 1 to 254, and the class of a special form that of n's fixed
-- list
pub record IsSoundClass (n w : ℕ) : Type 0 where
  pub ordinary : is_ordinary_class_form w ≡ true → (0 < low_byte w) × (low_byte w < 255)
  pub special : is_special_class_form w ≡ true → option_map (λ f. f.class) (fixed_list_of n) ≡ Some (low_byte w)

-- the word of n reads, its class is sound, a class form has BACKWARD_COMBINING, and only the mapper's data have the
-- ignored marker
pub record IsSoundWord (s : Characters) (n : ℕ) : Type 0 where
  pub reads : IsSome (list_read s [] n)
  pub class : IsSoundClass n (word_of s n)
  pub flagged : is_class_form (word_of s n) ≡ true → is_backward_combining (word_of s n) ≡ true
  pub marker : s.is_mapper ≡ false → word_of s n ≢ ignored_marker

-- all members after the first are marks
abbrev pub HasMarksAfterFirst : Characters → List ℕ → Type 0
HasMarksAfterFirst s x = All (IsMark (reading_by s Dropped [])) (drop 1 x)

-- what the word of n promises of the classes of the list's members
unfoldable pub KeepsPromise : Characters → ℕ → WordReading → Type 0
KeepsPromise s n (TwoCharacters a b) = HasMarksAfterFirst s (list_of s [] n)
KeepsPromise s n (Listed item low rest_are_marks) = rest_are_marks ≡ true → HasMarksAfterFirst s (list_of s [] n)
KeepsPromise s n (SpecialForm k) =
    option_map (λ f. f.member_classes) (fixed_list_of n) ≡ Some (map (class_of s) (list_of s [] n))
KeepsPromise s n Fdfa = All (IsStarter (reading_by s Dropped [])) (list_of s [] n)
KeepsPromise s n _ = Unit {0}

-- the list of n is in canonical order, begins with a starter if n has no class form, and keeps the promise of its word
pub record IsOrderedList (s : Characters) (n : ℕ) : Type 0 where
  pub ordered : order (reading_by s Dropped []) (list_of s [] n) ≡ list_of s [] n
  pub first : has_class_form s n ≡ false → BeginsWithStarter (reading_by s Dropped []) (list_of s [] n)
  pub promise : KeepsPromise s n (reading_of_word s n)
