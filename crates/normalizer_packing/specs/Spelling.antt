-- How the word of a character spells its list: the first line that fits decides.
use Rattle.std.specs.Prelude.{ℕ, ◌+◌, ◌*◌, ◌<◌, ◌^◌, Bool, false, not, ◌&&◌, ◌==◌, nat_eq, nat_lt, nat_le, List, []}
use Rattle.std.specs.Prelude.{◌∷◌, Option, Some, None, if◌then◌else◌}
use Rattle.std.specs.Cmp.Lexicographic.{pointwise}
use Rattle.normalizer_tables.specs.conditions.Conditions.{is_surrogate}
use Rattle.normalizer_tables.specs.Hangul.{is_hangul_syllable}
use Rattle.normalizer_tables.specs.SpecialLists.{fixed_list_of, fdfa_list}
use Rattle.normalizer_tables.specs.Words.{ignored_marker, has_high_zeros, has_low_zeros}
use Rattle.normalizer_packing.specs.declared.spelling.Spelling.{Spelling}
use Rattle.normalizer_packing.specs.declared.spelling.Spelling.TheVariants.{Final, Short, Listed}

-- the two lists are equal
abbrev pub list_eq : List ℕ → List ℕ → Bool
list_eq x y = pointwise nat_eq x y

-- the word, with its flags, of numbers whose list no entry changes
unfoldable pub final_word : ℕ → Option ℕ
final_word n =
    if is_hangul_syllable n then Some 1
    else if is_surrogate n then Some 0xC000FFFD
    else if n == 0xFFFD then Some 0x40000000
    else None

-- the members have these classes
abbrev pub have_classes : (ℕ → ℕ) → List ℕ → List ℕ → Bool
have_classes class classes x = pointwise (λ k c. k == class c) classes x

-- one of the nine characters that have a fixed list, with that list and its classes
unfoldable pub has_fixed_list : (ℕ → ℕ) → ℕ → List ℕ → Bool
has_fixed_list class n x = elim (fixed_list_of n) [
  | Some f ↦ list_eq f.list x && ((f.class == class n) && have_classes class f.member_classes x)
  | None ↦ false
]

-- two characters of 15 bits, the second a mark, whose number is no other form of word. One step of U+212B isn't to two
-- characters, so its word isn't either.
unfoldable pub spells_two : (ℕ → ℕ) → ℕ → ℕ → ℕ → Bool
spells_two class n a b =
    nat_lt a 0x8000 && (nat_lt b 0x8000 && (nat_lt 0 (class b) && (not (n == 0x212B)
    && (not (has_high_zeros (a + b * 0x8000)) && not (has_low_zeros (a + b * 0x8000))))))

-- a list of one character is spelled if it fits into 16 bits; 1 is the form of U+FDFA
abbrev pub spelling_of_one : ℕ → Spelling
spelling_of_one a = if nat_le a 0xFFFF && not (a == 1) then Short a else Listed

-- a list of two characters is spelled in 15 bits each, if that isn't another form of word
abbrev pub spelling_of_two : (ℕ → ℕ) → ℕ → ℕ → ℕ → Spelling
spelling_of_two class n a b = if spells_two class n a b then Short (a + b * 0x8000) else Listed

-- a list that isn't the character alone
unfoldable pub spelling_of_list : (ℕ → ℕ) → ℕ → List ℕ → Spelling
spelling_of_list class n (a ∷ []) = spelling_of_one a
spelling_of_list class n (a ∷ b ∷ []) = spelling_of_two class n a b
spelling_of_list class n x = if list_eq x fdfa_list then Short 1 else Listed

-- a list of a character whose word is by its list
unfoldable pub spelling_by_list : (ℕ → ℕ) → ℕ → List ℕ → Spelling
spelling_by_list class n x =
    if has_fixed_list class n x then Short (0xD900 + class n)
    else if list_eq x (n ∷ []) then Short (if class n == 0 then 0 else 0xD800 + class n)
    else spelling_of_list class n x

-- the ignored marker if the mapper ignores the character, which then has no list
unfoldable pub spelling_or_ignored : (ℕ → ℕ) → ℕ → Option (List ℕ) → Spelling
spelling_or_ignored class n None = Final ignored_marker
spelling_or_ignored class n (Some x) = spelling_by_list class n x

-- the spelling of the list of a character, by the classes of all characters
unfoldable pub spelling : (ℕ → ℕ) → ℕ → Option (List ℕ) → Spelling
spelling class n list = elim (final_word n) [ Some w ↦ Final w | None ↦ spelling_or_ignored class n list ]

-- a word without its flags leaves the two high bits to them
abbrev pub HasRoomForFlags : Spelling → Type 0
HasRoomForFlags (Final w) = Unit {0}
HasRoomForFlags (Short w) = w < 2 ^ 30
HasRoomForFlags Listed = Unit {0}
