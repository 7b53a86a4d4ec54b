-- Lines and their fields: of all files (Unicode Standard Annex #44, section 4.2), of UnicodeData.txt (section 4.2.3,
-- table 9) and of IdnaMappingTable.txt (Unicode Technical Standard #46, section 5).
use Rattle.std.specs.Prelude.{ℕ, ◌+◌, ◌-◌, ◌*◌, ◌^◌, ◌==◌, ◌&&◌, ◌||◌, not, Bool, nat_eq, nat_lt, nat_le, List, []}
use Rattle.std.specs.Prelude.{◌∷◌, length, codes, take, drop, map, Option, Some, None, slice_get, if◌then◌else◌}
use Rattle.std.specs.Option.{option_and_then, option_map, unwrap_or}
use Rattle.std.specs.Str.{bytes_eq}
use Rattle.std.specs.List.{slice_split, prefix_len, suffix_len, after_first, before_first, ends_with, list_any}
use Rattle.std.specs.List.{starts_with}
use Rattle.std.specs.Int.{is_in_range}
use Rattle.std.specs.Char.{is_ascii_whitespace, is_digit, digit_value}
use Rattle.normalizer_ucd.specs.declared.idna_table.StatusName.{StatusName}
use Rattle.normalizer_ucd.specs.declared.idna_table.StatusName.TheVariants as names

-- what lies between line feeds
abbrev pub lines : List ℕ → List (List ℕ)
lines file = slice_split (λ b. b == 0x0A) file

abbrev pub trim_end : List ℕ → List ℕ
trim_end text = take (length text - suffix_len is_ascii_whitespace text) text

-- without the white space round it, that is also without the carriage return at the end of a line
abbrev pub trim : List ℕ → List ℕ
trim text = trim_end (drop (prefix_len is_ascii_whitespace text) text)

-- a line without its comment, which begins at a number sign
abbrev pub data_of : List ℕ → List ℕ
data_of line = trim (before_first (λ b. b == 0x23) line)

abbrev pub has_data : List ℕ → Bool
has_data line = not (length (data_of line) == 0)

-- what lies between the occurrences of a byte, by its number
abbrev pub part : List ℕ → ℕ → ℕ → Option (List ℕ)
part text at n = slice_get (slice_split (λ b. b == at) text) n

-- a field of a line by its number: what lies between semicolons
abbrev pub field : List ℕ → ℕ → Option (List ℕ)
field line n = option_map trim (part line 0x3B n)

-- a number with a further digit, if that is one of the radix and the whole needs no more than 32 bits
abbrev pub with_digit : ℕ → ℕ → ℕ → Option ℕ
with_digit radix n d =
    if is_digit d radix && nat_lt (n * radix + digit_value d) (2 ^ 32) then Some (n * radix + digit_value d) else None

abbrev pub with_digits : ℕ → ℕ → List ℕ → Option ℕ
with_digits radix n [] = Some n
with_digits radix n (d ∷ ds) = option_and_then (λ m. with_digits radix m ds) (with_digit radix n d)

-- the number that digits write, the highest first
unfoldable pub number : ℕ → List ℕ → Option ℕ
number radix ds = if length ds == 0 then None else with_digits radix 0 ds

abbrev pub code_point : List ℕ → Option ℕ
code_point text = option_and_then (λ n. if nat_le n 0x10FFFF then Some n else None) (number 16 text)

-- a code point but no surrogate (D76 of The Unicode Standard)
abbrev pub is_scalar_value : ℕ → Bool
is_scalar_value n = is_in_range 0 0xD7FF n || is_in_range 0xE000 0x10FFFF n

abbrev pub character : List ℕ → Option ℕ
character text = option_and_then (λ n. if is_scalar_value n then Some n else None) (number 16 text)

-- the items, if there is one at each place
abbrev pub all_some : {A : Type 0} → List (Option A) → Option (List A)
all_some [] = Some []
all_some (o ∷ os) = option_and_then (λ x. option_map (λ xs. x ∷ xs) (all_some os)) o

-- characters as hexadecimal numbers, with a space between each two
unfoldable pub characters : List ℕ → Option (List ℕ)
characters text = all_some (map character (slice_split (λ b. b == 0x20) text))

-- UnicodeData.txt and CompositionExclusions.txt, field 0: the code point
abbrev pub code : List ℕ → Option ℕ
code text = option_and_then code_point (field text 0)

-- UnicodeData.txt, field 1: the name. The names of the first and the last line of a range end in "First>" and "Last>",
-- and are the same up to the comma.
abbrev pub name : List ℕ → List ℕ
name text = unwrap_or (field text 1) []

abbrev pub first_mark : List ℕ
first_mark = 0x46 ∷ 0x69 ∷ 0x72 ∷ 0x73 ∷ 0x74 ∷ 0x3E ∷ []

abbrev pub last_mark : List ℕ
last_mark = 0x4C ∷ 0x61 ∷ 0x73 ∷ 0x74 ∷ 0x3E ∷ []

abbrev pub begins_range : List ℕ → Bool
begins_range text = ends_with nat_eq (name text) first_mark

abbrev pub ends_range : List ℕ → Bool
ends_range text = not (begins_range text) && ends_with nat_eq (name text) last_mark

abbrev pub range_name : List ℕ → List ℕ
range_name name = before_first (λ b. b == 0x2C) name

-- field 3: the canonical combining class
abbrev pub combining_class : List ℕ → Option ℕ
combining_class text = option_and_then (λ n. if nat_lt n 255 then Some n else None) (number 10 text)

abbrev pub class : List ℕ → Option ℕ
class text = option_and_then combining_class (field text 3)

-- field 5: the decomposition mapping, which may be empty. One for compatibility has a tag in angle brackets.
abbrev pub is_tagged : List ℕ → Bool
is_tagged text = starts_with nat_eq text (0x3C ∷ [])

abbrev pub untagged_mapping : List ℕ → List ℕ
untagged_mapping text = if is_tagged text then trim (after_first (λ b. b == 0x3E) text) else text

unfoldable pub mapping_in : List ℕ → Option (List ℕ)
mapping_in text = if length text == 0 then Some [] else characters (untagged_mapping text)

abbrev pub mapping : List ℕ → Option (List ℕ)
mapping text = option_and_then mapping_in (field text 5)

-- IdnaMappingTable.txt, field 0: a code point, or the first and the last of a range with two full stops between them
abbrev pub before_stop : List ℕ → List ℕ
before_stop text = before_first (λ b. b == 0x2E) text

abbrev pub after_stop : List ℕ → List ℕ
after_stop text = after_first (λ b. b == 0x2E) text

abbrev pub last_text : List ℕ → List ℕ
last_text text = if list_any (λ b. b == 0x2E) text
    then (if length (before_stop (after_stop text)) == 0 then after_stop (after_stop text) else []) else text

abbrev pub first : List ℕ → Option ℕ
first text = option_and_then (λ range. code_point (before_stop range)) (field text 0)

abbrev pub last : List ℕ → Option ℕ
last text = option_and_then (λ range. code_point (last_text range)) (field text 0)

-- field 1: the status. Those with STD3 are of versions up to 15.0.
unfoldable pub status_named : List ℕ → Option StatusName
status_named text =
    if bytes_eq text (codes "valid") then Some names.Valid
    else if bytes_eq text (codes "deviation") then Some names.Valid
    else if bytes_eq text (codes "disallowed_STD3_valid") then Some names.Valid
    else if bytes_eq text (codes "ignored") then Some names.Ignored
    else if bytes_eq text (codes "mapped") then Some names.Mapped
    else if bytes_eq text (codes "disallowed_STD3_mapped") then Some names.Mapped
    else if bytes_eq text (codes "disallowed") then Some names.Disallowed
    else None

abbrev pub status : List ℕ → Option StatusName
status text = option_and_then status_named (field text 1)

-- field 2: the mapping
abbrev pub mapped_to : List ℕ → Option (List ℕ)
mapped_to text = option_and_then characters (field text 2)
