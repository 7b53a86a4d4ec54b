-- UTF-8, well-formed or not (The Unicode Standard, section 3.9).
use Rattle.std.specs.Prelude.{ℕ, suc, ◌+◌, ◌-◌, ◌*◌, ◌==◌, Bool, List, [], ◌∷◌, length, take, find, Option, Some, None}
use Rattle.std.specs.Prelude.{if◌then◌else◌}
use Rattle.std.specs.Int.{is_in_range}
use Rattle.normalizer_text.specs.declared.decoding_step.Step.{Step}
use Rattle.normalizer_text.specs.DecodingSteps.{read, replacement_step, decoded_text}

-- the least and the greatest byte that may be at a place
pub record ByteRange : Type 0 where
  pub least : ℕ
  pub greatest : ℕ

-- the range from a byte to another
abbrev pub range : ℕ → ℕ → ByteRange
range least greatest = record { least = least; greatest = greatest }

-- the range has the byte
abbrev pub allows : ByteRange → ℕ → Bool
allows r b = is_in_range r.least r.greatest b

-- one line of table 3-7: the first byte, and those after it
pub record Row : Type 0 where
  pub lead : ByteRange
  pub trail : List ByteRange

-- a row by its parts
abbrev pub row : ByteRange → List ByteRange → Row
row lead trail = record { lead = lead; trail = trail }

-- a byte that may follow any first byte of more
abbrev pub continuation : ByteRange
continuation = range 0x80 0xBF

-- table 3-7, well-formed UTF-8 byte sequences
abbrev pub well_formed_sequences : List Row
well_formed_sequences =
    row (range 0x00 0x7F) []
    ∷ row (range 0xC2 0xDF) (continuation ∷ [])
    ∷ row (range 0xE0 0xE0) (range 0xA0 0xBF ∷ continuation ∷ [])
    ∷ row (range 0xE1 0xEC) (continuation ∷ continuation ∷ [])
    ∷ row (range 0xED 0xED) (range 0x80 0x9F ∷ continuation ∷ [])
    ∷ row (range 0xEE 0xEF) (continuation ∷ continuation ∷ [])
    ∷ row (range 0xF0 0xF0) (range 0x90 0xBF ∷ continuation ∷ continuation ∷ [])
    ∷ row (range 0xF1 0xF3) (continuation ∷ continuation ∷ continuation ∷ [])
    ∷ row (range 0xF4 0xF4) (range 0x80 0x8F ∷ continuation ∷ continuation ∷ [])
    ∷ []

-- the row whose sequences begin with the byte
unfoldable pub row_of : ℕ → Option Row
row_of b = find (λ r. allows r.lead b) well_formed_sequences

-- the number of leading places that have a byte that may be there
abbrev pub matched_count : List ByteRange → List ℕ → ℕ
matched_count [] bytes = 0
matched_count (r ∷ rs) [] = 0
matched_count (r ∷ rs) (b ∷ bs) = if allows r b then suc (matched_count rs bs) else 0

-- the scalar value that a well-formed sequence encodes (table 3-6)
abbrev pub scalar_value : List ℕ → ℕ
scalar_value (a ∷ []) = a
scalar_value (a ∷ b ∷ []) = (a - 0xC0) * 64 + (b - 0x80)
scalar_value (a ∷ b ∷ c ∷ []) = ((a - 0xE0) * 64 + (b - 0x80)) * 64 + (c - 0x80)
scalar_value (a ∷ b ∷ c ∷ d ∷ []) = (((a - 0xF0) * 64 + (b - 0x80)) * 64 + (c - 0x80)) * 64 + (d - 0x80)
scalar_value bytes = 0

-- the first step if the first byte is b and this is the row that begins with it: the character of a sequence of the
-- row, or U+FFFD for the longest beginning of one, or, if b begins no row, for the byte alone ('U+FFFD substitution of
-- maximal subparts')
abbrev pub first_by_row : Option Row → ℕ → List ℕ → Step
first_by_row None b bs = replacement_step 1
first_by_row (Some r) b bs = if matched_count r.trail bs == length r.trail
    then read (scalar_value (b ∷ take (length r.trail) bs)) (suc (length r.trail))
    else replacement_step (suc (matched_count r.trail bs))

-- the first step of bytes
abbrev pub first_of_utf8 : List ℕ → Step
first_of_utf8 [] = replacement_step 0
first_of_utf8 (b ∷ bs) = first_by_row (row_of b) b bs

-- the text that bytes decode to
abbrev pub decoded_utf8 : List ℕ → List ℕ
decoded_utf8 bytes = decoded_text first_of_utf8 bytes
