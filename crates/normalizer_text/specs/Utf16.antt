-- UTF-16, well-formed or not (The Unicode Standard, section 3.9).
use Rattle.std.specs.Prelude.{ℕ, ◌+◌, ◌-◌, ◌*◌, Bool, ◌&&◌, ◌||◌, List, [], ◌∷◌, if◌then◌else◌}
use Rattle.std.specs.Int.{is_in_range}
use Rattle.std.specs.List.{flat_map}
use Rattle.std.specs.Char.Escape.{encode_utf16}
use Rattle.normalizer_text.specs.declared.decoding_step.Step.{Step}
use Rattle.normalizer_text.specs.DecodingSteps.{read, replacement_step, decoded_text}

-- a high-surrogate code unit (D72)
abbrev pub is_high : ℕ → Bool
is_high u = is_in_range 0xD800 0xDBFF u

-- a low-surrogate code unit (D74)
abbrev pub is_low : ℕ → Bool
is_low u = is_in_range 0xDC00 0xDFFF u

-- a unit that is a scalar value by itself
abbrev pub is_single : ℕ → Bool
is_single u = is_in_range 0x0000 0xD7FF u || is_in_range 0xE000 0xFFFF u

-- the scalar value of a surrogate pair (table 3-5)
abbrev pub pair_value : ℕ → ℕ → ℕ
pair_value high low = 0x10000 + (high - 0xD800) * 0x400 + (low - 0xDC00)

-- a unit that is not the first of a pair: itself, or U+FFFD for a surrogate
abbrev pub unpaired_step : ℕ → Step
unpaired_step u = if is_single u then read u 1 else replacement_step 1

-- the first step
abbrev pub first_of_utf16 : List ℕ → Step
first_of_utf16 [] = replacement_step 0
first_of_utf16 (u ∷ []) = unpaired_step u
first_of_utf16 (u ∷ v ∷ us) = if is_high u && is_low v then read (pair_value u v) 2 else unpaired_step u

-- the text that 16-bit units decode to
abbrev pub decoded_utf16 : List ℕ → List ℕ
decoded_utf16 units = decoded_text first_of_utf16 units

-- the units of a text
abbrev pub encode_utf16_all : List ℕ → List ℕ
encode_utf16_all x = flat_map encode_utf16 x
