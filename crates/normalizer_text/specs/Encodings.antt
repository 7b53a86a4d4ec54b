-- The encodings, each with the first step of its units.
use Rattle.std.specs.Prelude.{ℕ, Bool, List, encode_utf8_all}
use Rattle.normalizer_text.specs.declared.decoding_step.Step.{Step}
use Rattle.normalizer_text.specs.DecodingSteps.{decoded_text}
use Rattle.normalizer_text.specs.Utf8.{continuation, allows, first_of_utf8}
use Rattle.normalizer_text.specs.Utf16.{is_low, first_of_utf16, encode_utf16_all}

-- UTF-8 in bytes, UTF-16 in 16-bit units (The Unicode Standard, D92, D91)
pub data Encoding : Type 0 where
  Utf8 : Encoding
  Utf16 : Encoding

-- the first step of units in an encoding
abbrev pub first_in : Encoding → List ℕ → Step
first_in Encoding.Utf8 = first_of_utf8
first_in Encoding.Utf16 = first_of_utf16

-- the encoding of a text
abbrev pub encoded_in : Encoding → List ℕ → List ℕ
encoded_in Encoding.Utf8 x = encode_utf8_all x
encoded_in Encoding.Utf16 x = encode_utf16_all x

-- the text that units decode to
abbrev pub decoded_in : Encoding → List ℕ → List ℕ
decoded_in e units = decoded_text (first_in e) units

-- a unit can come after the first one of a step: no character begins with it
abbrev pub trails_in : Encoding → ℕ → Bool
trails_in Encoding.Utf8 = allows continuation
trails_in Encoding.Utf16 = is_low

-- no step takes more units
abbrev pub longest_step : ℕ
longest_step = 4
