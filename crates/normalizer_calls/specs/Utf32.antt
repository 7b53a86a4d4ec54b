-- UTF-32, in which each unit is a character (The Unicode Standard, D90).
use Rattle.std.specs.Prelude.{◌≡◌, ℕ, List, [], ◌∷◌, map, Option, MatchOption, if◌then◌else◌}
use lib.Utf8.{scalar}

-- the character that a unit decodes to: U+FFFD if it isn't a scalar value
abbrev pub decoded_unit : ℕ → ℕ
decoded_unit unit = if scalar unit then unit else 0xFFFD

-- the text that units decode to
abbrev pub decoded_utf32 : List ℕ → List ℕ
decoded_utf32 units = map decoded_unit units

-- a call takes the unit at the beginning, and returns its character
abbrev pub TakesUnit : List ℕ → Option ℕ → List ℕ → Type 0
TakesUnit units r rest =
    MatchOption r ((units ≡ []) × (rest ≡ [])) (λ c. (unit : ℕ) × (units ≡ unit ∷ rest) × (c ≡ decoded_unit unit))
