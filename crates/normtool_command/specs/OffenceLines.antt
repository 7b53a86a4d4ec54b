-- What is reported of the first place at which an input is not normalized.
use Rattle.std.specs.Prelude.{◌≡◌, ℕ, ◌-◌, List, [], ◌∷◌, ◌++◌, length, replicate, false, decimal}
use Rattle.std.specs.Prelude.{Option, Some, None}
use Rattle.std.specs.Fmt.{digits}
use Rattle.icu_normalizer.specs.Offence.{Offence}
use Rattle.normalizer_io.specs.declared.outcome.Answer.{Answer}
use Rattle.normalizer_io.specs.declared.outcome.Answer.TheVariants.{Done, No}

abbrev pub line_feed : ℕ
line_feed = 0x0A

abbrev pub space : ℕ
space = 0x20

-- lower-case hexadecimal digits, at least four with zeros at the beginning
abbrev pub code_point_digits : ℕ → List ℕ
code_point_digits c = let shown = digits 16 false c in replicate (4 - length shown) 0x30 ++ shown

-- the place in decimal, the character found and the one wanted, with spaces between them
abbrev pub offence_line : Offence → List ℕ
offence_line o = decimal o.place ++ (space ∷ (code_point_digits o.found
    ++ (space ∷ (code_point_digits o.wanted ++ (line_feed ∷ [])))))

-- no, and one line; or yes, and nothing, if there is no mismatch
abbrev pub TellsOffence : Option Offence → Answer → List ℕ → Type 0
TellsOffence None answer output = (answer ≡ Done) × (output ≡ [])
TellsOffence (Some o) answer output = (answer ≡ No) × (output ≡ offence_line o)
