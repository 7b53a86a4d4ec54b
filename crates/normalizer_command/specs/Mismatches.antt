-- What is written of the comparison of a file with its form.
use Rattle.std.specs.Prelude.{◌≡◌, ℕ, ◌-◌, ◌==◌, true, List, [], ◌∷◌, ◌++◌, codes, decimal, length, replicate, if◌then◌else◌}
use Rattle.std.specs.Fmt.{digits}
use Rattle.normalizer_streams.specs.declared.ill_formed.Ending.TheVariants as ending
use Rattle.normalizer_streams.specs.declared.mismatch.Comparison.{Comparison}
use Rattle.normalizer_streams.specs.declared.mismatch.Comparison.TheVariants.{Normalized, Differs, Stopped}
use Rattle.normalizer_streams.specs.declared.mismatch.Mismatch.{Mismatch}
use Rattle.normalizer_streams.specs.declared.position.Position.{Position}
use Rattle.normalizer_command.specs.Listings.{listed}
use Rattle.normalizer_command.specs.declared.command.Listing.{Listing}
use Rattle.normalizer_command.specs.declared.reply.Answer.{Answer}
use Rattle.normalizer_command.specs.declared.reply.Answer.TheVariants.{Done, No, Ended}

-- upper-case hexadecimal digits, at least four with zeros at the beginning (The Unicode Standard, appendix A)
abbrev pub code_point_digits : ℕ → List ℕ
code_point_digits c = let shown = digits 16 true c in replicate (4 - length shown) 0x30 ++ shown

-- NAME:LINE:BYTE
abbrev pub position : (name : List ℕ) → Position → List ℕ
position name p = name ++ (codes ":" ++ (decimal p.line ++ (codes ":" ++ decimal p.byte)))

-- found U+0061, wanted U+00E4; they are the same only at an ill-formed sequence
abbrev pub mismatch_in_words : (found wanted : ℕ) → List ℕ
mismatch_in_words found wanted = if found == wanted then codes "ill-formed UTF-8"
    else codes "found U+" ++ (code_point_digits found ++ (codes ", wanted U+" ++ code_point_digits wanted))

-- NAME:LINE:BYTE: WORDS
abbrev pub mismatch_line : (name : List ℕ) → Mismatch → List ℕ
mismatch_line name x = position name x.position ++ (codes ": " ++ (mismatch_in_words x.found x.wanted ++ (0x0A ∷ [])))

-- yes, and nothing; no, and what is listed of the mismatch; or where the text ended, and nothing
abbrev pub TellsComparison : Listing → (name : List ℕ) → Comparison → Answer → (output : List ℕ) → Type 0
TellsComparison l name Normalized answer output = (answer ≡ Done) × (output ≡ [])
TellsComparison l name (Differs x) answer output = (answer ≡ No) × (output ≡ listed l name (mismatch_line name x))
TellsComparison l name (Stopped p) answer output = (answer ≡ Ended (ending.Stopped p)) × (output ≡ [])
