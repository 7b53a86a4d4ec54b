-- A command's result for the bytes that it reads, and what it writes.
use Rattle.std.specs.Prelude.{◌≡◌, ◌↔◌, ℕ, List, [], Option, encode_utf8_all}
use Rattle.icu_normalizer.specs.Encodings.{Encoding}
use Rattle.icu_normalizer.specs.Utf8.{decoded_utf8}
use Rattle.icu_normalizer.specs.IgnoredCharacters.TheVariants.{Dropped, Replaced}
use Rattle.icu_normalizer.specs.Offence.{Offence}
use Rattle.icu_normalizer.specs.EncodedForm.{encoded_form}
use Rattle.icu_normalizer.specs.InputCut.{IsInputNormalized}
use Rattle.icu_normalizer.specs.InputOffence.{IsInputOffenceOf}
use Rattle.icu_normalizer.specs.Mapping.{mapped_in}
use Rattle.normalizer_io.specs.declared.outcome.Answer.{Answer}
use Rattle.normalizer_io.specs.declared.outcome.Answer.TheVariants.{Done}
use Rattle.normtool_command.specs.Labels.{fields, TellsLabels}
use Rattle.normtool_command.specs.OffenceLines.{TellsOffence}
use Rattle.normtool_command.specs.Tasks.{Work, Write, Check, Locate, Map, Validate, Label}

-- the UTF-8 of the form of the decoded bytes; whether they are well-formed and normalized; or the first place at which
-- they are not; or the UTF-8 of what mapping or validation makes of them, or of the lines of the fields that are valid
abbrev pub IsReply : Work → (input : List ℕ) → Answer → (output : List ℕ) → Type 0
IsReply (Write m) input answer output =
    (answer ≡ Done) × (output ≡ encoded_form Encoding.Utf8 m.reading m.form input)
IsReply (Check m) input answer output =
    ((answer ≡ Done) ↔ IsInputNormalized Encoding.Utf8 m.reading m.form input) × (output ≡ [])
IsReply (Locate m) input answer output =
    (offence : Option Offence) × IsInputOffenceOf Encoding.Utf8 m.reading m.form input offence
    × TellsOffence offence answer output
IsReply (Map h) input answer output =
    (answer ≡ Done) × (output ≡ encode_utf8_all (mapped_in h Dropped (decoded_utf8 input)))
IsReply (Validate h) input answer output =
    (answer ≡ Done) × (output ≡ encode_utf8_all (mapped_in h Replaced (decoded_utf8 input)))
IsReply (Label h) input answer output =
    (lines : List ℕ) × TellsLabels h (fields (mapped_in h Dropped (decoded_utf8 input))) answer lines
    × (output ≡ encode_utf8_all lines)
