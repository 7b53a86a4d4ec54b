-- What is read of a line after others.
use Rattle.std.specs.Prelude.{ℕ, List, Option, Some, None, Result, Ok, find, if◌then◌else◌}
use Rattle.std.specs.Option.{option_map}
use Rattle.normalizer_ucd.specs.declared.error.LineFault.{LineFault}
use Rattle.normalizer_ucd.specs.declared.error.Place.{Place}
use Rattle.normalizer_ucd.specs.declared.error.UcdFile.{UcdFile}
use Rattle.normalizer_ucd.specs.FallibleReads.{fault, unless}
use Rattle.normalizer_ucd.specs.Fields.{data_of, has_data}
use Rattle.normalizer_ucd.specs.FileFaults.{Findings, wrong_at}
use Rattle.normalizer_ucd.specs.FileLines.{DataLine}

-- the first of findings that is so
abbrev pub first_found : Place → Findings → Option LineFault
first_found place findings = option_map (λ found. fault place found.0) (find (λ found. found.1) findings)

-- the text of the last line with data
abbrev pub text_of : Option DataLine → Option (List ℕ)
text_of before = option_map (λ l. l.text) before

abbrev pub line_at : ℕ → Option DataLine → List ℕ → DataLine
line_at n before line = record { number = n; text = data_of line; before = text_of before }

-- the state after a line with data, and what is found in it, unless something is wrong with it; other lines say nothing
abbrev pub read_of : {S B : Type 0} → UcdFile → (DataLine → Findings) → (Option DataLine → S) → (DataLine → Option B) →
    ℕ → Option DataLine → List ℕ → Result (S × Option B) LineFault
read_of name findings state found n before line =
    let l = line_at n before line in
    if has_data line then unless (wrong_at name findings l) (state (Some l), found l) else Ok (state before, None)
