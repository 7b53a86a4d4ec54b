-- Where data are wrong and why, by numbers.
use Rattle.std.specs.Prelude.{◌≡◌, ℕ, ⊤, Option, Some, None, Result, Ok, Err}
use Rattle.icu_normalizer.specs.BuildError.{BuildError}
use Rattle.icu_normalizer.specs.BuildError.TheVariants as errors
use Rattle.normalizer_prepared.specs.declared.fault.Fault.{Fault as FileFault}
use Rattle.normalizer_prepared.specs.declared.fault.Fault.TheVariants as file_fault
use Rattle.icu_normalizer.specs.RecordAtFault.{RecordAtFault}
use Rattle.icu_normalizer.specs.RecordAtFault.TheVariants.{OfCharacter, OfMapper}
use Rattle.normalizer_ucd.specs.declared.error.Place.{Place}
use Rattle.normalizer_ucd.specs.declared.error.Problem.{Problem}
use Rattle.normalizer_ucd.specs.declared.error.Problem.TheVariants as problems
use Rattle.normalizer_ucd.specs.declared.error.UcdFile.{UcdFile}
use Rattle.normalizer_ucd.specs.declared.error.UcdFile.TheVariants as files
use Rattle.normalizer_handles.specs.declared.defect.Defect.{Defect}
use Rattle.normalizer_handles.specs.declared.fault.Fault.{Fault}
use Rattle.normalizer_handles.specs.declared.fault.Fault.TheVariants.{Line, Records, Prepared, Unfit}
use Rattle.normalizer_handles.specs.declared.fault.RecordsFault.{RecordsFault}
use Rattle.normalizer_handles.specs.Status.{status_of}

abbrev pub number_of_file : UcdFile → ℕ
number_of_file files.UnicodeData = 0
number_of_file files.CompositionExclusions = 1
number_of_file files.IdnaMappingTable = 2

abbrev pub number_of_problem : Problem → ℕ
number_of_problem problems.MissingField = 1
number_of_problem problems.CodePoint = 2
number_of_problem problems.Class = 3
number_of_problem problems.Mapping = 4
number_of_problem problems.Status = 5
number_of_problem problems.Order = 6
number_of_problem problems.Range = 7
number_of_problem problems.NotACharacter = 8
number_of_problem problems.CutOff = 19
number_of_problem problems.Unmapped = 20
number_of_problem problems.NoEndMark = 21
number_of_problem problems.Gap = 22
number_of_problem problems.TooShort = 23
number_of_problem problems.OtherVersion = 24

abbrev pub number_of_error : BuildError → ℕ
number_of_error errors.Order = 10
number_of_error errors.Fixed = 11
number_of_error errors.Class = 12
number_of_error errors.Mapping = 13
number_of_error errors.Chain = 14
number_of_error errors.Length = 15
number_of_error errors.Pair = 16
number_of_error (errors.Unfit marker condition) = 17
number_of_error errors.TableFull = 18
number_of_error errors.Memory = 0

abbrev pub number_of_fault : FileFault → ℕ
number_of_fault file_fault.Magic = 25
number_of_fault file_fault.Version = 26
number_of_fault file_fault.Length = 27
number_of_fault file_fault.Sum = 28
number_of_fault file_fault.Short = 29
number_of_fault file_fault.Runs = 31
number_of_fault file_fault.Scalar = 32
number_of_fault file_fault.Trailing = 33

-- the written condition that data break; else 0
abbrev pub condition_of_error : BuildError → ℕ
condition_of_error (errors.Unfit marker condition) = condition
condition_of_error error = 0

-- the number after the last code point, in place of a character
abbrev pub no_character : ℕ
no_character = 0x110000

-- the character of a record at fault
abbrev pub character_at_fault : Option RecordAtFault → ℕ
character_at_fault (Some (OfCharacter c)) = c
character_at_fault (Some (OfMapper c)) = c
character_at_fault None = no_character

-- a defect of a record, or of all together if no place is known
abbrev pub defect_at : RecordsFault → Option Place → Defect
defect_at f (Some p) = record {
  place = p.line;
  source = number_of_file p.file;
  reason = number_of_error f.error;
  character = character_at_fault f.at_fault;
  condition = condition_of_error f.error;
}
defect_at f None = record {
  place = 0;
  source = 4;
  reason = number_of_error f.error;
  character = character_at_fault f.at_fault;
  condition = condition_of_error f.error;
}

-- a defect of data at a place, of which no character is stated
abbrev pub defect_in : (place source reason condition : ℕ) → Defect
defect_in place source reason condition =
    record { place = place; source = source; reason = reason; character = no_character; condition = condition }

-- what is reported to the caller of data that are wrong; otherwise what it had stays
abbrev pub defect_of : Fault → Defect → Defect
defect_of (Line f) before = defect_in f.place.line (number_of_file f.place.file) (number_of_problem f.problem) 0
defect_of (Records f) before = defect_at f f.place
defect_of (Prepared fault offset) before = defect_in offset 6 (number_of_fault fault) 0
defect_of (Unfit condition) before = defect_in 0 6 17 condition
defect_of fault before = before

abbrev pub defect_after : Result ⊤ Fault → Defect → Defect
defect_after (Ok done) before = before
defect_after (Err fault) before = defect_of fault before

-- the number is the status of an outcome of this kind, whose defect, if it has one, is reported
abbrev pub IsStatusReporting : ℕ → (before after : Defect) → (Result ⊤ Fault → Type 0) → Type 0
IsStatusReporting number before after Is =
    (outcome : Result ⊤ Fault) × (number ≡ status_of outcome) × (after ≡ defect_after outcome before) × Is outcome
