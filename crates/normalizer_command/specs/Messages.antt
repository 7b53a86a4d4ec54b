-- What is printed of a file that failed.
use Rattle.std.specs.Prelude.{ℕ, List, [], ◌∷◌, ◌++◌, codes, decimal, Option, Some, None, option_map, option_copied}
use Rattle.icu_normalizer.specs.BuildError.{BuildError}
use Rattle.icu_normalizer.specs.BuildError.TheVariants as errors
use Rattle.icu_normalizer.specs.DataMarkerInfo.{DataMarkerInfo}
use Rattle.icu_normalizer.specs.DataMarkerInfo.TheVariants as markers
use Rattle.icu_normalizer.specs.RecordAtFault.{RecordAtFault}
use Rattle.icu_normalizer.specs.RecordAtFault.TheVariants.{OfCharacter, OfMapper}
use Rattle.normalizer_prepared.specs.declared.fault.Fault.{Fault as FileFault}
use Rattle.normalizer_prepared.specs.declared.fault.Fault.TheVariants as file_fault
use Rattle.normalizer_ucd.specs.Messages.{text_of_problem}
use Rattle.normalizer_ucd.specs.declared.error.Place.{Place}
use Rattle.normalizer_command.specs.Mismatches.{code_point_digits, position}
use Rattle.normalizer_command.specs.declared.fault.RecordsFault.{RecordsFault}
use Rattle.std.specs.declared.io.ErrorKind.TheVariants.{Deadlock, InvalidData, NotFound, Unsupported}
use Rattle.normalizer_command.specs.FileReports.{Report}
use Rattle.normalizer_command.specs.declared.fault.Fault.{Fault}
use Rattle.normalizer_command.specs.declared.fault.Fault.TheVariants.{Open, Read, Write, InPlace, Memory, Line, Records, Prepared, IllFormed, Replaced}
use Rattle.normalizer_command.specs.declared.fault.PreparedFault.{PreparedFault}
use Rattle.normalizer_command.specs.declared.fault.PreparedFault.TheVariants.{Wrong, Unfit, NoMapper}
use Rattle.normalizer_command.specs.declared.message.Message.{Message}

-- a name in a directory
abbrev pub name_in : (directory : Option (List ℕ)) → (name : List ℕ) → List ℕ
name_in (Some directory) name = directory ++ (0x2F ∷ name)
name_in None name = name

-- the name of the file, and why it failed
abbrev pub report_of : Message → Report
report_of m = (name_in (option_copied m.directory) m.name.now, m.fault)

abbrev pub name_of_marker : DataMarkerInfo → List ℕ
name_of_marker markers.NormalizerNfdDataV1 = codes "NormalizerNfdDataV1"
name_of_marker markers.NormalizerNfkdDataV1 = codes "NormalizerNfkdDataV1"
name_of_marker markers.NormalizerUts46DataV1 = codes "NormalizerUts46DataV1"
name_of_marker markers.NormalizerNfdTablesV1 = codes "NormalizerNfdTablesV1"
name_of_marker markers.NormalizerNfkdTablesV1 = codes "NormalizerNfkdTablesV1"
name_of_marker markers.NormalizerNfcV1 = codes "NormalizerNfcV1"
name_of_marker markers.NormalizerNfdSupplementV1 = codes "NormalizerNfdSupplementV1"

-- the data of this kind break a condition
abbrev pub text_of_unfit : DataMarkerInfo → (condition : ℕ) → List ℕ
text_of_unfit marker condition =
    codes "the data of " ++ (name_of_marker marker ++ (codes " break condition " ++ decimal condition))

-- why records can't be built
abbrev pub text_of_error : BuildError → List ℕ
text_of_error errors.Order = codes "the records don't strictly rise by character"
text_of_error errors.Fixed = codes "a record of U+FFFD, a conjoining jamo or a Hangul syllable"
text_of_error errors.Class = codes "a class of 255, or a list that begins with a mark"
text_of_error errors.Mapping = codes "a mapping of a wrong length or with a character that it may not have"
text_of_error errors.Chain = codes "more than 16 records lead from one to the next"
text_of_error errors.Length = codes "a list is too long"
text_of_error errors.Pair = codes "two records give the same pair"
text_of_error (errors.Unfit marker condition) = text_of_unfit marker condition
text_of_error errors.TableFull = codes "the lists have more items than the tables hold"
text_of_error errors.Memory = codes "out of memory"

abbrev pub character_of : RecordAtFault → ℕ
character_of (OfCharacter c) = c
character_of (OfMapper c) = c

-- the line of a record, if it is known, and its character, if a single record is at fault
abbrev pub text_of_record : Option Place → Option RecordAtFault → List ℕ
text_of_record (Some place) (Some r) =
    codes "line " ++ (decimal place.line ++ (codes ": U+" ++ (code_point_digits (character_of r) ++ codes ": ")))
text_of_record None (Some r) = codes "U+" ++ (code_point_digits (character_of r) ++ codes ": ")
text_of_record place None = []

-- line 15: U+00C0: WHY
abbrev pub text_of_records : RecordsFault → List ℕ
text_of_records f = text_of_record f.place f.at_fault ++ text_of_error f.error

-- what is wrong with a file of prepared data
abbrev pub words_of : FileFault → List ℕ
words_of file_fault.Magic = codes "it isn't a file of prepared data"
words_of file_fault.Version = codes "the format is of another version"
words_of file_fault.Length = codes "the file has another length"
words_of file_fault.Sum = codes "a sum of the bytes is another"
words_of file_fault.Short = codes "the file is cut off"
words_of file_fault.Runs = codes "the runs of a table aren't those of all code points"
words_of file_fault.Scalar = codes "a number isn't that of a character"
words_of file_fault.Trailing = codes "there are more bytes"

-- why it can't be used: WHAT at byte 12
abbrev pub text_of_prepared : PreparedFault → List ℕ
text_of_prepared (Wrong fault offset) = words_of fault ++ (codes " at byte " ++ decimal offset)
text_of_prepared (Unfit marker condition) = text_of_unfit marker condition
text_of_prepared NoMapper = codes "it has no data for the mapper"

-- why, in words that are known; those of other kinds of errors are of the types of these
abbrev pub text_of_fault : Fault → Option (List ℕ)
text_of_fault (Open NotFound) = Some (codes "no such file or directory")
text_of_fault (Open Deadlock) = Some (codes "it is the output too")
text_of_fault (Open InvalidData) = Some (codes "its name is not UTF-8")
text_of_fault (Open Unsupported) = Some (codes "it isn't a regular file")
text_of_fault (Open kind) = None
text_of_fault Read = Some (codes "it can't be read")
text_of_fault Write = Some (codes "it can't be written")
text_of_fault Memory = Some (codes "out of memory")
text_of_fault (InPlace kind) = None
text_of_fault (Line fault) =
    Some (codes "line " ++ (decimal fault.place.line ++ (codes ": " ++ text_of_problem fault.problem)))
text_of_fault (Records f) = Some (text_of_records f)
text_of_fault (Prepared f) = Some (text_of_prepared f)
text_of_fault (IllFormed at) = Some (codes "ill-formed UTF-8")
text_of_fault (Replaced count) = Some (codes "ill-formed sequences replaced by U+FFFD: " ++ decimal count)

-- what a report is of: the file, with a line and a byte in it if it is ill-formed there; or standard output if a write was
-- refused
abbrev pub subject_of : (directory : Option (List ℕ)) (name : List ℕ) → Fault → List ℕ
subject_of directory name Write = codes "standard output"
subject_of None name (IllFormed at) = position name at
subject_of directory name fault = name_in directory name

-- SUBJECT: WHY
abbrev pub text_of : Message → Option (List ℕ)
text_of m = option_map (λ why. subject_of (option_copied m.directory) m.name.now m.fault ++ (codes ": " ++ why))
    (text_of_fault m.fault)
