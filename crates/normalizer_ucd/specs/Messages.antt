-- What is printed of a fault.
use Rattle.std.specs.Prelude.{ℕ, List, ◌++◌, codes, decimal}
use Rattle.normalizer_ucd.specs.declared.error.LineFault.{LineFault}
use Rattle.normalizer_ucd.specs.declared.error.Place.{Place}
use Rattle.normalizer_ucd.specs.declared.error.Problem.{Problem}
use Rattle.normalizer_ucd.specs.declared.error.Problem.TheVariants as problems
use Rattle.normalizer_ucd.specs.declared.error.UcdError.{UcdError}
use Rattle.normalizer_ucd.specs.declared.error.UcdError.TheVariants as errors
use Rattle.normalizer_ucd.specs.declared.error.UcdFile.{UcdFile}
use Rattle.normalizer_ucd.specs.declared.error.UcdFile.TheVariants as files

abbrev pub name_of_file : UcdFile → List ℕ
name_of_file files.UnicodeData = codes "UnicodeData.txt"
name_of_file files.CompositionExclusions = codes "CompositionExclusions.txt"
name_of_file files.IdnaMappingTable = codes "IdnaMappingTable.txt"

abbrev pub text_of_problem : Problem → List ℕ
text_of_problem problems.MissingField = codes "the line has too few fields"
text_of_problem problems.CodePoint = codes "the code point is not a hexadecimal number up to 10FFFF"
text_of_problem problems.Class = codes "the canonical combining class is not a number from 0 to 254"
text_of_problem problems.Mapping = codes "the mapping is not a list of characters"
text_of_problem problems.Status = codes "the status is not one of Unicode Technical Standard #46"
text_of_problem problems.Order = codes "the code points don't strictly rise"
text_of_problem problems.Range = codes "a range of code points is not closed"
text_of_problem problems.NotACharacter = codes "a class or a mapping of what is not one character"
text_of_problem problems.CutOff = codes "the last line has no line feed: the file is cut off"
text_of_problem problems.NoEndMark = codes "the file has no end mark: it is cut off"
text_of_problem problems.Gap = codes "code points before this line are missing"
text_of_problem problems.TooShort = codes "the file ends before U+10FFFF"
text_of_problem problems.OtherVersion = codes "the files state different versions of Unicode"
text_of_problem problems.Unmapped = codes "UnicodeData.txt has no canonical mapping of the character"

-- as in UnicodeData.txt:12
abbrev pub text_of_place : Place → List ℕ
text_of_place place = name_of_file place.file ++ (codes ":" ++ decimal place.line)

abbrev pub text_of_fault : LineFault → List ℕ
text_of_fault fault = text_of_place fault.place ++ (codes ": " ++ text_of_problem fault.problem)

abbrev pub text_of_error : UcdError → List ℕ
text_of_error (errors.Line fault) = text_of_fault fault
text_of_error errors.Memory = codes "out of memory"
