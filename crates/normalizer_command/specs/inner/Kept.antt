-- Reports that are kept.
use Rattle.std.specs.Prelude.{◌≡◌, false, List, map, string_bytes}
use Rattle.normalizer_command.specs.FileFaults.{is_refusal}
use Rattle.normalizer_command.specs.FileReports.{Report}
use Rattle.normalizer_command.specs.declared.memory.KeptReport.{KeptReport}

abbrev pub IsOfData : Report → Type 0
IsOfData report = is_refusal report.1 ≡ false

abbrev pub kept_report : KeptReport → Report
kept_report k = (string_bytes k.name, k.fault)

abbrev pub kept_reports : List KeptReport → List Report
kept_reports kept = map kept_report kept
