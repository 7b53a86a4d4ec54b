use Rattle.normalizer_ucd.specs.FileFaults.{fault_of_files}
use Rattle.normalizer_ucd.specs.UnicodeData.{records_of}
use Rattle.normalizer_ucd.proofs.Reading.{unless_err}
use Rattle.normalizer_ucd.proofs.laws.files_are_refused_at_the_first_fault.Goals as goal

pub returns : goal.returns
unfolding records_of
returns c = λ unicode_data exclusions fault. unless_err (fault_of_files unicode_data exclusions) _ fault
