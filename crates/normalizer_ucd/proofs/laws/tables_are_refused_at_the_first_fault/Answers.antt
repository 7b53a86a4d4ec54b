use Rattle.std.proofs.Common.{[]}
use Rattle.normalizer_ucd.specs.FileFaults.{fault_of_table}
use Rattle.normalizer_ucd.specs.IdnaTable.{uts46_records_beside}
use Rattle.normalizer_ucd.proofs.Reading.{unless_err}
use Rattle.normalizer_ucd.proofs.laws.tables_are_refused_at_the_first_fault.Goals as goal

pub returns : goal.returns
unfolding uts46_records_beside
returns c = record {
  table = λ choice table fault. unless_err (fault_of_table [] table) _ fault;
  beside = λ choice exclusions table fault. unless_err (fault_of_table exclusions table) _ fault;
}
