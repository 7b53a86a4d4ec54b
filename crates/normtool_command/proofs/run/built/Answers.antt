use Rattle.std.proofs.Common.{rules, ◌≡◌, ◌∙◌}
use Rattle.normtool_command.specs.RecordSets.{mapper_records_of, records_of}
use Rattle.normtool_command.specs.declared.arguments.RecordSet.TheVariants.{Rows}
use Rattle.normtool_command.proofs.run.built.Goals as goal

pub returns-in_err-build-in-Nothing-clause-data : goal.returns-in_err-build-in-Nothing-clause-data
returns-in_err-build-in-Nothing-clause-data c = rw c.in-Nothing.is (search rules)

pub returns-in_err-build-in-Rows-clause-data : goal.returns-in_err-build-in-Rows-clause-data
returns-in_err-build-in-Rows-clause-data c =
    let records : c.deref.result.now ≡ records_of Rows = c.deref.ensures.value ∙ c.in_ok-records-in-Rows.ensures in
    let mapper : c.deref-in-Rows.result.now ≡ mapper_records_of Rows = c.deref-in-Rows.ensures.value ∙ c.in_ok-mapper-in-Rows.ensures in
    rw (c.in-Rows.is, ← records, ← mapper) (search rules)

pub returns-in_ok-build-in-Rows-clause-ok : goal.returns-in_ok-build-in-Rows-clause-ok
returns-in_ok-build-in-Rows-clause-ok c =
    let records : c.deref.result.now ≡ records_of Rows = c.deref.ensures.value ∙ c.in_ok-records-in-Rows.ensures in
    let mapper : c.deref-in-Rows.result.now ≡ mapper_records_of Rows = c.deref-in-Rows.ensures.value ∙ c.in_ok-mapper-in-Rows.ensures in
    rw (c.in-Rows.is, ← records, ← mapper) c.in_ok-build-in-Rows.ensures
