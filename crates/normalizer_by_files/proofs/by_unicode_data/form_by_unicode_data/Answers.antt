use Rattle.std.proofs.Common.{rules}
use Rattle.normalizer_ucd.specs.FileFaults.{fault_of_files}
use Rattle.normalizer_ucd.specs.UnicodeData.{records_of}
use Rattle.normalizer_ucd.proofs.Reading.{no_fault}
use Rattle.normalizer_by_files.proofs.by_unicode_data.form_by_unicode_data.Goals as goal

pub returns-in-Ok-form_by_records-clause-form : goal.returns-in-Ok-form_by_records-clause-form
unfolding records_of
returns-in-Ok-form_by_records-clause-form c =
    rw (no_fault (fault_of_files c.args.unicode_data.now c.args.exclusions.now) _ _ c.in-Ok.ensures).1 (search rules)

pub returns-in-Ok-form_by_records-clause-fault : goal.returns-in-Ok-form_by_records-clause-fault
unfolding records_of
returns-in-Ok-form_by_records-clause-fault c =
    (no_fault (fault_of_files c.args.unicode_data.now c.args.exclusions.now) _ _ c.in-Ok.ensures).0
