use Rattle.std.proofs.Common.{◌≡◌, ap, subst, ◌∙◌}
use Rattle.icu_normalizer.specs.ByRecords.{packed_form}
use Rattle.icu_normalizer.specs.Forms.{form_of}
use Rattle.icu_normalizer.specs.HeldForms.{RefusesForm}
use Rattle.icu_normalizer.specs.Packed.{Packed}
use Rattle.icu_normalizer.specs.Utf8.{decoded_utf8}
use Rattle.icu_normalizer.proofs.MemoryAlone.{memory_alone}
use Rattle.icu_normalizer.proofs.PackedForms.{packed_form-recorded, packed-unrefused}
use Rattle.normalizer_prepared.specs.Prepared.{prepared_in}
use Rattle.normalizer_prepared.specs.declared.reading.PreparedData.{PreparedData}
use Rattle.normalizer_by_files.specs.PreparedForms.{held_by, IsFaultOfData}
use Rattle.normalizer_by_files.proofs.by_prepared.form_by_prepared_data.Goals as goal

pub returns-in-Ok-form_by_read-clause-records : goal.returns-in-Ok-form_by_read-clause-records
returns-in-Ok-form_by_read-clause-records c = λ records uts46 p means file.
    let same : prepared_in c.in-Ok.read ≡ p = ap (λ (d : PreparedData). prepared_in d) (c.in-Ok.ensures.only file.0 file.1).0 ∙ file.2 in
    c.in-Ok-form_by_read.ensures
    ∙ ap (λ (q : Packed). form_of (packed_form q c.args.form) (decoded_utf8 c.args.bytes.now)) same
    ∙ packed_form-recorded records uts46 p means c.args.form _

-- the form over data that were built is refused by `Memory` alone
pub returns-in-Ok-clause-memory : goal.returns-in-Ok-clause-memory
returns-in-Ok-clause-memory c = λ records uts46 p builds file.
    let accepted = c.what_is_built_is_accepted.ensures in
    let form = c.args.form in
    let error = c.in-Err-form_by_read.error in
    let same : prepared_in c.in-Ok.read ≡ p = ap (λ (d : PreparedData). prepared_in d) (c.in-Ok.ensures.only file.0 file.1).0 ∙ file.2 in
    memory_alone (RefusesForm form (held_by p)) error
    (packed-unrefused p c.data_that_meet_conditions_are_accepted.ensures.refused (accepted.nfd _ _ p builds)
    (accepted.nfc _ _ p builds) (accepted.nfkd _ _ p builds) (accepted.nfkc _ _ p builds) form error)
    (subst (λ (q : Packed). IsFaultOfData q form error) same c.in-Err-form_by_read.ensures)
