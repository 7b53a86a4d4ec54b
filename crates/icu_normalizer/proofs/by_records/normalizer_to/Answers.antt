use Rattle.std.proofs.Common.{subst, sym}
use Rattle.icu_normalizer.specs.HeldForms.{RefusesForm}
use Rattle.icu_normalizer.specs.ByRecords.{IsRecordedForm}
use Rattle.icu_normalizer.proofs.MemoryAlone.{memory_alone}
use Rattle.icu_normalizer.proofs.PackedForms.{held_by, packed-unrefused, packed_form-made, packed_form-recorded}
use Rattle.icu_normalizer.proofs.by_records.normalizer_to.Goals as goal

pub want_of_memory-requires : goal.want_of_memory-requires
want_of_memory-requires c =
    let accepted = c.what_is_built_is_accepted.ensures in
    let p = c.args.built.now.packed in
    let builds = c.requires.2 in
    let never = packed-unrefused p c.data_that_meet_conditions_are_accepted.ensures.refused (accepted.nfd _ _ p builds)
    (accepted.nfc _ _ p builds) (accepted.nfkd _ _ p builds) (accepted.nfkc _ _ p builds) in
    memory_alone (RefusesForm c.args.form (held_by p)) _ (never c.args.form _) c.in-Err.ensures.errors

pub returns-in-Ok-clause-form : goal.returns-in-Ok-clause-form
returns-in-Ok-clause-form c = λ records uts46 builds.
    let p = c.args.built.now.packed in
    subst (IsRecordedForm records c.args.form) (sym (packed_form-made p c.args.form _ c.in-Ok.ensures.made))
    (packed_form-recorded records uts46 p builds.means c.args.form)
