use Rattle.std.proofs.Common.{[], ◌∷◌, subst, sym}
use Rattle.icu_normalizer.specs.ByRecords.{IsRecordedForm}
use Rattle.icu_normalizer.specs.HeldForms.{RefusesFirst}
use Rattle.icu_normalizer.specs.declared.any_normalizer.NormalForm.TheVariants.{Nfc, Nfkc}
use Rattle.icu_normalizer.proofs.MemoryAlone.{memory_alone}
use Rattle.icu_normalizer.proofs.PackedForms.{held_by, packed-unrefused, packed-unrefused_first, packed_form-made, packed_form-recorded}
use Rattle.icu_normalizer.proofs.by_records.normalizers_over.Goals as goal

pub want_of_memory-requires : goal.want_of_memory-requires
want_of_memory-requires c =
    let accepted = c.what_is_built_is_accepted.ensures in
    let p = c.args.built.now.packed in
    let builds = c.requires.2 in
    let never = packed-unrefused p c.data_that_meet_conditions_are_accepted.ensures.refused (accepted.nfd _ _ p builds)
    (accepted.nfc _ _ p builds) (accepted.nfkd _ _ p builds) (accepted.nfkc _ _ p builds) in
    memory_alone (RefusesFirst (held_by p) (Nfc ∷ Nfkc ∷ [])) _ (packed-unrefused_first p (Nfc ∷ Nfkc ∷ []) never _) c.in-Err.ensures.errors

pub returns-in-Ok-clause-data : goal.returns-in-Ok-clause-data
returns-in-Ok-clause-data c = λ form. packed_form-made c.args.built.now.packed form _ (c.in-Ok.ensures.made form)

pub returns-in-Ok-clause-form : goal.returns-in-Ok-clause-form
returns-in-Ok-clause-form c = λ records uts46 builds form.
    let p = c.args.built.now.packed in
    subst (IsRecordedForm records form) (sym (packed_form-made p form _ (c.in-Ok.ensures.made form)))
    (packed_form-recorded records uts46 p builds.means form)

pub returns-in-Ok-clause-canonical : goal.returns-in-Ok-clause-canonical
returns-in-Ok-clause-canonical c = c.in-Ok.ensures.canonical.0
