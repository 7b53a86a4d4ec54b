use Rattle.std.proofs.Common.{ap, ◌∙◌}
use Rattle.std.specs.Prelude.{chars, string_bytes}
use Rattle.std.proofs.lemmas.Str.{chars-append, IsUtf8-string_bytes}
use Rattle.icu_normalizer.specs.NormalForms.{nfc, normal_form}
use Rattle.icu_normalizer.specs.Forms.{composed_by}
use Rattle.normalizer_examples.proofs.CallerLemmas.{appended_form, seam_of_parts}
use Rattle.normalizer_examples.proofs.growing.appended.Goals as goal

pub truncate-requires : goal.truncate-requires
truncate-requires c =
    let split = rw c.deref.ensures at c.in_ok-kept.ensures.is in
    let kept = c.as_bytes-place.ensures in
    let seam = seam_of_parts _ _ _ _ _ (IsUtf8-string_bytes c.push.new.text) kept.utf8 kept.value split in
    λ within. (seam.0, λ some inside. seam.1 inside)

pub returns-clause-form : goal.returns-clause-form
unfolding normal_form
returns-clause-form c =
    let utf8 = IsUtf8-string_bytes c.push.new.text in
    let split = rw c.deref.ensures at c.in_ok-kept.ensures.is in
    let kept = c.as_bytes-place.ensures in
    let taken = ap chars c.in_ok-push.ensures.taken ∙ chars-append (string_bytes c.args.text) _ (IsUtf8-string_bytes c.args.text) in
    let form = ap chars c.deref-2.ensures ∙ c.in_ok-form.ensures.form in
    appended_form _ _ _ _ _ utf8 kept.utf8 kept.value split _ _ _ c.truncate.ensures.bytes c.in_ok-push-2.ensures.taken form ∙ ap (nfc (composed_by c.args.normalizer.now).reading) taken
