use Rattle.std.proofs.Common.{ap, ◌∙◌}
use Rattle.icu_normalizer.specs.Forms.{form_of}
use Rattle.icu_normalizer.specs.Utf8.{decoded_utf8}
use Rattle.icu_normalizer.proofs.PackedForms.{packed_form-made}
use Rattle.normalizer_prepared.specs.Prepared.{prepared_in}
use Rattle.normalizer_by_files.proofs.by_prepared.form_by_read.Goals as goal

pub returns-in-Ok : goal.returns-in-Ok
returns-in-Ok c =
    let made = packed_form-made (prepared_in c.args.read.now) c.args.form _ c.in_ok-normalizer.ensures.made in
    c.in-Ok.ensures.form _ c.new-characters.ensures.spells
    ∙ ap (λ m. form_of m (decoded_utf8 c.args.bytes.now)) (c.as_borrowed.ensures ∙ made)
