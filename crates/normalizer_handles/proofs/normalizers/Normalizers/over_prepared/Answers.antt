use Rattle.std.proofs.lemmas.Result.{err_from_is_err_and}
use Rattle.icu_normalizer.specs.AllNormalizers.{made_to}
use Rattle.icu_normalizer.proofs.PackedForms.{packed_form-made}
use Rattle.normalizer_prepared.specs.Prepared.{prepared_in}
use Rattle.normalizer_handles.proofs.RefusalLemmas.{forms-refuse, mapper-refuses, steps-refuse}
use Rattle.normalizer_handles.proofs.normalizers.Normalizers.over_prepared.Goals as goal

pub returns-clause-makes : goal.returns-clause-makes
returns-clause-makes c = λ form. rw c.in_ok-over.ensures.forms
    (packed_form-made (prepared_in c.args.prepared.now) form _ (c.in_ok-forms.ensures.made form))

pub returns-in_err-forms-clause-refused : goal.returns-in_err-forms-clause-refused
returns-in_err-forms-clause-refused c =
    let r = err_from_is_err_and c.from_residual.result c.from_residual.ensures.1 in
    rw (r.1, r.2) (forms-refuse (prepared_in c.args.prepared.now) c.in_err-forms.field-0.0
    c.in_err-forms.ensures.errors)

pub returns-in_err-mapper-clause-refused : goal.returns-in_err-mapper-clause-refused
returns-in_err-mapper-clause-refused c =
    let r = err_from_is_err_and c.from_residual-in_err-mapper.result c.from_residual-in_err-mapper.ensures.1 in
    rw (r.1, r.2) (mapper-refuses (prepared_in c.args.prepared.now) c.in_err-mapper.field-0.0
    (λ form. (made_to c.in_ok-forms.forms form, c.in_ok-forms.ensures.made form)) c.in_err-mapper.ensures.refused)

pub returns-in_err-over-clause-refused : goal.returns-in_err-over-clause-refused
returns-in_err-over-clause-refused c =
    let r = err_from_is_err_and c.from_residual-in_err-over.result c.from_residual-in_err-over.ensures.1 in
    rw (r.1, r.2) (steps-refuse (prepared_in c.args.prepared.now) c.in_err-over.field-0.0
    (λ form. (made_to c.in_ok-forms.forms form, c.in_ok-forms.ensures.made form)) c.in_ok-mapper.ensures.suits
    c.in_err-over.ensures.refused)
