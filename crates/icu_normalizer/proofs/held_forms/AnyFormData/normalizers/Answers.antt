use Rattle.std.proofs.lemmas.Result.{err_from_is_err_and}
use Rattle.icu_normalizer.specs.ComposingNormalizers.{data_and_pairs_of}
use Rattle.icu_normalizer.proofs.acceptance.AllForms.{all_made, second_refused}
use Rattle.icu_normalizer.proofs.held_forms.AnyFormData.normalizers.Goals as goal

pub returns-in_err-try_new_nfkc_unstable-clause-errors : goal.returns-in_err-try_new_nfkc_unstable-clause-errors
returns-in_err-try_new_nfkc_unstable-clause-errors g c =
    let r = err_from_is_err_and c.from_residual-in_err-try_new_nfkc_unstable.result c.from_residual-in_err-try_new_nfkc_unstable.ensures.1 in
    rw (r.1, r.2) (second_refused _ _ _ (data_and_pairs_of c.in_ok-try_new_nfc_unstable.field-0) c.in_err-try_new_nfkc_unstable.field-0.0 c.in_ok-try_new_nfc_unstable.ensures.0 c.in_err-try_new_nfkc_unstable.ensures.1)

pub returns-clause-made : goal.returns-clause-made
returns-clause-made g c = all_made _ _ _
    (record { canonical = c.in_ok-try_new_nfc_unstable.field-0; compatibility = c.in_ok-try_new_nfkc_unstable.field-0 })
    c.in_ok-try_new_nfc_unstable.ensures.0 c.in_ok-try_new_nfkc_unstable.ensures.0

pub returns-clause-canonical : goal.returns-clause-canonical
returns-clause-canonical g c = c.in_ok-try_new_nfc_unstable.ensures.0
