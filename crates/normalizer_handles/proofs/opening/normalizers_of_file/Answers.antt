use Rattle.std.proofs.Common.{refl}
use Rattle.std.proofs.lemmas.Result.{err_from_is_err_and}
use Rattle.normalizer_prepared.specs.Prepared.{prepared_in}
use Rattle.normalizer_handles.proofs.RefusalLemmas.{file-fault}
use Rattle.normalizer_handles.proofs.opening.normalizers_of_file.Goals as goal

pub returns-in_err-over_prepared : goal.returns-in_err-over_prepared
returns-in_err-over_prepared c =
    let r = err_from_is_err_and c.from_residual-in_err-over_prepared.result
    c.from_residual-in_err-over_prepared.ensures.1 in
    rw (r.1, r.2) (file-fault c.args.prepared.now (prepared_in c.in_ok-read.read) c.in_err-over_prepared.field-0.0
    (c.in_ok-read.read, c.in_ok-read.ensures.found, refl) c.in_err-over_prepared.ensures.refused)
