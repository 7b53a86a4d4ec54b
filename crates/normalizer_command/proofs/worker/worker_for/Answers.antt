use Rattle.std.proofs.Common.{Ok, Result, refl, subst, sym}
use Rattle.icu_normalizer.specs.Built.{data_in}
use Rattle.icu_normalizer.specs.NormalizeError.{NormalizeError}
use Rattle.icu_normalizer.specs.declared.any_normalizer.AnyNormalizer.{AnyNormalizer}
use Rattle.normalizer_command.specs.Works.{work_by, Does}
use Rattle.normalizer_command.specs.declared.command.Command.{Command}
use Rattle.normalizer_command.specs.declared.worker.Worker.TheVariants as worker
use Rattle.normalizer_command.proofs.MakingLemmas.{makes-ok}
use Rattle.normalizer_command.proofs.worker.worker_for.Goals as goal

pub returns-in_ok-normalizer_to-in-OfForm-clause-does : goal.returns-in_ok-normalizer_to-in-OfForm-clause-does
returns-in_ok-normalizer_to-in-OfForm-clause-does c = λ records uts46 builds.
    let it = c.in-OfForm in
    let made = c.in_ok-normalizer_to-in-OfForm in
    let r : Result AnyNormalizer NormalizeError = Ok made.field-0 in
    subst (λ (command : Command). Does (worker.OfForm it.task it.mode made.field-0) (work_by records uts46 command)) (sym it.is)
    (refl, refl, makes-ok r records (data_in c.args.built.now) it.form made.ensures.data (made.ensures.form records uts46 builds))
