use Rattle.std.proofs.Common.{Ok, Result, refl, subst, sym}
use Rattle.icu_normalizer.specs.DataError.{DataError}
use Rattle.icu_normalizer.specs.declared.any_normalizer.AnyNormalizer.{AnyNormalizer}
use Rattle.icu_normalizer.specs.declared.uts46.Uts46Mapper.{Uts46Mapper}
use Rattle.normalizer_prepared.specs.Prepared.{prepared_in}
use Rattle.normalizer_command.specs.PreparedFiles.{work_of}
use Rattle.normalizer_command.specs.Works.{work_by, Does}
use Rattle.normalizer_command.specs.declared.command.Command.{Command}
use Rattle.normalizer_command.specs.declared.worker.Worker.TheVariants as worker
use Rattle.normalizer_command.proofs.PreparedLemmas.{makes-built-ok, makes-packed-ok, maps-built-ok, maps-packed-ok}
use Rattle.normalizer_command.proofs.data.worker_by.Goals as goal

pub returns-in_ok-normalizer-in-OfForm-clause-does : goal.returns-in_ok-normalizer-in-OfForm-clause-does
returns-in_ok-normalizer-in-OfForm-clause-does c =
    let it = c.in-OfForm in
    let made = c.in_ok-normalizer-in-OfForm in
    let r : Result AnyNormalizer DataError = Ok made.field-0 in
    let p = prepared_in c.args.read.now in
    subst (λ (command : Command). Does (worker.OfForm it.task it.mode made.field-0) (work_of p command)) (sym it.is)
    (refl, refl, makes-packed-ok p r it.form made.ensures.made)

pub returns-in_ok-normalizer-in-OfForm-clause-recorded : goal.returns-in_ok-normalizer-in-OfForm-clause-recorded
returns-in_ok-normalizer-in-OfForm-clause-recorded c = λ records uts46 builds.
    let it = c.in-OfForm in
    let made = c.in_ok-normalizer-in-OfForm in
    let r : Result AnyNormalizer DataError = Ok made.field-0 in
    subst (λ (command : Command). Does (worker.OfForm it.task it.mode made.field-0) (work_by records uts46 command)) (sym it.is)
    (refl, refl, makes-built-ok (prepared_in c.args.read.now) r it.form made.ensures.made records uts46 builds)

pub returns-in_ok-mapper-in-OfMapper-2-clause-does : goal.returns-in_ok-mapper-in-OfMapper-2-clause-does
returns-in_ok-mapper-in-OfMapper-2-clause-does c =
    let it = c.in-OfMapper-2 in
    let made = c.in_ok-mapper-in-OfMapper-2 in
    let r : Result Uts46Mapper DataError = Ok made.field-0 in
    let p = prepared_in c.args.read.now in
    subst (λ (command : Command). Does (worker.OfMapper it.task it.mode made.field-0) (work_of p command)) (sym it.is)
    (refl, refl, maps-packed-ok p r made.ensures.data)

pub returns-in_ok-mapper-in-OfMapper-2-clause-recorded : goal.returns-in_ok-mapper-in-OfMapper-2-clause-recorded
returns-in_ok-mapper-in-OfMapper-2-clause-recorded c = λ records uts46 builds.
    let it = c.in-OfMapper-2 in
    let made = c.in_ok-mapper-in-OfMapper-2 in
    let r : Result Uts46Mapper DataError = Ok made.field-0 in
    subst (λ (command : Command). Does (worker.OfMapper it.task it.mode made.field-0) (work_by records uts46 command)) (sym it.is)
    (refl, refl, maps-built-ok (prepared_in c.args.read.now) r made.ensures.data records uts46 builds)
