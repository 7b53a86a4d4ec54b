use Rattle.std.proofs.Common.{◌≡◌, ap, refl, ◌∙◌}
use Rattle.normalizer_command.specs.Works.{OfForm}
use Rattle.normalizer_command.specs.declared.command.Task.TheVariants.{Compare, Write}
use Rattle.normalizer_command.specs.declared.worker.Worker.TheVariants as worker
use Rattle.normalizer_command.proofs.OutcomeLemmas.{failed-so, form_cut, known-so, outcome-cut, outcome-known, work_of_form}
use Rattle.normalizer_command.proofs.worker.Worker.handle.Goals as goal

pub returns-in_err-ending-in-OfForm-Write-default-default : goal.returns-in_err-ending-in-OfForm-Write-default-default
returns-in_err-ending-in-OfForm-Write-default-default g c =
    let it = c.in-OfForm-Write-default-default in
    let task : it.field-0 ≡ Write = rw it.is at it.field-0-is in
    let e = c.in_err-ending-in-OfForm-Write-default-default.ensures in
    let failed = c.from_residual in
    work_of_form Write it.mode it.normalizer c.args.self.now (it.is ∙ ap (λ t. worker.OfForm t it.mode it.normalizer) task) _ (λ m makes.
    outcome-cut (OfForm Write it.mode m) c.args.name.now _ _ _ _ _ failed.result _ failed.ensures.1 refl
    (failed-so g.S.Source.bytes_left g.S.Source.refusal g.W.Target.refusal _ _ _ _ _ e.read e.write e.read_ahead e.ahead)
    (form_cut it.mode it.normalizer m makes c.args.name.now _ _ _ e.front))

pub returns-in-OfForm-Compare-default-default : goal.returns-in-OfForm-Compare-default-default
returns-in-OfForm-Compare-default-default g c =
    let it = c.in-OfForm-Compare-default-default in
    let task : it.field-0 ≡ Compare it.listing = rw it.is at it.field-0-is in
    let e = c.compared-reply.ensures in
    work_of_form (Compare it.listing) it.mode it.normalizer c.args.self.now (it.is ∙ ap (λ t. worker.OfForm t it.mode it.normalizer) task) _ (λ m makes.
    outcome-known (OfForm (Compare it.listing) it.mode m) c.args.name.now _ _ _ _ _ refl c.compared-reply.result (e.replies m makes) e.errors _ _ (λ refused. refused)
    (λ unrefused. known-so g.S.Source.bytes_left g.S.Source.refusal g.W.Target.refusal _ _ _ _ c.compared-reply.result e.errors e.read e.read_ahead unrefused)
    c.write_known.result c.write_known.ensures)
