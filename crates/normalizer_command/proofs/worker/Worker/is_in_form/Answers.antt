use Rattle.std.proofs.Common.{refl}
use Rattle.normalizer_command.specs.InPlace.{IsInForm}
use Rattle.normalizer_command.proofs.OutcomeLemmas.{work_of_form, work_of_mapper}
use Rattle.normalizer_command.proofs.worker.Worker.is_in_form.Goals as goal

pub returns-in_ok-reply-in-OfForm-clause-same : goal.returns-in_ok-reply-in-OfForm-clause-same
returns-in_ok-reply-in-OfForm-clause-same g c =
    let it = c.in-OfForm in
    let reply = c.in_ok-reply-in-OfForm.reply in
    work_of_form it.field-0 it.mode it.normalizer c.args.self.now it.is (λ w. IsInForm w c.args.name.now (g.S.Source.bytes_left c.args.input.now) c.is_done.result)
    (λ m makes. (reply.answer, reply.output.items, c.in_ok-reply-in-OfForm.ensures.replies m makes, c.is_done.ensures))

pub returns-in-OfMapper-clause-same : goal.returns-in-OfMapper-clause-same
returns-in-OfMapper-clause-same g c =
    let it = c.in-OfMapper in
    work_of_mapper it.field-0 it.field-1 it.field-2 c.args.self.now it.is (λ w. IsInForm w c.args.name.now (g.S.Source.bytes_left c.args.input.now) _) (λ m maps. refl)
