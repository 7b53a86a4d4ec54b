use Rattle.normalizer_command.proofs.OutcomeLemmas.{replies_compared}
use Rattle.normalizer_command.proofs.reply.compared.Goals as goal

pub returns-clause-replies : goal.returns-clause-replies
returns-clause-replies g c = λ m makes.
    replies_compared c.args.mode c.args.normalizer.now m makes c.args.name.now _ c.args.listing c.in_ok-comparison.comparison c.in_ok-comparison.ensures.compared _ _ c.in_ok-reply_to.ensures
