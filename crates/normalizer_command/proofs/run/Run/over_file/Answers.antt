use Rattle.normalizer_command.proofs.FileLemmas.{of_open}
use Rattle.normalizer_command.proofs.run.Run.over_file.Goals as goal

pub returns-clause-is : goal.returns-clause-is
returns-clause-is g c = λ w does.
    let opened = c.in_ok-input.ensures in
    of_open g.I.Input.Source.bytes_left g.I.Input.Source.refusal (g.I.Inputs.files c.args.self.now.inputs.now) g.W.Target.bytes_taken g.W.Target.refusal c.args.name.now _ _ _ _ w
    c.handle.result opened.bytes (opened.reads _) (opened.succeeds _) (c.handle.ensures w does)
