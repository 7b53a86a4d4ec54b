use Rattle.std.proofs.Common.{sym, ◌∙◌}
use Rattle.normalizer_streams.proofs.ContinuedRuns.{continues_unless_safe}
use Rattle.normalizer_streams.proofs.settled.has_boundary_before.Goals as goal

pub returns-in-Composing-clause-continues : goal.returns-in-Composing-clause-continues
returns-in-Composing-clause-continues c = λ no.
    let flagged = continues_unless_safe _ _ c.args.character (sym c.has_boundary_before-in-Composing.ensures.exactly ∙ no) in
    rw c.in-Composing.is (rw c.as_borrowed-in-Composing.ensures.held at flagged)
