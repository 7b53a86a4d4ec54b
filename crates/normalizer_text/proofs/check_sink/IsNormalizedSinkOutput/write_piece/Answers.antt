use Rattle.normalizer_text.proofs.sinks.CheckSinkLemmas.{AnswersUnits-expected, end_is_within}
use Rattle.normalizer_text.proofs.check_sink.IsNormalizedSinkOutput.write_piece.Goals as goal

pub invariant_of-self : goal.invariant_of-self
invariant_of-self g c = rw c.in-Some.ensures.0 (end_is_within _ _ _ c.in-Some.ensures.1 c.self.invariant)

pub returns-in-Some : goal.returns-in-Some
returns-in-Some g c = rw (c.in-Some.ensures.0, ← c.self.view_is) (AnswersUnits-expected _ _ _ c.in-Some.ensures.1 c.self.invariant)
