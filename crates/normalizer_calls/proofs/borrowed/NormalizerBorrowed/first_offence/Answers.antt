use Rattle.std.proofs.lemmas.Result.{IfOk-weaker}
use Rattle.normalizer_text.proofs.rules.StrLemmas.{decoded-chars}
use Rattle.normalizer_calls.proofs.results.TextAnswers.{offence_of_text}
use Rattle.normalizer_calls.proofs.borrowed.NormalizerBorrowed.first_offence.Goals as goal

pub returns : goal.returns
returns g c = record {
  is = IfOk-weaker _ _ _ (λ answer h. offence_of_text _ _ c.utf8.text (g.met.F.Forming.suits c.args.self.now.form) answer h.offence) c.offence_of.ensures.offence;
  room = rw (← decoded-chars c.args.text.now c.utf8.text) c.offence_of.ensures.room;
  refused = c.offence_of.ensures.refused;
}
