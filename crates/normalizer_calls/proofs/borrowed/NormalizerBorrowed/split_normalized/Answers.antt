use Rattle.std.proofs.lemmas.Result.{IfOk-weaker}
use Rattle.normalizer_text.proofs.rules.StrLemmas.{decoded-chars}
use Rattle.normalizer_calls.proofs.results.TextAnswers.{IsTextSplitAtCut-bytes}
use Rattle.normalizer_calls.proofs.borrowed.NormalizerBorrowed.split_normalized.Goals as goal

pub returns : goal.returns
returns g c = record {
  is = IfOk-weaker _ _ _ (λ parts h. IsTextSplitAtCut-bytes _ _ c.utf8.text _ _ h) c.split_at_cut.ensures.is;
  room = rw (← decoded-chars c.args.text.now c.utf8.text) c.split_at_cut.ensures.room;
  refused = c.split_at_cut.ensures.refused;
}
