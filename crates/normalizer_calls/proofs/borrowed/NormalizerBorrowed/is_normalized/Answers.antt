use Rattle.normalizer_calls.proofs.results.TextAnswers.{ChecksText-bytes}
use Rattle.normalizer_calls.proofs.borrowed.NormalizerBorrowed.is_normalized.Goals as goal

pub returns : goal.returns
returns g c = ChecksText-bytes _ _ c.utf8.text _ c.is_own_form.ensures
