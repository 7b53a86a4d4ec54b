use Rattle.normalizer_text.proofs.rules.StrLemmas.{decoded-chars}
use Rattle.normalizer_calls.proofs.written_forms.WritingLemmas.{WritesForm-text}
use Rattle.normalizer_calls.proofs.borrowed.NormalizerBorrowed.normalize_to.Goals as goal

pub returns : goal.returns
returns g c = WritesForm-text (decoded-chars c.args.text.now c.utf8.text) c.form_to.ensures.text c.form_to.ensures.room
