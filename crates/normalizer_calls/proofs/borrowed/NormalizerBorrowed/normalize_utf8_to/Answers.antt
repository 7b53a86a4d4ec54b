use Rattle.std.proofs.Common.{refl}
use Rattle.normalizer_calls.proofs.written_forms.WritingLemmas.{WritesForm-text}
use Rattle.normalizer_calls.proofs.borrowed.NormalizerBorrowed.normalize_utf8_to.Goals as goal

pub returns : goal.returns
returns g c = WritesForm-text refl c.form_to.ensures.text c.form_to.ensures.room
