use Rattle.normal_forms.proofs.cuts.OffenceLemmas.{is_normalized_iff_front}
use Rattle.normal_forms.proofs.cuts.PlaceLemmas.{normalized_iff_cut}
use Rattle.normal_forms.proofs.laws.normalized_is_front.Goals as goal

pub returns-clause-front : goal.returns-clause-front
returns-clause-front c = is_normalized_iff_front

pub returns-clause-cut : goal.returns-clause-cut
returns-clause-cut c = normalized_iff_cut
