use Rattle.normal_forms.proofs.cuts.OffenceLemmas.{offered_front_is_normalized, form_ends_with_text}
use Rattle.normal_forms.proofs.laws.offered_front.Goals as goal

pub returns-clause-piece : goal.returns-clause-piece
returns-clause-piece c = offered_front_is_normalized

pub returns-clause-whole : goal.returns-clause-whole
returns-clause-whole c = form_ends_with_text
