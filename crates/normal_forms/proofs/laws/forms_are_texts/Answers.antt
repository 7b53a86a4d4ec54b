use Rattle.normal_forms.proofs.forms.TextLemmas.{IsText-nfd, IsText-normal_form}
use Rattle.normal_forms.proofs.laws.forms_are_texts.Goals as goal

pub returns-clause-decomposing : goal.returns-clause-decomposing
returns-clause-decomposing c = IsText-nfd

pub returns-clause-forms : goal.returns-clause-forms
returns-clause-forms c = IsText-normal_form
