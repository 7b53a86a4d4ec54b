use Rattle.normal_forms.proofs.examples.LawfulExample.{HasFullLists-example, HasStarterResults-example, HasFaithfulResults-example, HasNonemptyLists-example}
use Rattle.normal_forms.proofs.example.example_is_lawful.Goals as goal

pub returns : goal.returns
returns c = record { full = HasFullLists-example; starters = HasStarterResults-example; faithful = HasFaithfulResults-example; are_nonempty = HasNonemptyLists-example }
