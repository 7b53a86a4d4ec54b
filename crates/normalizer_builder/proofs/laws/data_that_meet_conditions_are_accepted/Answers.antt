use Rattle.normalizer_builder.proofs.AcceptedData.{accepted_characters, accepted_pairs, met_not_refused}
use Rattle.normalizer_builder.proofs.laws.data_that_meet_conditions_are_accepted.Goals as goal

pub returns-clause-refused : goal.returns-clause-refused
returns-clause-refused c = met_not_refused

pub returns-clause-characters : goal.returns-clause-characters
returns-clause-characters c = accepted_characters

pub returns-clause-pairs : goal.returns-clause-pairs
returns-clause-pairs c = accepted_pairs
