use Rattle.normal_forms.proofs.cuts.PlaceLemmas.{found_at_place, wanted_at_place}
use Rattle.normal_forms.proofs.laws.characters_at_offence.Goals as goal

pub returns-clause-found : goal.returns-clause-found
returns-clause-found c = found_at_place

pub returns-clause-wanted : goal.returns-clause-wanted
returns-clause-wanted c = wanted_at_place
