use Rattle.normalizer_builder.proofs.AcceptedData.{classes_met, mapper_met, nfc_met, nfd_met, nfkc_met, nfkd_met, pairs_met, steps_met}
use Rattle.normalizer_builder.proofs.laws.what_is_built_is_accepted.Goals as goal

pub returns-clause-nfd : goal.returns-clause-nfd
returns-clause-nfd c = λ records uts46 p builds. nfd_met records p builds.fit

pub returns-clause-nfkd : goal.returns-clause-nfkd
returns-clause-nfkd c = λ records uts46 p builds. nfkd_met records p builds.fit

pub returns-clause-nfc : goal.returns-clause-nfc
returns-clause-nfc c = λ records uts46 p builds. nfc_met records p builds.fit

pub returns-clause-nfkc : goal.returns-clause-nfkc
returns-clause-nfkc c = λ records uts46 p builds. nfkc_met records p builds.fit

pub returns-clause-mapper : goal.returns-clause-mapper
returns-clause-mapper c = λ records uts46 p builds. mapper_met records p builds.fit

pub returns-clause-classes : goal.returns-clause-classes
returns-clause-classes c = λ records uts46 p builds. classes_met records p builds.fit c.accepted_data_have_sound_classes.ensures

pub returns-clause-pairs : goal.returns-clause-pairs
returns-clause-pairs c = λ records uts46 p builds. pairs_met records p builds.fit c.accepted_pairs_are_sound.ensures

pub returns-clause-steps : goal.returns-clause-steps
returns-clause-steps c = λ records uts46 p builds. steps_met records p builds.fit
