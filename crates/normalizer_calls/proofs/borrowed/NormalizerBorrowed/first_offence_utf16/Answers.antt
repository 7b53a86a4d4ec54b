use Rattle.normalizer_calls.proofs.borrowed.NormalizerBorrowed.first_offence_utf16.Goals as goal

pub returns : goal.returns
returns g c = record { is = c.offence_of.ensures.offence; room = c.offence_of.ensures.room; refused = c.offence_of.ensures.refused }
