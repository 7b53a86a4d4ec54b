use Rattle.icu_normalizer_c.proofs.property.icu_normalizer_has_boundary_before_nonnull.Goals as goal

pub returns-clause-status : goal.returns-clause-status
returns-clause-status c = rw c.character-character.ensures at c.report.ensures.status
