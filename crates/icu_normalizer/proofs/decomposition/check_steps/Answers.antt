use Rattle.icu_normalizer.proofs.property_data.SoundSteps.{HasSteps-met}
use Rattle.icu_normalizer.proofs.decomposition.check_steps.Goals as goal

pub returns-clause-ok : goal.returns-clause-ok
returns-clause-ok c = λ ok. let h = c.check.ensures.ok.0 ok in rw (c.new-loaded.ensures, c.copied.ensures) at h

pub returns-clause-steps : goal.returns-clause-steps
returns-clause-steps c = λ ok.
    let h = c.check.ensures.ok.0 ok in
    HasSteps-met (c.args.characters.now, c.args.supplement.now) (rw (c.new-loaded.ensures, c.copied.ensures) at h)
