use Rattle.normalizer_check.proofs.nfd_check.check_nfd_data.Goals as goal

pub returns-clause-ok : goal.returns-clause-ok
returns-clause-ok c = rw (c.new-loaded.ensures, c.new-characters.ensures) at c.check.ensures.ok
