use Rattle.icu_normalizer_c.proofs.text.write_over.Goals as goal

pub returns-clause-over : goal.returns-clause-over
returns-clause-over g c =
    rw c.in_ok-owner.ensures.was (rw (c.deref-2.ensures, c.deref.ensures) at c.write-outcome.ensures)
