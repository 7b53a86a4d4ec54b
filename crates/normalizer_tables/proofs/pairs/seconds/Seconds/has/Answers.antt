use Rattle.std.proofs.Common.{arith}
use Rattle.normalizer_tables.proofs.composites.SecondLemmas.{has_bit-past, has_bit-read}
use Rattle.normalizer_tables.proofs.pairs.seconds.Seconds.has.Goals as goal

pub returns-in-Some : goal.returns-in-Some
returns-in-Some c = rw (← c.self.view_is) (has_bit-read _ _ _ _ c.deref.ensures.value c.in-Some.ensures.lookup.3.0 c.in-Some.ensures.lookup.1)

pub returns-in-None : goal.returns-in-None
returns-in-None c = rw (← c.self.view_is) (has_bit-past _ _ _ c.deref.ensures.value (omega (arith, c.in-None.ensures.lookup.3)))
