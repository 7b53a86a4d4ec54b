use Rattle.normalizer_packing.proofs.packing.packed_with.Goals as goal

pub parts_of-requires-clause-ends : goal.parts_of-requires-clause-ends
parts_of-requires-clause-ends c = rw c.deref-2.ensures.value c.in_ok-breakpoints.ensures.ends
