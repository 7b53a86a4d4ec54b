use Rattle.normalizer_builder.proofs.ranges.built_of_parts.Goals as goal

pub returns-in-Ok : goal.returns-in-Ok
returns-in-Ok c = λ all end split.
    c.built_beside.ensures all c.deref.result.now end c.in-Ok.ensures (rw (c.deref.ensures.value, c.deref-in-Ok.ensures.value) split)
