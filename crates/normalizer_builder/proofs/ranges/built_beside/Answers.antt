use Rattle.normalizer_builder.proofs.NoRefusal.{rising}
use Rattle.normalizer_builder.proofs.PackableEntries.{ArePackable-made}
use Rattle.normalizer_builder.proofs.SplitRecords.{Builds-fit}
use Rattle.normalizer_builder.proofs.ranges.built_beside.Goals as goal

pub pack-requires : goal.pack-requires
pack-requires c =
    rw c.as_slice.ensures.value
    (ArePackable-made c.args.records.now c.requires.0 c.requires.1.unrefused c.args.expanded.entries.items c.requires.1.made c.requires.1.characters)

pub fit-requires : goal.fit-requires
fit-requires c = rising c.args.records.now c.requires.0 c.requires.1.unrefused

pub returns-in-Ok : goal.returns-in-Ok
returns-in-Ok c = λ all others end expanded split.
    Builds-fit c.args.records.now all others c.args.disallowed.now end split c.args.expanded.entries.items c.args.expanded.pairs.items expanded _
    (rw c.as_slice.ensures.value at c.in-Ok.ensures.packed) _ c.fit.ensures
