use Rattle.normalizer_packing.proofs.beside.BesidePacking.{beside_none, packs_all}
use Rattle.normalizer_builder.proofs.PackableEntries.{ArePackable-made}
use Rattle.normalizer_builder.proofs.build.packed_of.Goals as goal

pub pack-requires : goal.pack-requires
pack-requires c =
    rw c.as_slice.ensures.value
    (ArePackable-made c.args.records.now c.args.uts46.now c.requires.unrefused c.args.expanded.entries.items c.requires.made c.requires.characters)

pub returns-in-Ok : goal.returns-in-Ok
returns-in-Ok c = record {
  packs = record {
    entries = _;
    pairs = _;
    made = c.requires.made;
    same_pairs = c.requires.same_pairs;
    rising_pairs = c.requires.rising_pairs;
    packs = packs_all _ _ _ _ _ (rw c.as_slice.ensures.value at c.in-Ok.ensures.packed) (beside_none _);
  };
  characters = c.requires.characters;
}
