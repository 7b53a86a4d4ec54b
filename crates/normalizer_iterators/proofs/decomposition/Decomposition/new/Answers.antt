use Rattle.std.proofs.Common.{◌∙◌}
use Rattle.normalizer_tables.proofs.words.PassthroughBound.{IsPassthroughBelow-handed_in}
use Rattle.normalizer_iterators.proofs.reads.ReadsOfSoundData.{SuitsLazyReading-nfd}
use Rattle.normalizer_iterators.proofs.decomposition.Decomposition.new.Goals as goal

pub with_passthrough_bound-characters-requires : goal.with_passthrough_bound-characters-requires
with_passthrough_bound-characters-requires g c = rw c.new-characters.ensures (IsPassthroughBelow-handed_in c.args.decompositions.now c.args.tables.now c.requires.sound)

pub over-requires-clause-suits : goal.over-requires-clause-suits
over-requires-clause-suits g c = rw (c.with_passthrough_bound-characters.ensures ∙ c.new-characters.ensures) (SuitsLazyReading-nfd c.args.decompositions.now c.args.tables.now c.requires.sound)
