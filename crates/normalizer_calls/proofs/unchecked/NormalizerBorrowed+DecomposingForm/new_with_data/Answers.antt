use Rattle.std.proofs.Common.{◌∙◌}
use Rattle.normalizer_tables.proofs.words.PassthroughBound.{IsPassthroughBelow-handed_in}
use Rattle.normalizer_calls.proofs.HandedInData.{ServesDecomposing-handed_in}
use Rattle.normalizer_calls.proofs.unchecked.NormalizerBorrowed+DecomposingForm.new_with_data.Goals as goal

pub with_passthrough_bound-requires : goal.with_passthrough_bound-requires
with_passthrough_bound-requires c = rw c.new-characters.ensures (IsPassthroughBelow-handed_in c.args.decompositions.now c.args.tables.now c.requires)

pub invariant_of-result : goal.invariant_of-result
invariant_of-result c = record {
  serves = rw (c.with_passthrough_bound.ensures ∙ c.new-characters.ensures) (ServesDecomposing-handed_in c.args.decompositions.now c.args.tables.now c.requires);
}
