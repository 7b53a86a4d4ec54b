use Rattle.normalizer_passing.proofs.BlockLemmas.{AreBlocks-first}
use Rattle.normalizer_passing.proofs.making.first_blocks.Goals as goal

pub returns : goal.returns
returns c = rw (c.in_ok-push-2.ensures.items, c.in_ok-push.ensures.items, c.new-blocks.ensures.items) AreBlocks-first
