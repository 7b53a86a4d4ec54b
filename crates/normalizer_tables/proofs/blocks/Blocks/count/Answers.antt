use Rattle.std.proofs.Common.{◌∙◌}
use Rattle.normalizer_tables.proofs.code_points.BlockCounts.{block_count-stored}
use Rattle.normalizer_tables.proofs.blocks.Blocks.count.Goals as goal

pub returns : goal.returns
returns c = λ above. rw (← c.self.view_is) (c.len.ensures ∙ c.self.inside.blocks.ok.0 ∙ block_count-stored _ _ _ above c.self.invariant)
