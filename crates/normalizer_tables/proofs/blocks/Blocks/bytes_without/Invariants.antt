use Rattle.normalizer_tables.proofs.code_points.BlockBytes.{AreOfBlocks}
use Rattle.normalizer_tables.proofs.blocks.Blocks.bytes_without.Given as goal

abbrev pub invariant-loop-block : goal.invariant-loop-block
invariant-loop-block l = AreOfBlocks l.bits l.self-inside.blocks.items l.block l.bytes.items
