use Rattle.std.proofs.Common.{◌≡◌, length, arith, ap, subst}
use Rattle.std.proofs.lemmas.Result.{IfOk-weaker}
use Rattle.normalizer_tables.proofs.code_points.BlockBytes.{AreNumbers-blocks, AreOfBlocks, HasBytesWithout-blocks}
use Rattle.normalizer_tables.proofs.blocks.Blocks.bytes_without.Goals as goal

pub loop-block-init : goal.loop-block-init
loop-block-init c = record { long = ap length c.in_ok-bytes.ensures.items; bytes = λ i below. absurd (omega arith) }

pub from_blocks-requires : goal.from_blocks-requires
from_blocks-requires c =
    let blocks = c.self.inside.blocks.items in
    let all_blocks : c.loop-block.block ≡ length blocks = omega (arith, c.loop-block.auto.block-end, c.len-block-end.ensures, c.self.inside.blocks.ok.0) in
    rw c.deref.ensures.value
    (AreNumbers-blocks c.args.bits blocks c.self.inside.numbers.items c.loop-block.bytes.items c.self.invariant
    (subst (λ n. AreOfBlocks c.args.bits blocks n c.loop-block.bytes.items) all_blocks c.loop-block.invariant))

pub returns-clause-bytes : goal.returns-clause-bytes
returns-clause-bytes c = λ above.
    let blocks = c.self.inside.blocks.items in
    let kept = c.loop-block.bytes.items in
    let all_blocks : c.loop-block.block ≡ length blocks = omega (arith, c.loop-block.auto.block-end, c.len-block-end.ensures, c.self.inside.blocks.ok.0) in
    rw (← c.self.view_is) (IfOk-weaker c.from_blocks.result _ _ (λ bytes same.
    HasBytesWithout-blocks c.args.bits blocks c.self.inside.numbers.items kept c.self.invariant
    (subst (λ n. AreOfBlocks c.args.bits blocks n kept) all_blocks c.loop-block.invariant) above _ (rw c.deref.ensures.value at same)) c.from_blocks.ensures.bytes)
