use Rattle.std.proofs.Common.{refl}
use Rattle.normalizer_iterators.specs.Segment.{IsSmall}
use Rattle.normalizer_iterators.proofs.segments.BufferedSegments.{IsDecomposed-sorted}
use Rattle.normalizer_iterators.proofs.segment.SegmentBuffer.put_in_order.Goals as goal

pub returns-in_err-put_in_order-clause-small : goal.returns-in_err-put_in_order-clause-small
unfolding IsSmall
returns-in_err-put_in_order-clause-small c = λ small. cc (c.in_err-put_in_order.ensures.succeeds small)

pub returns-clause-read : goal.returns-clause-read
returns-clause-read c = λ d e units end read.
    let agrees = read.agrees.classes in
    IsDecomposed-sorted d e units end c.args.self.now _ read refl (c.in_ok-put_in_order.ensures.classes d agrees) (c.in_ok-put_in_order.ensures.text d agrees)
