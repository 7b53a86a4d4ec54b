use Rattle.std.proofs.Common.{arith}
use Rattle.normalizer_text.specs.Encodings.{Encoding}
use Rattle.normalizer_text.proofs.steps.StepBoundaries.{boundary-le}
use Rattle.normalizer_text.proofs.units.RefSliceU16Units.after.Goals as goal

pub offset_bounds-self-position : goal.offset_bounds-self-position
offset_bounds-self-position c =
    let k = boundary-le Encoding.Utf16 c.args.self.now c.args.position c.requires in omega arith

pub slice_bounds-result-count : goal.slice_bounds-result-count
slice_bounds-result-count c =
    let k = boundary-le Encoding.Utf16 c.args.self.now c.args.position c.requires in k

pub slice_bounds-result-start : goal.slice_bounds-result-start
slice_bounds-result-start c =
    let k = boundary-le Encoding.Utf16 c.args.self.now c.args.position c.requires in omega arith
