use Rattle.std.proofs.Common.{length-take-le, sym}
use Rattle.normalizer_text.specs.Encodings.{Encoding}
use Rattle.normalizer_text.proofs.steps.StepBoundaries.{boundary-le}
use Rattle.normalizer_text.proofs.units.RefSliceU16Units.before.Goals as goal

pub slice_bounds-result-end : goal.slice_bounds-result-end
slice_bounds-result-end c =
    let k = boundary-le Encoding.Utf16 c.args.self.now c.args.position c.requires in sym (length-take-le c.args.position c.args.self.now k)
