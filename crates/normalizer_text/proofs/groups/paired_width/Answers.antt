use Rattle.std.proofs.Common.{drop, take}
use Rattle.std.proofs.lemmas.Simd.{length-chunk}
use Rattle.normalizer_text.specs.Utf16.{is_high, is_low}
use Rattle.normalizer_text.proofs.scans.PairedLemmas.{kind-high, kind-low, mask-by_kind, paired-by_masks}
use Rattle.normalizer_text.proofs.groups.paired_width.Goals as goal

pub returns-then-low-high : goal.returns-then-low-high
returns-then-low-high c =
    let units = c.args.units.now in
    let at = c.args.position in
    let v = take 8 (drop at units) in
    let long = length-chunk at 8 units c.requires in
    paired-by_masks units at _ _ c.requires (mask-by_kind 55 is_low kind-low v long) (mask-by_kind 54 is_high kind-high v long) c.if-low-high.true
