use Rattle.std.proofs.Common.{◌+◌, ◌<◌, ◌∙◌, ap, drop, take, map, leb, arith, sym}
use Rattle.std.proofs.lemmas.Simd.{length-chunk, get_or-chunk}
use lib.Lanes.{mask_l}
use mir.Syntax.{w16}
use Rattle.normalizer_text.proofs.scans.ScanLemmas.{reaching, reaching-none}
use Rattle.normalizer_text.proofs.scan.RefSliceU16Lanes.lanes_reaching.Goals as goal

pub returns-in_default : goal.returns-in_default
returns-in_default c =
    let high : c.args.bound < 65536 → ⊥ = c.in_default.ensures in
    let units = c.args.self.now in
    let long = length-chunk c.args.position 16 units c.requires in
    sym (reaching-none c.args.bound (take 16 (drop c.args.position units))
    (λ k h. let f = (c.type_inv.self (c.args.position + k)).fits in omega (arith, get_or-chunk c.args.position 16 units k 0 (omega arith))))

pub returns : goal.returns
returns c =
    let v = take 16 (drop c.args.position c.args.self.now) in
    let long = length-chunk c.args.position 16 c.args.self.now c.requires in
    reaching w16 c.in-Ok.bound v 16 long (omega arith)
    ∙ ap (λ b. mask_l (map (leb b) v)) c.in-Ok.ensures.1
