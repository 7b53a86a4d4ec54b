use Rattle.std.proofs.Common.{◌+◌, ◌≤◌, arith, drop, length, length-drop}
use Rattle.normalizer_text.proofs.scans.ScanLemmas.{end-past, end-within, leading_below-le}
use Rattle.normalizer_text.proofs.scan.end_of_run.Goals as goal

pub overflow_add-result : goal.overflow_add-result
overflow_add-result g c =
    let units = g.L.Lanes.units c.args.units in
    let room : c.loop-end.end + 16 ≤ length units = omega arith in
    let within = end-within c.args.bound units c.loop-end.end 16 c.lanes_reaching-reaching.result room c.lanes_reaching-reaching.ensures (omega arith) (omega arith) in
    record { fits = omega (arith, within, leading_below-le c.args.bound (drop c.loop-end.end units), length-drop c.loop-end.end units, c.len.type_inv) }

pub returns-then-reaching-ne0 : goal.returns-then-reaching-ne0
returns-then-reaching-ne0 g c =
    let units = g.L.Lanes.units c.args.units in
    let room : c.loop-end.end + 16 ≤ length units = omega arith in
    omega (arith, end-within c.args.bound units c.loop-end.end 16 c.lanes_reaching-reaching.result room c.lanes_reaching-reaching.ensures (omega arith) (omega arith))

pub loop-end-preserved : goal.loop-end-preserved
loop-end-preserved g c =
    let units = g.L.Lanes.units c.args.units in
    let room : c.loop-end.end + 16 ≤ length units = omega arith in
    (room, omega (arith, end-past c.args.bound units c.loop-end.end 16 c.lanes_reaching-reaching.result room c.lanes_reaching-reaching.ensures c.if-reaching-ne0.false))
