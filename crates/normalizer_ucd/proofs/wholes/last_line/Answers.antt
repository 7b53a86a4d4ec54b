use Rattle.std.proofs.Common.{◌-◌, ◌≤◌, length, drop, refl, arith}
use Rattle.std.proofs.lemmas.List.{take_all, length-drop}
use Rattle.normalizer_ucd.proofs.wholes.last_line.Goals as goal

pub returns : goal.returns
returns c =
    let text = c.trim_end-text.result.now in
    let start = length text - c.len_after_line_feed.result in
    let short : length (drop start text) ≤ length text - start = omega (arith, length-drop start text) in
    let is_text = c.trim_end-text.ensures in
    rw (take_all (length text - start) (drop start text) short, c.len_after_line_feed.ensures.value, is_text) refl
