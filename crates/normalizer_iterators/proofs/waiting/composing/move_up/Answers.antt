use Rattle.std.proofs.Common.{◌≡◌, ◌+◌, ◌-◌, ◌∙◌, ap, arith, drop}
use Rattle.std.proofs.Math.Seq.{paste}
use Rattle.std.proofs.lemmas.List.Edits.{paste_none}
use Rattle.normalizer_iterators.proofs.waiting.composing.move_up.Goals as goal

pub returns-else-start-end-clause-moved : goal.returns-else-start-end-clause-moved
returns-else-start-end-clause-moved c =
    let xs = c.args.entries.now in
    let start = c.args.start in
    let none : 0 ≡ c.args.end - start = omega (arith, c.requires.range, c.if-start-end.false) in
    paste_none xs (start + 1) (drop start xs) ∙ ap (paste xs (start + 1) (drop start xs)) none
