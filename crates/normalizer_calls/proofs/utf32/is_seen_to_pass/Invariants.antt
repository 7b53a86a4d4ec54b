use Rattle.std.proofs.Common.{take}
use Rattle.std.specs.Char.{IsScalar}
use Rattle.std.specs.Prelude.{All}
use Rattle.normalizer_calls.proofs.passthrough.RunParts.{OwnSoFar}
use Rattle.normalizer_calls.proofs.utf32.is_seen_to_pass.Given as goal

abbrev pub invariant-loop-unit : goal.invariant-loop-unit
invariant-loop-unit g l =
    let m = g.N.Forming.made_form l.normalizer in
    let x = take l.unit-index l.units in
    All IsScalar x × OwnSoFar m.reading m.form x l.least
