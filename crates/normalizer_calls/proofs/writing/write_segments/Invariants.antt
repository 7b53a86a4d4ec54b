use Rattle.std.proofs.Common.{◌≡◌, ◌-◌, drop, length}
use Rattle.std.specs.Prelude.{IfSome}
use Rattle.normalizer_text.specs.Encodings.{first_in}
use Rattle.normalizer_calls.proofs.written_forms.PartLemmas.{WroteUpTo}
use Rattle.normalizer_calls.proofs.writing.write_segments.Given as goal

abbrev pub invariant-loop-position : goal.invariant-loop-position
invariant-loop-position g l =
    let m = g.N.Forming.made_form l.normalizer in
    WroteUpTo g.U.Units.encoding g.O.Output m.reading m.form (g.U.Units.units l.units) l.fn.output l.position l.output
    × IfSome l.first (λ first. first ≡ first_in g.U.Units.encoding (drop l.position (g.U.Units.units l.units)))

abbrev pub decreases-loop-position : goal.decreases-loop-position
decreases-loop-position g l = length (g.U.Units.units l.units) - l.position
