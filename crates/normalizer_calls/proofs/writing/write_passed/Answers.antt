use Rattle.std.proofs.Common.{◌≡◌, rules, Err}
use Rattle.normalizer_iterators.specs.declared.error.NormalizeError.TheVariants.{Sink}
use Rattle.normalizer_calls.proofs.written_forms.PartLemmas.{WritesText-run_refused, WrotePart-run}
use Rattle.normalizer_calls.proofs.writing.write_passed.Goals as goal

pub returns-in_err-write_piece-clause-refused : goal.returns-in_err-write_piece-clause-refused
returns-in_err-write_piece-clause-refused g c =
    let run = c.requires.part c.if-end-gt0.true in
    let is : c.from_residual.result ≡ Err Sink = search rules in
    rw is (WritesText-run_refused run.0 run.1 c.before-then-end-gt0.ensures (rw c.in_err-write_piece.was at c.write_piece.ensures))

pub returns-in_ok-write_piece-clause-part : goal.returns-in_ok-write_piece-clause-part
returns-in_ok-write_piece-clause-part g c = λ some.
    let run = c.requires.part some in
    WrotePart-run run.0 run.1 c.before-then-end-gt0.ensures (rw c.in_ok-write_piece.was at c.write_piece.ensures)
