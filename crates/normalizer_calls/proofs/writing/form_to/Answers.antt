use Rattle.std.proofs.Common.{◌≡◌, rules, Err}
use Rattle.normalizer_iterators.specs.declared.error.NormalizeError.TheVariants.{Sink}
use Rattle.normalizer_calls.proofs.written_forms.WritingLemmas.{TellsLengthFirst-told, TellsLengthFirst-untold, WritesText-told, WritesText-untold}
use Rattle.normalizer_calls.proofs.writing.form_to.Goals as goal

pub returns-in_err-begin-clause-text : goal.returns-in_err-begin-clause-text
returns-in_err-begin-clause-text g c =
    let is : c.from_residual.result ≡ Err Sink = search rules in
    rw is (WritesText-untold g.U.Units.encoding g.O.Output c.in_err-begin.ensures)

pub returns-in_err-begin-clause-first : goal.returns-in_err-begin-clause-first
returns-in_err-begin-clause-first g c =
    let is : c.from_residual.result ≡ Err Sink = search rules in
    rw is (TellsLengthFirst-untold g.U.Units.encoding g.O.Output c.len.ensures c.in_err-begin.ensures)

pub returns-clause-text : goal.returns-clause-text
returns-clause-text g c =
    WritesText-told g.U.Units.encoding g.O.Output (rw c.in_ok-begin.was at c.begin.ensures) c.write_parts.ensures.text

pub returns-clause-first : goal.returns-clause-first
returns-clause-first g c =
    TellsLengthFirst-told g.U.Units.encoding g.O.Output (rw c.in_ok-begin.was at c.begin.ensures) c.len.ensures
