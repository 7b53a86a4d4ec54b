use Rattle.std.proofs.Common.{◌≡◌, ◌+◌, ◌-◌, length, length-append, length-drop, arith, ap, refl, subst}
use Rattle.normalizer_text.specs.InputCut.{IsInputCut}
use Rattle.normalizer_calls.proofs.results.CheckLemmas.{normalized_where_expected, differs_where_refused, cut_where_refused}
use Rattle.normalizer_calls.proofs.results.QualifyingLemmas.{differs-with_rest, normalized-with_rest, IsInputCut-of_rest, IsKeptTo-qualifies, HasShortRuns-of_rest}
use Rattle.normalizer_calls.proofs.segments.KeptLemmas.{IsKeptTo-first}
use Rattle.normalizer_calls.proofs.offence.cut_after.Goals as goal

pub after-rest-requires : goal.after-rest-requires
after-rest-requires g c = (IsKeptTo-first _ _ _ _ _ c.requires.0).boundary

pub returns-in-Ok-clause-cut : goal.returns-in-Ok-clause-cut
returns-in-Ok-clause-cut g c =
    let front = IsKeptTo-qualifies _ _ _ _ _ (IsKeptTo-first _ _ _ _ _ c.requires.0) in
    normalized-with_rest _ _ _ _ _ front _ c.after-rest.ensures
    (normalized_where_expected _ _ _ _ (g.met.N.Forming.suits c.args.normalizer.now) _ (rw c.new-expected.ensures at c.in-Ok.ensures.text))

pub returns-in-Err-Sink-clause-cut : goal.returns-in-Err-Sink-clause-cut
returns-in-Err-Sink-clause-cut g c =
    let front = IsKeptTo-qualifies _ _ _ _ _ (IsKeptTo-first _ _ _ _ _ c.requires.0) in
    let suits = g.met.N.Forming.suits c.args.normalizer.now in
    let units = g.U.Units.units c.args.units in
    let refused = rw (c.new-expected.ensures, c.in-Err-Sink.field-0-is) at c.in-Err-Sink.ensures.text in
    let cut = IsInputCut-of_rest _ _ _ _ _ front _ c.after-rest.ensures _ (cut_where_refused _ _ _ _ suits _ refused) in
    let left = c.write_changed.new.output in
    let place : c.args.passed.end + (length (g.U.Units.units c.after-rest.result) - length left.remaining) ≡ c.len.result - c.remaining_len.result =
    omega (arith, ap length (refused.fault refl), length-append left.came left.remaining, ap length c.after-rest.ensures, length-drop c.args.passed.end units, front.within, c.len.ensures, c.remaining_len.ensures) in (
      differs-with_rest _ _ _ _ _ front _ c.after-rest.ensures (differs_where_refused _ _ _ _ suits _ refused),
      subst (IsInputCut g.U.Units.encoding (g.N.Forming.made_form c.args.normalizer.now).reading (g.N.Forming.made_form c.args.normalizer.now).form units) place cut,
    )

pub returns-in-Err-Memory-clause-room : goal.returns-in-Err-Memory-clause-room
returns-in-Err-Memory-clause-room g c short =
    let front = IsKeptTo-qualifies _ _ _ _ _ (IsKeptTo-first _ _ _ _ _ c.requires.0) in
    let rest = HasShortRuns-of_rest _ _ _ _ _ front _ c.after-rest.ensures _ short in
    let none = rw c.in-Err-Memory.field-0-is at c.in-Err-Memory.ensures.room in
    absurd (none rest refl)

pub write_changed-requires : goal.write_changed-requires
write_changed-requires g c = rw c.after-rest.ensures c.requires.1
