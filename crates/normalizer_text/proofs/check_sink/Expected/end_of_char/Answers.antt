use Rattle.std.proofs.Common.{◌≡◌, true, false, sym, ap, ◌∙◌, arith}
use Rattle.std.proofs.lemmas.Bool.{not-false, not-true, true≢false}
use Rattle.normalizer_text.proofs.sinks.CharacterLemmas.{fits, stands, reads, some}
use Rattle.normalizer_text.proofs.check_sink.Expected.end_of_char.Goals as goal
use Rattle.normalizer_text.proofs.check_sink.Expected.end_of_char.Goals.{else-step-c-via-then-step-c+else-not-step, else-step-c-via-else-step-c}

pub returns-then-position-len : goal.returns-then-position-len
returns-then-position-len g c = λ there.
    let inside = some g.Self.Units.encoding (g.Self.Units.units c.args.self) c.args.position c.args.c c.ranges.c.0 there in
    omega (arith, inside, c.if-position-len.true, c.len.ensures)

pub overflow_add-result : goal.overflow_add-result
overflow_add-result g c =
    let inside = fits g.Self.Units.encoding (g.Self.Units.units c.args.self) c.args.position (omega (arith, c.requires, c.if-position-len.false, c.len.ensures)) in
    rw c.step_at-step.ensures (record { fits = omega (arith, inside, c.len.ensures, c.len.type_inv) })

pub returns-then-not-step : goal.returns-then-not-step
returns-then-not-step g c =
    let right = not-true c.step_at-step.result.is_error c.if-not-step.true in
    let is = stands g.Self.Units.encoding (g.Self.Units.units c.args.self) c.args.position (omega (arith, c.requires, c.if-position-len.false, c.len.ensures)) (sym (ap (λ s. s.is_error) c.step_at-step.ensures) ∙ right) in
    rw (← c.if-step-c.true, c.step_at-step.ensures) is

pub returns-else-step-c : goal.returns-else-step-c
returns-else-step-c g c = λ there.
    let read = c.step_at-step.ensures ∙ reads g.Self.Units.encoding (g.Self.Units.units c.args.self) c.args.position c.args.c c.ranges.c.0 there in
    elim c.else-step-c.branch [
      | else-step-c-via-then-step-c+else-not-step w ↦ true≢false (sym (not-false c.step_at-step.result.is_error w.if-not-step.false) ∙ ap (λ s. s.is_error) read)
      | else-step-c-via-else-step-c w ↦ w.if-step-c.false (ap (λ s. s.character) read)
    ]
