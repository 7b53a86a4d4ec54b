use Rattle.std.proofs.Common.{◌≡◌, Bool, true, ap, sym, ◌∙◌}
use Rattle.std.specs.Option.{is_some}
use Rattle.std.specs.Prelude.{MatchOption, Option, None, Some}
use Rattle.normalizer_calls.specs.inner.PassthroughRuns.{BeginsAt}
use Rattle.normalizer_calls.proofs.passthrough.RunParts.{passed_apart, passed_before_marks, passed_held}
use Rattle.normalizer_calls.proofs.runs.passed_before.Goals as goal

-- what is said of the value in a `Some`, without it
is_there : (o : Option Bool) (P Q : Type 0) → MatchOption o P (λ _. Q) → is_some o ≡ true → Q
is_there None P Q said some = absurd (cc)
is_there (Some b) P Q said some = said

pub returns-then-is_some : goal.returns-then-is_some
returns-then-is_some g c =
    let begins : BeginsAt (g.N.Forming.beginning c.args.normalizer.now) g.U.Units.encoding (g.U.Units.units c.args.units) c.args.end =
    λ _. ap (λ s. g.N.Forming.beginning c.args.normalizer.now s.character) (sym c.step_at-step.ensures)
    ∙ is_there _ _ _ c.run_may_begin.ensures (sym c.is_some.ensures ∙ c.if-is_some.true) in
    (passed_apart _ _ _ _ c.requires.bytes _ _ _ c.requires.passes _ (g.met.N.Forming.apart c.args.normalizer.now) begins, c.step_at-step.ensures)

pub returns-then-holds_back : goal.returns-then-holds_back
returns-then-holds_back g c = (passed_held _ _ _ _ c.requires.bytes _ _ _ _ _ c.requires.passes c.last_starter-starter.ensures, tt)

pub returns : goal.returns
returns g c = (
  passed_before_marks _ _ _ _ c.requires.bytes _ _ _ _ _ c.requires.passes c.last_starter-starter.ensures (sym c.holds_back.ensures ∙ c.if-holds_back.false),
  tt,
)
