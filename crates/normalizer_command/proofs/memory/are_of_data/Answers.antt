use Rattle.std.proofs.Common.{◌≡◌, arith, get_or, rules, sym, subst, ◌∙◌}
use Rattle.std.specs.Prelude.{All}
use Rattle.std.proofs.lemmas.Grind.{common_steps}
use Rattle.std.proofs.lemmas.List.{take_all}
use Rattle.std.proofs.lemmas.List.Elements.{All-map, All-more}
use Rattle.normalizer_command.specs.inner.Kept.{kept_report, IsOfData}
use Rattle.normalizer_command.specs.declared.memory.KeptReport.{KeptReport}
use Rattle.normalizer_command.proofs.memory.are_of_data.Goals as goal

pub loop-report-preserved : goal.loop-report-preserved
loop-report-preserved c =
    let is = c.report-item.is in
    let at : c.report-item.result ≡ get_or c.args.reports.now c.loop-report.report-index c.report-item.result = first_of (search rules, grind (arith, common_steps), cc) in
    All-more (λ (report : KeptReport). IsOfData (kept_report report)) c.args.reports.now c.loop-report.report-index _ c.loop-report-test.true c.loop-report.invariant
    (subst (λ (report : KeptReport). IsOfData (kept_report report)) at (sym c.is_refusal.ensures ∙ c.if-is_refusal.false))

pub returns : goal.returns
returns c = λ _. All-map IsOfData kept_report c.args.reports.now
    (subst (All (λ (report : KeptReport). IsOfData (kept_report report))) (take_all c.loop-report.report-index c.args.reports.now c.loop-report-test.false) c.loop-report.invariant)
