use Rattle.std.proofs.Common.{IfOk, None, inl, inr, refl, subst, sym}
use Rattle.normalizer_records.specs.declared.records.BuildError.{BuildError}
use Rattle.normalizer_builder.specs.AtFault.{IsFirstAtFault}
use Rattle.normalizer_builder.specs.Building.{IsSmallest}
use Rattle.normalizer_builder.proofs.FaultLemmas.{at_fault, of_data}
use Rattle.normalizer_builder.proofs.build.Records.first_at_fault.Goals as goal

pub returns-in-TableFull : goal.returns-in-TableFull
unfolding IsFirstAtFault
returns-in-TableFull c h =
    elim c.in-TableFull.is [
      | inl full ↦ subst (λ (e : BuildError). IsFirstAtFault c.args.records.now c.args.uts46.now e None) (sym full) refl
      | inr memory ↦ subst (λ (e : BuildError). IsFirstAtFault c.args.records.now c.args.uts46.now e None) (sym memory) refl
    ]

pub returns-in-Ok : goal.returns-in-Ok
unfolding IsFirstAtFault
returns-in-Ok c h =
    let records = c.args.records.now in
    let uts46 = c.args.uts46.now in
    let (marker, condition, is) = of_data records uts46 c.args.error c.in_default.not-Memory c.in_default.not-TableFull h c.in-Ok.ensures.unrefused in
    subst (λ (e : BuildError). IfOk c.first_unfit.result (IsFirstAtFault records uts46 e)) (sym is)
    (c.first_unfit.ensures marker condition (subst (IsSmallest records uts46) is h))

pub returns-in-Err : goal.returns-in-Err
returns-in-Err c h =
    at_fault c.args.records.now c.args.uts46.now c.args.error c.in_default.not-Memory h c.in-Err.refusal c.in-Err.ensures c.record.result c.record.ensures
