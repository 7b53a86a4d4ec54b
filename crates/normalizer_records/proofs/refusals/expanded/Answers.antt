use Rattle.std.proofs.Common.{None, inl, inr, refl, sym, ◌∙◌}
use Rattle.std.proofs.lemmas.Bool.{cases_Bool, true≢false}
use Rattle.normalizer_records.specs.declared.records.BuildError.TheVariants.{Fixed}
use Rattle.normalizer_records.specs.AtFault.{IsFirstAtFault}
use Rattle.normalizer_records.specs.Faults.{has_fixed_fault}
use Rattle.normalizer_records.proofs.record_faults.RefusalLemmas.{fixed_first, in_order, order_first, out_of_order}
use Rattle.normalizer_records.proofs.record_faults.ShownLemmas.{is_shown, IsShown-fixed}
use Rattle.normalizer_records.proofs.refusals.expanded.Goals as goal

pub returns-in-Some : goal.returns-in-Some
unfolding IsFirstAtFault
returns-in-Some c =
    let is = sym c.in-Some.is ∙ c.first_out_of_order.ensures in
    inr (order_first _ _ (out_of_order c.args.records.now c.args.uts46.now c.in-Some.record (sym is)), is)

pub returns-in-Some-first_fixed : goal.returns-in-Some-first_fixed
unfolding IsFirstAtFault
returns-in-Some-first_fixed c =
    let records = c.args.records.now in
    let uts46 = c.args.uts46.now in
    let rise = in_order records uts46 (sym c.first_out_of_order.ensures ∙ c.in_default.is) in
    let shown = c.in-Some-first_fixed.ensures in
    inr (fixed_first records uts46 rise.0 rise.1 ((IsShown-fixed records uts46).1 ((is_shown records uts46 Fixed _ shown).0 refl)), shown)

pub expanded_of_rising-requires-clause-rising : goal.expanded_of_rising-requires-clause-rising
expanded_of_rising-requires-clause-rising c =
    (in_order c.args.records.now c.args.uts46.now (sym c.first_out_of_order.ensures ∙ c.in_default.is)).0

pub expanded_of_rising-requires-clause-mapper : goal.expanded_of_rising-requires-clause-mapper
expanded_of_rising-requires-clause-mapper c =
    (in_order c.args.records.now c.args.uts46.now (sym c.first_out_of_order.ensures ∙ c.in_default.is)).1

pub expanded_of_rising-requires-clause-fixed : goal.expanded_of_rising-requires-clause-fixed
expanded_of_rising-requires-clause-fixed c =
    let records = c.args.records.now in
    let uts46 = c.args.uts46.now in
    elim (cases_Bool (has_fixed_fault records uts46)) [
      | inl fixed ↦ absurd (true≢false (sym ((is_shown records uts46 Fixed None c.in_default-first_fixed.ensures).1 ((IsShown-fixed records uts46).0 fixed))))
      | inr free ↦ free
    ]
