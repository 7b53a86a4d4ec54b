use Rattle.std.proofs.Common.{◌≡◌, ◌-◌, ℕ, suc, subst, IsTrue, ◌↔◌, arith}
use Rattle.std.specs.BTreeSet.{contains}
use Rattle.std.specs.Ordering.{nat_cmp}
use Rattle.normalizer_records.specs.inner.Chains.{IsBetween, IsSetOf, LeadsOn}
use Rattle.normalizer_records.proofs.replacing.ChainLemmas.{IsSetOf-recorded, IsBetween-zero, IsBetween-more, LeadsOn-more, IsLedTo-more}
use Rattle.normalizer_records.proofs.chains.+leading_on.Goals as goal

pub returns-then-count-eq0-clause-leading : goal.returns-then-count-eq0-clause-leading
unfolding LeadsOn
returns-then-count-eq0-clause-leading t c = rw c.if-count-eq0.true (IsSetOf-recorded c.args.records.now _ c.in_ok-leading.ensures)

pub returns-then-count-eq0-clause-between : goal.returns-then-count-eq0-clause-between
unfolding LeadsOn
returns-then-count-eq0-clause-between t c = λ k led x.
    rw c.if-count-eq0.true (IsBetween-zero c.args.records.now _ k _ _ led x _ _ (c.in_ok-add_common.ensures x) (IsSetOf-recorded c.args.records.now _ c.in_ok-leading.ensures) (λ h. h, λ h. h))

pub returns-clause-leading : goal.returns-clause-leading
returns-clause-leading t c =
    let more : suc (c.args.count - 1) ≡ c.args.count = omega arith in
    subst (λ (n : ℕ). IsSetOf (LeadsOn c.args.records.now n) c.in_ok-leading-2.leading) more
    (LeadsOn-more c.args.records.now c.requires (c.args.count - 1) _ _ c.in_ok-shorter.ensures.leading c.in_ok-leading-2.ensures)

pub returns-clause-between : goal.returns-clause-between
returns-clause-between t c = λ k led x.
    let more : suc (c.args.count - 1) ≡ c.args.count = omega arith in
    let records = c.args.records.now in
    subst (λ (n : ℕ). IsTrue (contains nat_cmp c.add_common-2.new.found x) ↔ IsBetween records (IsTrue (contains nat_cmp c.args.found.now x)) n k x) more
    (IsBetween-more records _ k _ _ led x _ _ (c.in_ok-add_common-2.ensures x) (c.args.count - 1)
    (LeadsOn-more records c.requires (c.args.count - 1) _ _ c.in_ok-shorter.ensures.leading c.in_ok-leading-2.ensures)
    (c.in_ok-shorter.ensures.between (suc k) (IsLedTo-more records k _ _ led c.in_ok-next.ensures) x))
