use Rattle.std.proofs.Common.{sym}
use Rattle.std.proofs.lemmas.Bool.{true≢false}
use Rattle.normalizer_records.specs.inner.Chains.{IsLedTo}
use Rattle.normalizer_records.proofs.checked_lists.OrLemmas.{iff_trans}
use Rattle.normalizer_records.proofs.replacing.ChainLemmas.{IsSetOf-recorded, IsBetween-iff_on_long_chain}
use Rattle.normalizer_records.proofs.chains.on_long_chains.Goals as goal

pub returns : goal.returns
unfolding IsLedTo
returns c = λ x.
    iff_trans _ _ _ (c.in_ok-leading_on.ensures.between 0 (IsSetOf-recorded c.args.records.now _ c.in_ok-recorded.ensures) x)
    (IsBetween-iff_on_long_chain c.args.records.now _ (λ h. let none = c.new-found.ensures.empty in let never = rw none at h in true≢false (sym never)) x)
