use Rattle.std.proofs.Common.{◌≡◌, Err, inr, refl, rules}
use Rattle.std.specs.Prelude.{false}
use Rattle.normalizer_tables.specs.Owned.{characters_owned}
use Rattle.normalizer_check.proofs.conditions.LoadedLemmas.{parts_met}
use Rattle.icu_normalizer.specs.ComposingAcceptance.{SuitsComposing}
use Rattle.icu_normalizer.proofs.acceptance.NormalizerData.{ServesComposing-met, ServesDecomposing-met}
use Rattle.icu_normalizer.proofs.composing_normalizer.ComposingNormalizer.over.Goals as goal
use Rattle.icu_normalizer.proofs.composing_normalizer.ComposingNormalizer.over.Goals.{In_ok-check}

-- the data that were supplied meet the conditions
met : (c : In_ok-check) → SuitsComposing (characters_owned c.args.characters false, c.args.pairs)
met c = let h = c.in_ok-check.ensures.ok.0 refl in rw (c.composing_conditions.ensures, c.new-loaded.ensures, c.of_cap-bounds.ensures, c.cap.ensures, c.as_borrowed-borrowed.ensures) at h

pub invariant_of-decomposing : goal.invariant_of-decomposing
invariant_of-decomposing c = record { bounded = rw (c.of_cap-bounds.ensures, c.cap.ensures, c.as_borrowed-borrowed.ensures) refl; serves = ServesDecomposing-met _ refl (parts_met _ _ (met (goal.at.invariant_of-decomposing c).In_ok-check)).0 }

pub invariant_of-result : goal.invariant_of-result
invariant_of-result c = record { passing = rw c.as_borrowed-held.ensures at c.in-Ok.ensures; serves = ServesComposing-met _ _ refl (met (goal.at.invariant_of-result c).In_ok-check) }

pub returns-clause-ok : goal.returns-clause-ok
returns-clause-ok c = (refl, met (goal.at.returns-clause-ok c).In_ok-check)

pub returns-in_err-check-clause-err : goal.returns-in_err-check-clause-err
returns-in_err-check-clause-err c =
    let is : c.from_residual.result ≡ Err c.in_err-check.field-0.0 = search rules in
    let refused = rw c.in_err-check.was at c.check.ensures.err in
    rw is (inr (rw (c.composing_conditions.ensures, c.new-loaded.ensures, c.of_cap-bounds.ensures, c.cap.ensures, c.as_borrowed-borrowed.ensures) at refused))
