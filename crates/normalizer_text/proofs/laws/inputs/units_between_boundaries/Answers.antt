use Rattle.normalizer_text.proofs.steps.StepBoundaries.{decoded-between}
use Rattle.normalizer_text.proofs.inputs.InputBoundaryLemmas.{well_formed-between}
use Rattle.normalizer_text.proofs.laws.inputs.units_between_boundaries.Goals as goal

pub returns : goal.returns
returns c = record {
  well_formed = well_formed-between;
  text = λ e units n m a b. decoded-between e units n m a.boundary b.boundary;
}
