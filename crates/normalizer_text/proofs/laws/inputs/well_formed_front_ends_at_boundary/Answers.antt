use Rattle.normalizer_text.proofs.inputs.InputBoundaryLemmas.{boundary_of_front, front_of_boundary}
use Rattle.normalizer_text.proofs.laws.inputs.well_formed_front_ends_at_boundary.Goals as goal

pub returns : goal.returns
returns c = λ e units n. (λ front. boundary_of_front e units n front.0 front.1, front_of_boundary e units n)
