use Rattle.std.proofs.Common.{inr, refl}
use Rattle.icu_normalizer.specs.AnyNormalizers.{made_by_borrowed}
use Rattle.icu_normalizer_c.proofs.property.BoundaryLookUp.report.Goals as goal

pub returns : goal.returns
returns c =
    let n = c.in_ok-normalizer.normalizer in
    let boundary = c.has_boundary_before.ensures in
    inr (made_by_borrowed n, c.in_ok-normalizer.ensures, (refl, ((n, refl, boundary.exactly), boundary.apart)))
