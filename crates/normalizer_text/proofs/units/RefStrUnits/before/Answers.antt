use Rattle.normalizer_text.proofs.rules.StrLemmas.{IsCharBoundary-boundary}
use Rattle.normalizer_text.proofs.units.RefStrUnits.before.Goals as goal

pub range-requires-clause-end_boundary : goal.range-requires-clause-end_boundary
range-requires-clause-end_boundary c =
    IsCharBoundary-boundary c.args.self.now c.args.position c.utf8.self c.requires
