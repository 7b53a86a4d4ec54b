use Rattle.normalizer_text.proofs.rules.StrLemmas.{IsCharBoundary-boundary}
use Rattle.normalizer_text.proofs.units.RefStrUnits.after.Goals as goal

pub range_from-requires : goal.range_from-requires
range_from-requires c =
    λ _. IsCharBoundary-boundary c.args.self.now c.args.position c.utf8.self c.requires
