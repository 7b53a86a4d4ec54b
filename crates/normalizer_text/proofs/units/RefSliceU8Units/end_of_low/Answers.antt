use Rattle.std.proofs.Common.{arith}
use Rattle.std.proofs.lemmas.Option.{IfSome_then}
use Rattle.normalizer_text.specs.Encodings.{Encoding}
use Rattle.normalizer_text.proofs.scans.LowLemmas.{first-ascii}
use Rattle.normalizer_text.proofs.scans.ScanLemmas.{EndsLowCharacters-single}
use Rattle.normalizer_text.proofs.steps.StepBoundaries.{boundary-le}
use Rattle.normalizer_text.proofs.units.RefSliceU8Units.end_of_low.Goals as goal

pub end_of_below-requires : goal.end_of_below-requires
end_of_below-requires c = boundary-le Encoding.Utf8 c.args.self.now c.args.position c.requires

pub returns-clause-low : goal.returns-clause-low
returns-clause-low c = IfSome_then c.end_of_below.result c.end_of_below.ensures.end
    (EndsLowCharacters-single Encoding.Utf8 c.args.bound.number c.args.self.now c.args.position c.requires _ (omega (arith, c.min.ensures))
    (λ u us l. first-ascii u us (omega (arith, c.min.ensures))))
