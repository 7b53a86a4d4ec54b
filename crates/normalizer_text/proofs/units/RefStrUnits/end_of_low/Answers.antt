use Rattle.std.proofs.Common.{◌+◌, ◌≤◌, length, drop, ap, subst, sym, ◌∙◌}
use Rattle.std.proofs.lemmas.Option.{IfSome_then}
use Rattle.normalizer_text.specs.Encodings.{Encoding}
use Rattle.normalizer_text.specs.Scans.{leading_below, EndsLowCharacters}
use Rattle.normalizer_text.proofs.scans.ScanLemmas.{EndsLowCharacters-text}
use Rattle.normalizer_text.proofs.rules.StrLemmas.{IsWellFormed-IsUtf8}
use Rattle.normalizer_text.proofs.steps.StepBoundaries.{boundary-le}
use Rattle.normalizer_text.proofs.units.RefStrUnits.end_of_low.Goals as goal

pub end_of_below-requires : goal.end_of_below-requires
end_of_below-requires c =
    subst (λ bytes. c.args.position ≤ length bytes) (sym c.as_bytes.ensures.value) (boundary-le Encoding.Utf8 c.args.self.now c.args.position c.requires)

pub returns-clause-low : goal.returns-clause-low
returns-clause-low c =
    let same =
    ap (λ l. c.args.position + leading_below l (drop c.args.position c.as_bytes.result.now)) c.from.ensures
    ∙ ap (λ bytes. c.args.position + leading_below c.args.bound.byte (drop c.args.position bytes)) c.as_bytes.ensures.value
    ∙ ap (λ l. c.args.position + leading_below l (drop c.args.position c.args.self.now)) c.args.bound.spelled in
    IfSome_then c.end_of_below.result c.end_of_below.ensures.end
    (λ end is. subst (EndsLowCharacters Encoding.Utf8 c.args.self.now c.args.position c.args.bound.number) (sym (is ∙ same))
    (EndsLowCharacters-text c.args.self.now (IsWellFormed-IsUtf8 c.args.self.now c.utf8.self) c.args.position c.args.bound.number c.requires))
