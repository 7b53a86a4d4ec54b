use Rattle.std.proofs.Common.{drop, sym, ap, subst, ◌∙◌}
use Rattle.std.proofs.lemmas.List.{take_rest}
use Rattle.normalizer_text.specs.DecodingSteps.{IsWellFormed}
use Rattle.normalizer_text.specs.Encodings.{Encoding}
use Rattle.normalizer_text.specs.Utf8.{first_of_utf8}
use Rattle.normalizer_text.proofs.rules.StrLemmas.{IsWellFormed-IsUtf8}
use Rattle.normalizer_text.proofs.steps.StepBoundaries.{well_formed-parts}
use Rattle.normalizer_text.proofs.units.RefStrUnits.byte_at.Goals as goal

pub byte_of_well_formed-requires-clause-well_formed : goal.byte_of_well_formed-requires-clause-well_formed
byte_of_well_formed-requires-clause-well_formed c =
    let rest = take_rest c.as_bytes.result.now c.args.position ∙ ap (drop c.args.position) c.as_bytes.ensures.value in
    subst (IsWellFormed first_of_utf8) (sym rest)
    (well_formed-parts Encoding.Utf8 c.args.self.now c.args.position c.requires.boundary (IsWellFormed-IsUtf8 c.args.self.now c.utf8.self)).1
