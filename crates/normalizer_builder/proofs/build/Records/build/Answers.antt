use Rattle.std.proofs.Common.{rules, ◌≡◌, Err}
use Rattle.normalizer_builder.proofs.BuiltMeaning.{Builds-packed}
use Rattle.normalizer_builder.proofs.NoRefusal.{rising}
use Rattle.normalizer_builder.proofs.OneAnswer.{IsSmallest-refusal}
use Rattle.normalizer_builder.proofs.build.Records.build.Goals as goal

pub returns-in_err-expanded : goal.returns-in_err-expanded
returns-in_err-expanded c =
    let is : c.from_residual.result ≡ Err c.in_err-expanded.field-0.0.error = search rules in
    rw is (IsSmallest-refusal c.args.records.now c.args.uts46.now c.in_err-expanded.field-0.0 c.in_err-expanded.ensures)

pub first_unmet-requires : goal.first_unmet-requires
first_unmet-requires c = rising c.args.records.now c.args.uts46.now c.in_ok-expanded.ensures.unrefused

pub returns-in-None : goal.returns-in-None
returns-in-None c =
    Builds-packed c.args.records.now c.args.uts46.now c.in_ok-expanded.ensures.unrefused c.in_ok-packed.packed c.in_ok-packed.ensures.packs c.in_ok-packed.ensures.characters c.in-None.ensures
