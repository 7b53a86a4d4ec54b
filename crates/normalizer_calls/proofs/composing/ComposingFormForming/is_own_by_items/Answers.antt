use Rattle.std.proofs.Common.{subst}
use Rattle.normal_forms.specs.Forms.{normal_form}
use Rattle.normalizer_text.specs.DecodingSteps.{Spells}
use Rattle.normalizer_calls.specs.Utf32.{TakesUnit}
use Rattle.normalizer_calls.proofs.results.Utf32Lemmas.{decoded_utf32-characters}
use Rattle.normalizer_calls.proofs.composing.ComposingFormForming.is_own_by_items.Goals as goal

pub returns-clause-own : goal.returns-clause-own
unfolding normal_form
returns-clause-own c =
    let spells = subst (Spells TakesUnit c.new.result) (decoded_utf32-characters c.args.units.now c.requires) c.new.ensures.spells in
    (c.yields.ensures.same _ (c.in_ok-items.ensures.form.text _ spells)).0
