use Rattle.std.proofs.Common.{arith}
use Rattle.normalizer_text.specs.Encodings.{Encoding}
use Rattle.icu_normalizer.specs.RecordedForms.{recorded_form}
use Rattle.icu_normalizer.proofs.divided_texts.LineFeedBytes.{encoded-after}
use Rattle.icu_normalizer.proofs.divided_texts.LineFeedLemmas.{recorded_form-after}
use Rattle.icu_normalizer.proofs.parts.forms_of_parts.Goals as goal

pub returns-clause-text : goal.returns-clause-text
returns-clause-text c = λ records uts46 p builds none form. (
    recorded_form-after records none (c.what_is_built_suits_the_laws.ensures.suits records uts46 p builds) form)

pub returns-clause-bytes : goal.returns-clause-bytes
returns-clause-bytes c = λ records uts46 p builds none form. (
    let begins = c.step_begins_at_unit_that_cannot_trail.ensures Encoding.Utf8 in
    encoded-after begins (λ rest. c.low_units_begin_low_characters.ensures.ascii 0x0A rest (omega arith)) (recorded_form records form)
    (recorded_form-after records none (c.what_is_built_suits_the_laws.ensures.suits records uts46 p builds) form))
