use Rattle.normalizer_tables.specs.Characters.{has_class_form}
use Rattle.normalizer_tables.specs.declared.characters.IgnoredCharacters.TheVariants.{Dropped}
use Rattle.normalizer_text.specs.Encodings.{decoded_in}
use Rattle.normalizer_iterators.proofs.composing.ComposingLemmas.{HasShortRuns-reading_by}
use Rattle.normalizer_calls.proofs.segments.LeftLemmas.{HoldsForm-composing}
use Rattle.normalizer_calls.proofs.composing.ComposingFormForming.what_is_buffered_is_the_form.Goals as goal

pub returns-clause-form : goal.returns-clause-form
returns-clause-form c = HoldsForm-composing _ _ c.args.self.now.serves.laws.laws.1

pub returns-clause-short : goal.returns-clause-short
returns-clause-short c = λ e units short.
    let f = c.args.self.now in
    (f.serves.reading, HasShortRuns-reading_by (has_class_form f.characters) f.characters Dropped f.pairs.now (decoded_in e units) short)
