use Rattle.std.proofs.Common.{ap, ◌∙◌}
use Rattle.normalizer_tables.specs.Table.{word_at}
use Rattle.icu_normalizer.proofs.property_data.ClassWords.{combining_class-word}
use Rattle.icu_normalizer.proofs.combining_class.CanonicalCombiningClassMapBorrowed.get32_u8.Goals as goal

pub returns : goal.returns
returns c =
    let word = c.get32.ensures.word ∙ ap (λ d. word_at d.table c.args.number) c.decompositions.view_is in
    c.class_of_word.ensures ∙ combining_class-word _ c.args.self.now.classes _ _ word (λ above. c.get32.ensures.past above ∙ ap (λ d. d.table.past) c.decompositions.view_is)
