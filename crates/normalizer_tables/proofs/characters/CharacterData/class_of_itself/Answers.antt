use Rattle.std.proofs.Common.{◌≡◌, true, refl, sym, subst, ◌∙◌}
use Rattle.normalizer_tables.specs.Characters.{class_of_itself, word_of}
use Rattle.normalizer_tables.specs.Words.{is_plain}
use Rattle.normalizer_tables.proofs.conditions.ConditionLemmas.{class_of-plain, reading-plain}
use Rattle.normalizer_tables.proofs.words.PlainCharacters.{list_of-plain_word}
use Rattle.normalizer_tables.proofs.characters.CharacterData.class_of_itself.Goals as goal

pub returns-then-is_plain-clause-reading : goal.returns-then-is_plain-clause-reading
unfolding class_of_itself
returns-then-is_plain-clause-reading c =
    let plain : is_plain (word_of c.args.self.now c.args.character) ≡ true = subst (λ w. is_plain w ≡ true) c.requires (sym c.is_plain.ensures ∙ c.if-is_plain.true) in
    rw (reading-plain c.args.self.now c.args.character plain) refl

pub returns-then-is_plain-clause-itself : goal.returns-then-is_plain-clause-itself
returns-then-is_plain-clause-itself c =
    let plain : is_plain (word_of c.args.self.now c.args.character) ≡ true = subst (λ w. is_plain w ≡ true) c.requires (sym c.is_plain.ensures ∙ c.if-is_plain.true) in
    λ ignored. list_of-plain_word c.args.self.now ignored c.args.character c.ranges.character.0 plain

pub returns-then-is_plain-clause-class : goal.returns-then-is_plain-clause-class
returns-then-is_plain-clause-class c =
    let plain : is_plain (word_of c.args.self.now c.args.character) ≡ true = subst (λ w. is_plain w ≡ true) c.requires (sym c.is_plain.ensures ∙ c.if-is_plain.true) in
    sym (class_of-plain c.args.self.now c.args.character c.ranges.character.0 plain)
