use Rattle.std.proofs.Common.{arith}
use Rattle.normalizer_tables.specs.Table.{code_points}
use Rattle.normalizer_packing.proofs.words_of_lists.SpelledWords.{other_word}
use Rattle.normalizer_packing.proofs.packed_words.PackedWords.word_of_character.Goals as goal

pub returns-in-Some : goal.returns-in-Some
unfolding code_points
returns-in-Some c =
    let packed = rw c.in-Some.is at c.requires.other in
    other_word _ _ _ _ _ _ (rw c.by_character-entries.ensures at (c.have_one_list.ensures c.if-have_one_list.true)) (rw c.get.ensures (packed.words c.args.character (omega arith)))
