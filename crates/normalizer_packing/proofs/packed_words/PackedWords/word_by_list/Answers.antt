use Rattle.std.proofs.Common.{refl}
use Rattle.normalizer_packing.proofs.lists.ListPlaces.{length_of_listed}
use Rattle.normalizer_packing.proofs.words_of_lists.SpelledWords.{listed_lent}
use Rattle.normalizer_packing.proofs.packed_words.PackedWords.word_by_list.Goals as goal

pub item_of-requires-clause-listed : goal.item_of-requires-clause-listed
item_of-requires-clause-listed c = listed_lent _ _ _ _ _ _ c.unwrap_or-list.ensures refl (rw c.by_character-entries.ensures at c.list_of.ensures) c.in-Listed.ensures.line

pub pointing_word-word-requires-clause-length : goal.pointing_word-word-requires-clause-length
pointing_word-word-requires-clause-length c =
    length_of_listed _ _ c.requires _ c.unwrap_or-list.result.now
    (listed_lent _ _ _ _ _ _ c.unwrap_or-list.ensures refl (rw c.by_character-entries.ensures at c.list_of.ensures) c.in-Listed.ensures.line)
