use Rattle.normalizer_packing.proofs.beside.BesideWords.{surrogate_beside}
use Rattle.normalizer_packing.proofs.packed_words.PackedWordsWords.word_of.Goals as goal

pub returns-in-None : goal.returns-in-None
returns-in-None c = surrogate_beside _ _ _ _ c.args.number c.requires.within c.in-None.ensures.cases
