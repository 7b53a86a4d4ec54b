use Rattle.std.proofs.Common.{arith}
use Rattle.normalizer_packing.proofs.constant_words.ConsecutiveRanges.{CoverUpTo-push, CoverUpTo-skip}
use Rattle.normalizer_packing.proofs.table_words.push_range.Goals as goal

pub returns-in_ok-push : goal.returns-in_ok-push
returns-in_ok-push g c = rw c.in_ok-push.ensures.items (λ so_far. CoverUpTo-push _ _ _ so_far c.args.end _ _ (omega arith) (omega arith) c.requires.within c.requires.alike c.word_of-word.ensures)

pub returns-else-word-ne0 : goal.returns-else-word-ne0
returns-else-word-ne0 g c = λ so_far. CoverUpTo-skip _ _ _ so_far c.args.end _ (omega arith) (omega arith) c.requires.alike c.word_of-word.ensures
