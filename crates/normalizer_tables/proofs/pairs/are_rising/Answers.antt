use Rattle.std.proofs.Common.{rules}
use Rattle.std.proofs.lemmas.List.Sorted.{answers_always}
use Rattle.normalizer_tables.proofs.composites.PairLemmas.{AreRising-decides}
use Rattle.normalizer_tables.specs.Pairs.{is_before}
use Rattle.normalizer_tables.proofs.pairs.are_rising.Goals as goal

pub returns : goal.returns
returns c = AreRising-decides _ _ (c.is_sorted_by.ensures.cases (λ p q. is_before p q.0 q.1) (answers_always _ _ _ (λ f a r f' k. search rules)))
