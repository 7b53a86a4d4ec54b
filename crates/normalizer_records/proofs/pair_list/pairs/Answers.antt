use Rattle.std.proofs.Common.{List, rules, subst, IsPermutation}
use Rattle.std.proofs.lemmas.List.Sorted.{answers_always}
use Rattle.normalizer_tables.specs.Pairs.{Pair}
use Rattle.normalizer_records.proofs.record_faults.PairFaultLemmas.{rising_unless}
use Rattle.normalizer_records.proofs.pair_list.pairs.Goals as goal

pub returns : goal.returns
returns c =
    let same = subst (λ (y : List Pair). IsPermutation y c.sort_by_key.new.self.items) c.in_ok-pairs.ensures c.in_ok-sort_by_key.ensures.permutation in
    let sorted = c.in_ok-sort_by_key.ensures.sorted (λ p. (p.0, p.1)) (answers_always _ _ _ (λ f a r g h. search rules)) in
    record { same = same; sorted = sorted; rising = rising_unless c.args.records.now _ same sorted }
