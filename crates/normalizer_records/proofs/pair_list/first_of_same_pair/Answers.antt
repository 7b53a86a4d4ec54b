use Rattle.std.proofs.Common.{rules, sym, subst, IsSomeAnd}
use Rattle.normalizer_records.specs.declared.records.BuildError.TheVariants.{Pair}
use Rattle.normalizer_records.specs.RecordValue.{RecordValue}
use Rattle.normalizer_records.specs.Meaning.{pair_of_record}
use Rattle.normalizer_records.specs.AtFault.{IsCharacterOfFirst, IsFirstShowing, IsTwice, MapperShowsFault, ShowsFault}
use Rattle.normalizer_records.proofs.record_faults.FirstLemmas.{alike, by_test}
use Rattle.normalizer_records.proofs.record_faults.PairFaultLemmas.{twice_sorted}
use Rattle.normalizer_records.proofs.record_faults.ShownLemmas.{showing}
use Rattle.normalizer_records.proofs.pair_list.first_of_same_pair.Goals as goal

pub returns : goal.returns
unfolding IsCharacterOfFirst ShowsFault MapperShowsFault
returns c = λ uts46.
    let records = c.args.records.now in
    let of_record = λ (r : RecordValue). r.c in
    let Sorted = λ (r : RecordValue). IsSomeAnd (pair_of_record r) (IsTwice c.args.pairs.now) in
    let twice = twice_sorted records c.args.pairs.now c.requires.same in
    subst (IsFirstShowing records uts46 Pair) (sym c.first_of.ensures)
    (showing records uts46 Pair _ _
    (alike of_record Sorted (ShowsFault records uts46 Pair) records (λ k d lt. twice (pair_of_record _)) _
    (by_test of_record _ Sorted (λ x b h. search rules) records _ c.first_with.ensures))
    (λ none k d lt never. never))
