use Rattle.std.proofs.Common.{rules, sym, subst}
use Rattle.normalizer_records.specs.declared.records.BuildError.TheVariants.{Chain}
use Rattle.normalizer_records.specs.RecordValue.{RecordValue}
use Rattle.normalizer_records.specs.AtFault.{IsCharacterOfFirst, IsFirstShowing, MapperShowsFault, ShowsFault}
use Rattle.normalizer_records.proofs.record_faults.FirstLemmas.{by_test}
use Rattle.normalizer_records.proofs.record_faults.ShownLemmas.{showing}
use Rattle.normalizer_records.proofs.refusals.Findings.first_on_long_chain.Goals as goal

pub returns : goal.returns
unfolding IsCharacterOfFirst ShowsFault MapperShowsFault
returns c =
    let f = c.args.self.now in
    subst (IsFirstShowing f.records f.uts46 Chain) (sym c.first_of.ensures)
    (showing f.records f.uts46 Chain _ _
    (by_test (λ (r : RecordValue). r.c) _ (ShowsFault f.records f.uts46 Chain) (λ x b h. search (rules, c.requires.chains))
    f.records _ (rw c.as_slice-records.ensures at c.first_with.ensures))
    (λ none k d lt never. never))
