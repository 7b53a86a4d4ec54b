use Rattle.std.proofs.Common.{rules, sym, subst}
use Rattle.normalizer_records.specs.declared.records.BuildError.TheVariants.{Mapping}
use Rattle.normalizer_records.specs.RecordValue.{RecordValue, Uts46RecordValue}
use Rattle.normalizer_records.specs.AtFault.{IsFirstShowing, MapperShowsFault, ShowsFault}
use Rattle.normalizer_records.proofs.record_faults.FirstLemmas.{by_test}
use Rattle.normalizer_records.proofs.record_faults.ShownLemmas.{showing}
use Rattle.normalizer_records.proofs.faults.first_bad_mapping.Goals as goal

pub returns : goal.returns
unfolding ShowsFault MapperShowsFault
returns c =
    let records = c.args.records.now in
    let uts46 = c.args.uts46.now in
    subst (IsFirstShowing records uts46 Mapping) (sym c.first_of.ensures)
    (showing records uts46 Mapping _ _
    (by_test (λ (r : RecordValue). r.c) _ (ShowsFault records uts46 Mapping) (λ x b h. search rules) records _ c.first_with-character.ensures)
    (λ none. by_test (λ (r : Uts46RecordValue). r.c) _ (MapperShowsFault records uts46 Mapping) (λ x b h. search rules) uts46 _ c.first_with-mapped.ensures))
