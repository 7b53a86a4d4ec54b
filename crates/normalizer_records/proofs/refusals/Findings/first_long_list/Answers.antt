use Rattle.std.proofs.Common.{rules, sym, subst}
use Rattle.std.proofs.lemmas.Bool.Decides.{Decides-and}
use Rattle.normalizer_tables.specs.Entries.{EntryValue}
use Rattle.normalizer_records.specs.declared.records.BuildError.TheVariants.{Length}
use Rattle.normalizer_records.specs.AtFault.{IsFirstShowing}
use Rattle.normalizer_records.specs.Faults.{IsAsked}
use Rattle.normalizer_records.specs.inner.EntryFaults.{HasLongMapperList, HasLongOwnList}
use Rattle.normalizer_records.proofs.record_faults.FirstLemmas.{by_test}
use Rattle.normalizer_records.proofs.record_faults.EntryLemmas.{first_length}
use Rattle.normalizer_records.proofs.refusals.Findings.first_long_list.Goals as goal

pub returns : goal.returns
returns c =
    let f = c.args.self.now in
    let key = λ (e : EntryValue). e.character in
    subst (IsFirstShowing f.records f.uts46 Length) (sym c.first_of.ensures)
    (first_length f c.requires _ _
    (by_test key _ (λ e. HasLongOwnList e × IsAsked f.records f.uts46 e.character) (λ x b h. search (rules, Decides-and))
    f.entries.items _ (rw c.deref.ensures.value at c.first_with-own.ensures))
    (by_test key _ (λ e. HasLongMapperList e × IsAsked f.records f.uts46 e.character) (λ x b h. search (rules, Decides-and))
    f.entries.items _ (rw c.deref-2.ensures.value at c.first_with-mapped.ensures)))
