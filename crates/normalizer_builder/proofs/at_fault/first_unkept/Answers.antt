use Rattle.std.proofs.Common.{rules, get_or}
use Rattle.std.proofs.lemmas.Bool.Decides.{Decides-not}
use Rattle.std.proofs.lemmas.List.{get_or_default}
use Rattle.normalizer_records.specs.RecordValue.{RecordValue}
use Rattle.normalizer_records.proofs.record_faults.FirstLemmas.{alike, by_test}
use Rattle.normalizer_builder.specs.Demands.{KeepsMapping}
use Rattle.normalizer_builder.specs.inner.Parts.{KeepsRecord}
use Rattle.normalizer_builder.proofs.FirstUnmet.{keeps_record}
use Rattle.normalizer_builder.proofs.at_fault.first_unkept.Goals as goal

pub returns : goal.returns
returns c =
    let records = c.args.records.now in
    let packed = c.args.packed.now in
    alike (λ r. r.c) (λ (r : RecordValue). ¬ KeepsRecord packed r) (λ r. ¬ KeepsMapping records packed r.c) records
    (λ k d lt. let kept = keeps_record records packed c.requires k (get_or records k d) (get_or_default records k d (get_or records k d) lt) lt in
    (λ not_kept keeps. not_kept (kept.1 keeps), λ not_kept keeps. not_kept (kept.0 keeps)))
    _ (by_test (λ (r : RecordValue). r.c) _ (λ r. ¬ KeepsRecord packed r) (λ x b h. search (rules, Decides-not)) records _ c.first_with.ensures)
