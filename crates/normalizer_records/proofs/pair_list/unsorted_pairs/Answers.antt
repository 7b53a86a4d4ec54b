use Rattle.std.proofs.Common.{sym}
use Rattle.std.proofs.lemmas.List.{append-nil}
use Rattle.normalizer_records.specs.Meaning.{pair_of_record}
use Rattle.normalizer_tables.proofs.lists.MadeLists.{filter_map-take_more}
use Rattle.normalizer_records.proofs.pair_list.unsorted_pairs.Goals as goal
use Rattle.normalizer_records.proofs.pair_list.unsorted_pairs.Goals.{in-Some+in_ok-push, in_default}

pub loop-entry-preserved : goal.loop-entry-preserved
loop-entry-preserved c =
    let more = filter_map-take_more c.args.records.now c.loop-entry.entry-index c.entry-item.result c.loop-entry-test.true c.entry-item.is pair_of_record in
    let so_far = c.loop-entry.invariant in
    elim c.match-pair_of_record.branch [
      | in-Some+in_ok-push w ↦ let pushed = w.in_ok-push.ensures.items in rw (w.pairs-is, more, sym w.in-Some.ensures) cc
      | in_default w ↦ rw (w.pairs-is, more, sym w.in_default.ensures, append-nil) so_far
    ]
