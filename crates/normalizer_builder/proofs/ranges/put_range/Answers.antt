use Rattle.std.proofs.Common.{◌≡◌, ◌≤◌, ◌++◌, ℕ, List, subst, sym}
use Rattle.std.proofs.lemmas.Result.{on_ok_weaker}
use Rattle.normalizer_records.specs.Ranges.{Uts46RangeValue, entries_of}
use Rattle.normalizer_records.specs.RecordValue.{RecordValue, Uts46RecordValue}
use Rattle.normalizer_builder.specs.inner.Ranges.{IsSplit}
use Rattle.normalizer_builder.proofs.RangeSplits.{listed_split, whole_is, whole_split}
use Rattle.normalizer_builder.proofs.ranges.put_range.Goals as goal

pub returns-in_ok-push-in-Some : goal.returns-in_ok-push-in-Some
returns-in_ok-push-in-Some c = λ all end so_far later some.
    rw c.in_ok-push-in-Some.ensures.items
    (whole_split c.args.records.now c.args.range.now all _ _ end so_far later some c.in-Some.ends
    (whole_is c.args.records.now c.args.range.now c.in-Some.ends (sym c.in-Some.ensures)))

listed : (records : List RecordValue) (r : Uts46RangeValue) (old new : List Uts46RecordValue) (whole : List (ℕ × ℕ)) → new ≡ old ++ entries_of r →
    (all : List Uts46RecordValue) (end : ℕ) → IsSplit records all old whole end → end ≤ r.first → r.first ≤ r.end → IsSplit records (all ++ entries_of r) new whole r.end
listed records r old new whole pushed all end so_far later some =
    subst (λ (others : List Uts46RecordValue). IsSplit records (all ++ entries_of r) others whole r.end) (sym pushed) (listed_split records r all old whole end so_far later some)

pub returns-in-None : goal.returns-in-None
returns-in-None c = on_ok_weaker c.push_records.result (listed c.args.records.now c.args.range.now _ _ _) c.push_records.ensures
