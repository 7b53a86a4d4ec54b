use Rattle.std.proofs.Common.{◌++◌, List, ℕ, arith, subst, sym, append_assoc}
use Rattle.std.proofs.lemmas.List.{append-nil}
use Rattle.normalizer_tables.specs.Entries.{class_in}
use Rattle.normalizer_packing.specs.Stored.{apart_from, first_come, listed_of}
use Rattle.normalizer_packing.specs.inner.Stores.{Holds}
use Rattle.normalizer_packing.proofs.lists.StoreLemmas.{HoldsLists-more, HoldsLists-there, listed_so_far, listed_so_far-all, listed_so_far-none}
use Rattle.normalizer_packing.proofs.spellings.KeptSpellings.{made_more}
use Rattle.normalizer_packing.proofs.store.put_lists.Goals as goal
use Rattle.normalizer_packing.proofs.store.put_lists.Goals.{in-Some+then-is_none+in_ok-put, in-Some+else-is_none, in_default}

pub loop-place-init : goal.loop-place-init
loop-place-init c = λ before lists first h. rw (listed_so_far-none c.args.kind c.args.entries.now, append-nil lists) h

pub loop-place-preserved : goal.loop-place-preserved
unfolding listed_so_far
loop-place-preserved c = λ before lists first h.
    let class = class_in c.args.entries.now in
    let so_far = c.loop-place.invariant before lists first h in
    let more = made_more c.args.entries.now c.loop-place.place c.at.result.0.now c.at.ensures.entry (listed_of class c.args.kind) in
    let own = c.at.ensures.spellings in
    elim c.match-listed_of.branch [
      | in-Some+then-is_none+in_ok-put w ↦
          rw (w.store-is, more, sym (w.in-Some.ensures class own), ← append_assoc) (HoldsLists-more before _ _ _ _ first so_far _ (grind arith) w.in_ok-put.ensures)
      | in-Some+else-is_none w ↦ rw (w.store-is, more, sym (w.in-Some.ensures class own), ← append_assoc) (HoldsLists-there before _ _ _ _ first so_far (grind arith))
      | in_default w ↦ rw (w.store-is, more, sym (w.in_default.ensures class own), append-nil) so_far
    ]

pub returns : goal.returns
returns c = λ before lists first h.
    let all = listed_so_far-all c.args.kind c.args.entries.now c.loop-place.place (omega (arith, c.loop-place-test.false, c.len-place-end.ensures)) in
    subst (λ (l : List (List ℕ)). Holds (apart_from before (first_come (lists ++ l))) c.loop-place.store) all (c.loop-place.invariant before lists first h)
