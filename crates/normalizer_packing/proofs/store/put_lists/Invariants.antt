use Rattle.normalizer_packing.specs.inner.Stores.{HoldsLists}
use Rattle.normalizer_packing.proofs.lists.StoreLemmas.{listed_so_far}
use Rattle.normalizer_packing.proofs.store.put_lists.Given as goal

-- the lists of the entries so far are held
abbrev pub invariant-loop-place : goal.invariant-loop-place
invariant-loop-place l = HoldsLists l.before l.initial.store (listed_so_far l.kind l.entries l.place) l.store
