use Rattle.std.proofs.Common.{ℕ, List, [], subst}
use Rattle.normalizer_tables.specs.declared.entry.Kind.TheVariants.{Canonical, Compatibility}
use Rattle.normalizer_packing.specs.Stored.{apart_from, canonical_lists, first_come, listed_in, supplementary_lists}
use Rattle.normalizer_packing.specs.inner.Stores.{Holds}
use Rattle.normalizer_packing.proofs.lists.TableLemmas.{apart_from-none}
use Rattle.normalizer_packing.proofs.stores.filled.Goals as goal

pub returns : goal.returns
unfolding canonical_lists supplementary_lists first_come apart_from
returns c =
    let canonical = listed_in c.args.entries.now Canonical in
    let first = subst (λ (l : List (List ℕ)). Holds l c.put_lists.new.store) (apart_from-none (first_come canonical)) (c.in_ok-put_lists.ensures [] [] c.new-nothing.ensures c.new-canonical.ensures) in
    let second = c.in_ok-put_lists-2.ensures canonical [] first c.new-supplementary.ensures in
    let third = c.in_ok-put_lists-3.ensures canonical (listed_in c.args.entries.now Compatibility) first second in
    record { canonical = first; supplementary = third }
