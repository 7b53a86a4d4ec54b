-- Pairs in the order of their second characters, then of their first.
use Rattle.std.proofs.Common.{Ordering, nat_cmp}
use Rattle.std.specs.Ordering.{ordering_then}
use Rattle.normalizer_tables.specs.Pairs.{Pair}

abbrev pub by_second_and_first : Pair → Pair → Ordering
by_second_and_first p q = ordering_then (nat_cmp p.0 q.0) (nat_cmp p.1 q.1)
