use Rattle.std.proofs.Common.{ap, sym}
use Rattle.normalizer_tables.specs.Data.{Decompositions}
use Rattle.normalizer_packing.proofs.beside.BesideWords.{ArePacked-shared}
use Rattle.normalizer_packing.proofs.packing.kinds_of.Goals as goal

pub data_of-requires-2-clause-other : goal.data_of-requires-2-clause-other
data_of-requires-2-clause-other c =
    let same = c.with-compatibility_words.ensures.sources in
    rw (same.entries_are, same.pairs_are) (ArePacked-shared _ _ _ _ c.in_ok-canonical.canonical _ _ c.new-canonical_words.ensures.replaced
    (sym (ap (λ (d : Decompositions). d.table) c.canonical.view_is)) c.with-compatibility_words.ensures.other c.in_ok-canonical.ensures)

pub data_of-requires-3-clause-other : goal.data_of-requires-3-clause-other
data_of-requires-3-clause-other c =
    let same = c.with-mapper_words.ensures.sources in
    rw (same.entries_are, same.pairs_are) (ArePacked-shared _ _ _ _ c.in_ok-canonical.canonical _ _ c.new-canonical_words.ensures.replaced
    (sym (ap (λ (d : Decompositions). d.table) c.canonical.view_is)) c.with-mapper_words.ensures.other c.in_ok-canonical.ensures)

pub data_of-requires-3-clause-ends : goal.data_of-requires-3-clause-ends
data_of-requires-3-clause-ends c = rw c.with-mapper_words.ensures.replaced c.requires.ends
