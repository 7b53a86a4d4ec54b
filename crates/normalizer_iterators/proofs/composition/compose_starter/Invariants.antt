use Rattle.normalizer_iterators.specs.DecompositionItems as decomposition
use Rattle.normalizer_iterators.proofs.composing.StarterLemmas.{ComposedSoFar}
use Rattle.normalizer_tables.specs.Readings.{reading_by}
use Rattle.normalizer_tables.specs.declared.characters.IgnoredCharacters.TheVariants.{Dropped}
use Rattle.normalizer_iterators.specs.WaitingList.{ordered_text}
use Rattle.normalizer_iterators.proofs.composition.compose_starter.Given as goal

abbrev pub invariant-loop-bounds : goal.invariant-loop-bounds
invariant-loop-bounds g l =
    ComposedSoFar g.I.Iterator (reading_by l.fn.decomposed.characters Dropped l.pairs)
    l.fn.starter l.fn.decomposed l.composite (ordered_text l.decomposed.waiting) l.decomposed

abbrev pub decreases-loop-bounds : goal.decreases-loop-bounds
decreases-loop-bounds g l = decomposition.items_left g.I.Iterator.remaining l.decomposed
