use Rattle.normalizer_iterators.proofs.composing.ComposingLemmas.{lists-compose}
use Rattle.normalizer_iterators.proofs.composition.Composition.compose.Goals as goal

pub returns-clause-lists : goal.returns-clause-lists
returns-clause-lists g c =
    let s = c.args.self.now in
    λ ignored pairs. lists-compose s.decomposed.characters s.pairs.now ignored (s.suits.hangul ignored) pairs c.args.starter c.args.second c.compose.result c.compose.ensures
