use Rattle.normalizer_iterators.proofs.composing.CompositionLemmas.{Steps-starter}
use Rattle.normalizer_iterators.proofs.passthrough.PassthroughItemLemmas.{IsAtPassthrough-stands}
use Rattle.normalizer_iterators.proofs.composition.Composition.next_item.Goals as goal

-- ---- there is a starter

pub returns-in-Some : goal.returns-in-Some
returns-in-Some g c =
    Steps-starter g.I.Iterator c.args.self.now c.compose_on.new.self _ c.compose_on.result c.compose_on.ensures c.in-Some.is

-- ---- there is a character that passes

pub pass-requires : goal.pass-requires
pass-requires g c =
    let s = c.args.self.now in
    record {
      can = c.requires;
      ahead = c.in_default.is;
      at_passed = IsAtPassthrough-stands s.bounds s.pairs.now s.decomposed s.suits (c.is_at_passthrough.ensures.0 c.if-is_at_passthrough.true);
    }
