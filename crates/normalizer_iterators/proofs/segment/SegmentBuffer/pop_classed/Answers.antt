use Rattle.std.proofs.Common.{◌∷◌, ◌++◌, sym, ap, ◌∙◌}
use Rattle.std.specs.Prelude.{option_to_list}
use Rattle.normalizer_iterators.specs.Segment.{characters_left}
use Rattle.normalizer_iterators.specs.WaitingList.{ordered_text}
use Rattle.normalizer_iterators.proofs.segment.SegmentBuffer.pop_classed.Goals as goal

pub returns-in-Some-clause-some : goal.returns-in-Some-clause-some
unfolding characters_left
returns-in-Some-clause-some c = ap (λ o. option_to_list o ++ ordered_text c.args.self.now.waiting) c.in-Some.is

pub returns-in-None-clause-none : goal.returns-in-None-clause-none
unfolding characters_left
returns-in-None-clause-none c =
    ap (λ o. option_to_list o ++ ordered_text c.args.self.now.waiting) c.in_default.is ∙ c.in-None.ensures.none.0

pub returns-in-Some-pop_front-clause-some : goal.returns-in-Some-pop_front-clause-some
unfolding characters_left
returns-in-Some-pop_front-clause-some c =
    let given = c.in-Some-pop_front.given.character in
    ap (λ o. option_to_list o ++ ordered_text c.args.self.now.waiting) c.in_default.is ∙ c.in-Some-pop_front.ensures.some
    ∙ sym (ap (λ o. given ∷ (option_to_list o ++ ordered_text c.pop_front.new.self)) c.in_default.is)
