use Rattle.std.proofs.Common.{◌∷◌, ◌++◌, arith, sym, ap, ◌∙◌}
use Rattle.std.specs.Prelude.{option_to_list}
use Rattle.normal_forms.specs.CompositionByStarters.{compose_by_starters}
use Rattle.normal_forms.proofs.composing.ComposeLemmas.{compose_by_starters-mark}
use Rattle.normalizer_iterators.specs.Segment.{characters_left}
use Rattle.normalizer_iterators.specs.WaitingList.{ordered_text}
use Rattle.normalizer_iterators.proofs.segments.BufferedSegments.{composed-starter}
use Rattle.normalizer_iterators.proofs.segment.SegmentBuffer.pop_composed.Goals as goal

pub returns-then-given-eq0-clause-some : goal.returns-then-given-eq0-clause-some
unfolding characters_left
returns-then-given-eq0-clause-some c = λ d same agrees.
    let popped = c.pop_classed.new.self in
    let given = c.in_ok-given.given in
    let taken = c.in_ok-given.ensures.taken in
    let starter = sym (c.in_ok-given.ensures.class d agrees) ∙ c.if-given-eq0.true in
    let composed = composed-starter d c.args.pairs.now given.character c.compose.result popped.waiting c.compose.new.self same starter (c.in_ok-given.ensures.agrees d agrees).classes c.compose.ensures.text in
    ap (compose_by_starters d) c.in_ok-given.ensures.some
    ∙ ap (λ o. compose_by_starters d (given.character ∷ (option_to_list o ++ ordered_text popped.waiting))) taken ∙ composed
    ∙ sym (ap (λ o. c.compose.result ∷ compose_by_starters d (option_to_list o ++ ordered_text c.compose.new.self)) taken)

pub returns-clause-some : goal.returns-clause-some
returns-clause-some c = λ d same agrees.
    let left = characters_left c.pop_classed.new.self in
    let class = c.in_ok-given.ensures.class d agrees in
    ap (compose_by_starters d) c.in_ok-given.ensures.some
    ∙ compose_by_starters-mark d c.in_ok-given.given.character left (omega (arith, class, c.if-given-eq0.false))
