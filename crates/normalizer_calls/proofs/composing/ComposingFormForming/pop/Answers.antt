use Rattle.std.proofs.Common.{refl}
use Rattle.normalizer_tables.specs.Readings.{reading_by}
use Rattle.normalizer_tables.specs.declared.characters.IgnoredCharacters.TheVariants.{Dropped}
use Rattle.normalizer_iterators.specs.Segment.{characters_left}
use Rattle.normalizer_calls.specs.inner.FormsLeft.{form_of_ordered}
use Rattle.normalizer_calls.proofs.segments.LeftLemmas.{IfNone-composed, IfSome-weaker}
use Rattle.normalizer_calls.proofs.composing.ComposingFormForming.pop.Goals as goal

pub returns-clause-some : goal.returns-clause-some
unfolding form_of_ordered
returns-clause-some c = λ agrees.
    let f = c.args.self.now in
    let d = reading_by f.characters Dropped f.pairs.now in
    IfSome-weaker c.pop_composed.result _ _ (λ x composed. composed d (λ a b. refl) agrees) c.pop_composed.ensures.some

pub returns-clause-none : goal.returns-clause-none
unfolding form_of_ordered
returns-clause-none c =
    let f = c.args.self.now in
    IfNone-composed c.pop_composed.result (reading_by f.characters Dropped f.pairs.now) (characters_left c.args.buffer.now) c.pop_composed.ensures.none
