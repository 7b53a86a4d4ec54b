use Rattle.std.proofs.Common.{sym, ap, ◌∙◌, subst}
use Rattle.normalizer_tables.specs.Characters.{class_of}
use Rattle.normalizer_tables.specs.Readings.{reading_by}
use Rattle.normalizer_tables.specs.declared.characters.IgnoredCharacters.TheVariants.{Dropped}
use Rattle.normal_forms.specs.Boundary.{BeginsAtBoundary}
use Rattle.normalizer_iterators.specs.LazyComposing.{SuitsLazyComposing}
use Rattle.normalizer_iterators.proofs.passthrough.PassthroughItemLemmas.{IsAtPassthrough-stands, BeginsAtBoundary-to_come}
use Rattle.normalizer_iterators.proofs.composing.StarterLemmas.{ComposedSoFar-none, ComposedSoFar-joined, ComposedSoFar-buffered, ComposesStarter-buffered, ComposesStarter-starts, ComposesStarter-ends, ComposesStarter-passes}
use Rattle.normalizer_iterators.proofs.composition.compose_starter.Goals as goal

pub loop-bounds-init : goal.loop-bounds-init
loop-bounds-init g c =
    let made = c.compose_buffered-composite.ensures in
    ComposedSoFar-buffered g.I.Iterator c.args.pairs.now _ _ _ _ _ _ (ComposedSoFar-none g.I.Iterator _ _ _ c.requires.can) made.text made.fewer made.kept made.unread

pub returns-then-is_at_passthrough-clause-ok : goal.returns-then-is_at_passthrough-clause-ok
returns-then-is_at_passthrough-clause-ok g c =
    let before = c.loop-bounds.invariant in
    let same = before.kept in
    let suits = subst (λ k. SuitsLazyComposing k c.args.bounds c.args.pairs.now) (sym same) c.requires.suits in
    let here = IsAtPassthrough-stands c.args.bounds c.args.pairs.now c.loop-bounds.decomposed suits (c.is_at_passthrough.ensures.0 c.if-is_at_passthrough.true) in
    ComposesStarter-passes g.I.Iterator _ _ _ _ _ before (c.is_empty.ensures.0 c.loop-bounds-test.true)
    (λ Comes y h. subst (λ k. BeginsAtBoundary (reading_by k Dropped c.args.pairs.now) y) same
    (BeginsAtBoundary-to_come g.I.Iterator c.args.pairs.now c.loop-bounds.decomposed here Comes y h))

pub returns-in_default-clause-ok : goal.returns-in_default-clause-ok
returns-in_default-clause-ok g c =
    ComposesStarter-ends g.I.Iterator _ _ _ _ _ c.loop-bounds.invariant (c.is_empty.ensures.0 c.loop-bounds-test.true) _ c.in_default.ensures.steps

pub returns-in-Err-clause-err : goal.returns-in-Err-clause-err
returns-in-Err-clause-err g c =
    let step = rw c.in-Err.is at c.in-Some.ensures.steps in
    (step.item.fault, λ h. cc (step.item.room (c.loop-bounds.invariant.short h)).0, c.loop-bounds.invariant.long step.long)

pub returns-in_default-compose-clause-ok : goal.returns-in_default-compose-clause-ok
returns-in_default-compose-clause-ok g c =
    let before = c.loop-bounds.invariant in
    let none = c.is_empty.ensures.0 c.loop-bounds-test.true in
    let step = rw c.in-Ok.is at c.in-Some.ensures.steps in
    let class = rw c.in-Ok.is at c.in-Some.ensures.class in
    let starter = rw c.in-Ok.is at c.in-Some.ensures.starter none in
    ComposesStarter-starts g.I.Iterator _ _ _ _ _ before none c.in-Ok.given.character _ step (sym c.compose.ensures ∙ c.in_default-compose.is)
    (ap (λ k. class_of k c.in-Ok.given.character) (sym before.kept) ∙ sym class ∙ starter)

pub loop-bounds-preserved : goal.loop-bounds-preserved
loop-bounds-preserved g c =
    let before = c.loop-bounds.invariant in
    let none = c.is_empty.ensures.0 c.loop-bounds-test.true in
    let step = rw c.in-Ok.is at c.in-Some.ensures.steps in
    let made = c.compose_buffered-composite-in-loop-bounds.ensures in
    ComposedSoFar-buffered g.I.Iterator c.args.pairs.now _ _ _ _ _ _
    (ComposedSoFar-joined g.I.Iterator _ _ _ _ _ before none c.in-Ok.given.character _ _ step (sym c.compose.ensures ∙ c.in-Some-compose.is)) made.text made.fewer made.kept made.unread

pub returns-clause-ok : goal.returns-clause-ok
returns-clause-ok g c =
    ComposesStarter-buffered g.I.Iterator _ _ _ _ _ c.loop-bounds.invariant (λ none. cc (c.is_empty.ensures.1 none, c.loop-bounds-test.false))
