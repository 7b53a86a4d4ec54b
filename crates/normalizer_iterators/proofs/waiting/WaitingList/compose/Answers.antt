use Rattle.std.proofs.Common.{◌<◌, sym, ◌∙◌, arith}
use Rattle.normalizer_iterators.proofs.composing.InPlaceLemmas.{ComposedTo-none, ComposedTo-joined, ComposedTo-stays, ComposesInPlace-starter, ComposesInPlace-all, fewer_in_order}
use Rattle.normalizer_iterators.specs.WaitingList.{text_before}
use Rattle.normalizer_iterators.proofs.waiting.WaitingList.compose.Goals as goal
use Rattle.normalizer_iterators.proofs.waiting.WaitingList.compose.Goals.{in-Some, in_default+else-given-eq0}

pub loop-place-init : goal.loop-place-init
loop-place-init c = ComposedTo-none c.args.pairs.now c.args.starter c.args.self.now

pub get-given-requires : goal.get-given-requires
get-given-requires c = omega (arith, c.loop-place.invariant.run)

pub loop-place-preserved : goal.loop-place-preserved
loop-place-preserved c =
    let pairs = c.args.pairs.now in
    let first = c.args.self.now in
    let now = c.loop-place.self in
    let before = c.loop-place.invariant in
    let given = c.get-given.result in
    let inside : c.loop-place.place < now.run = omega (arith, before.run) in
    elim c.match-join.branch [
      | in-Some w ↦
          rw (w.self-is, w.composite-is, w.unblocked-is)
          (ComposedTo-joined pairs c.args.starter first c.loop-place.composite now c.loop-place.place c.loop-place.unblocked before inside given.character c.get-given.ensures.from
          w.in-Some.joined w.take_out.new.self
          (λ d same known. sym (c.join.ensures d (text_before now c.loop-place.place) same (before.blocking d known) (c.get-given.ensures.class d (before.agrees d known))) ∙ w.in-Some.is)
          w.take_out.ensures.before w.take_out.ensures.from w.take_out.ensures.classes w.take_out.ensures.unordered w.take_out.ensures.next w.take_out.ensures.run)
      | in_default+else-given-eq0 w ↦
          rw (w.self-is, w.composite-is, w.unblocked-is)
          (ComposedTo-stays pairs c.args.starter first c.loop-place.composite now c.loop-place.place c.loop-place.unblocked before inside given.character c.get-given.ensures.from
          given.class _ c.get-given.ensures.class (omega (arith, w.if-given-eq0.false))
          (λ d same known. sym (c.join.ensures d (text_before now c.loop-place.place) same (before.blocking d known) (c.get-given.ensures.class d (before.agrees d known))) ∙ w.in_default.is)
          (c.get-given.ensures.before before.given) w.max-unblocked.ensures)
    ]

pub returns-then-given-eq0-clause-text : goal.returns-then-given-eq0-clause-text
returns-then-given-eq0-clause-text c =
    let now = c.loop-place.self in
    let before = c.loop-place.invariant in
    let given = c.get-given.result in
    let inside : c.loop-place.place < now.run = omega (arith, before.run) in
    ComposesInPlace-starter c.args.pairs.now c.args.starter c.args.self.now c.loop-place.composite now c.loop-place.place c.loop-place.unblocked before inside given.character c.get-given.ensures.from
    given.class c.get-given.ensures.class c.if-given-eq0.true
    (λ d same known. sym (c.join.ensures d (text_before now c.loop-place.place) same (before.blocking d known) (c.get-given.ensures.class d (before.agrees d known))) ∙ c.in_default.is)

pub returns-then-given-eq0-clause-fewer : goal.returns-then-given-eq0-clause-fewer
returns-then-given-eq0-clause-fewer c = fewer_in_order c.args.pairs.now c.args.starter c.args.self.now _ _ _ _ c.loop-place.invariant

pub returns-clause-text : goal.returns-clause-text
returns-clause-text c = ComposesInPlace-all c.args.pairs.now c.args.starter c.args.self.now _ _ _ _ c.loop-place.invariant (omega (arith, c.loop-place.invariant.run))

pub returns-clause-fewer : goal.returns-clause-fewer
returns-clause-fewer c = fewer_in_order c.args.pairs.now c.args.starter c.args.self.now _ _ _ _ c.loop-place.invariant
