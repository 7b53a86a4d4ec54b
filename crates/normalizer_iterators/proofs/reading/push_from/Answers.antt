use Rattle.std.proofs.Common.{arith, sym, ◌∙◌}
use Rattle.normalizer_iterators.proofs.reads.ReadingLemmas.{pushed_none, pushed_member, pushed_all, no_member}
use Rattle.normalizer_iterators.proofs.reading.push_from.Goals as goal
use Rattle.normalizer_iterators.proofs.reading.push_from.Goals.{in-Some+in_ok-push, in_default}

pub loop-place-init : goal.loop-place-init
loop-place-init c = pushed_none _ _ _ _

pub loop-place-preserved : goal.loop-place-preserved
loop-place-preserved c =
    elim c.match-get.branch [
      | in-Some+in_ok-push w ↦
          rw w.waiting-is
          (pushed_member c.args.characters.now _ _ c.loop-place.place w.in-Some.member _ c.loop-place.waiting w.push.new.self w.in-Some.ensures c.loop-place.invariant
          (λ d same agrees. w.in_ok-push.ensures.text d agrees (w.class_of.ensures ∙ sym (same w.in-Some.member)))
          (λ d same agrees. w.in_ok-push.ensures.classes d agrees (w.class_of.ensures ∙ sym (same w.in-Some.member)))
          w.in_ok-push.ensures.held)
      | in_default w ↦ absurd (no_member c.args.members.now c.loop-place.place (omega arith) (sym w.in_default.is ∙ c.get.ensures))
    ]

pub returns-in_err-push-clause-succeeds : goal.returns-in_err-push-clause-succeeds
returns-in_err-push-clause-succeeds c = λ fits. cc (c.in_err-push.ensures.succeeds (omega (arith, c.loop-place.invariant.held)))

pub returns-clause-text : goal.returns-clause-text
returns-clause-text c = pushed_all c.args.characters.now _ _ c.loop-place.place _ _ (omega arith) c.loop-place.invariant

pub returns-clause-classes : goal.returns-clause-classes
returns-clause-classes c = c.loop-place.invariant.classes

pub returns-clause-held : goal.returns-clause-held
returns-clause-held c = omega (arith, c.loop-place.invariant.held)
