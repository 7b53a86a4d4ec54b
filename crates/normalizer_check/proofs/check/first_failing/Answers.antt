use Rattle.std.proofs.Common.{◌+◌, ◌∙◌, subst, arith}
use Rattle.normalizer_tables.specs.Characters.{IsNextWord}
use Rattle.normalizer_tables.specs.Table.{code_points}
use Rattle.normalizer_check.specs.inner.Walk.{IsEndOfEqualWords}
use Rattle.normalizer_check.proofs.conditions.FirstFailing.{FailsFirst-all, copied_slice_get, FailsFirst-step, FirstFailing-asked, has_sound_hangul, unasked}
use Rattle.normalizer_check.proofs.conditions.EachCondition.{of_each-unasked}
use Rattle.normalizer_check.proofs.conditions.LoadedLemmas.{IsMet-parts}
use Rattle.normalizer_check.proofs.composites.PairConditionLemmas.{scalar_below}
use Rattle.normalizer_check.proofs.conditions.WalkLemmas.{of_each-answered}
use Rattle.normalizer_check.proofs.check.first_failing.Goals as goal
use Rattle.normalizer_check.proofs.check.first_failing.Goals.{then-loop-from-test+else-asked-failing, else-loop-from-test}

pub loop-from-init : goal.loop-from-init
loop-from-init c =
    let front = c.first_failing_before-failing.ensures in
    record {
      within = omega arith;
      first = record {
        within = front.within;
        before = λ k d low kh. (front.before k d low kh, λ n none. absurd (omega arith));
        fails = λ k e met. front.fails k e ((IsMet-parts c.args.data.now k).0 met).0;
      };
    }

pub loop-from-preserved : goal.loop-from-preserved
unfolding code_points
loop-from-preserved c =
    let front = c.first_failing_before-failing.ensures in
    let next = subst (λ d. IsNextWord d.characters c.loop-from.from c.next_with_word-number.result.0) c.data.view_is c.next_with_word-number.ensures.next in
    let end = subst (λ d. IsEndOfEqualWords d.characters c.asks_hangul-hangul_is_sound.result c.next_with_word-number.result.0 c.end_of_equal_words-from.result) c.data.view_is c.end_of_equal_words-from.ensures in
    record {
      within = end.within next.within;
      first =
          FailsFirst-step c.args.data.now c.args.conditions.now c.loop-from.from c.next_with_word-number.result.0 c.end_of_equal_words-from.result c.loop-from.failing
          (c.first_asked_of_words-asked.result + c.first_failing_at.result)
          c.loop-from.invariant.first
          (of_each-answered c.args.data.now c.asks_hangul-hangul_is_sound.result
          (λ asked. has_sound_hangul c.args.data.now c.args.conditions.now c.first_failing_before-failing.result front (c.asks_hangul-hangul_is_sound.ensures.0 asked)) c.loop-from.from
          c.next_with_word-number.result.0 c.end_of_equal_words-from.result next end)
          (FirstFailing-asked _ c.args.conditions.now c.first_asked_of_words-asked.result c.loop-from.failing c.first_failing_at.result (omega arith) c.loop-from.invariant.first.within
          (λ k none is. of_each-unasked c.args.data.now k none c.next_with_word-number.result.0) c.first_asked_of_words-asked.ensures c.first_failing_at.ensures);
    }

pub returns : goal.returns
unfolding code_points
returns c =
    FailsFirst-all c.args.data.now c.args.conditions.now c.loop-from.from c.loop-from.failing c.copied.result c.loop-from.invariant.first
    (elim c.loop-from-test.branch [
      | then-loop-from-test+else-asked-failing w ↦
          unasked c.args.data.now c.args.conditions.now c.loop-from.from c.loop-from.failing c.first_asked_of_words-asked.result w.if-asked-failing.false c.first_asked_of_words-asked.ensures
      | else-loop-from-test w ↦ λ k d low kh met. (IsMet-parts c.args.data.now _).1 (met.0, λ n is. met.1 n (omega (arith, scalar_below n is)) is)
    ])
    (c.copied.ensures ∙ copied_slice_get c.args.conditions.now c.loop-from.failing c.get.result c.get.ensures.lookup.1 c.get.ensures.lookup.3)
