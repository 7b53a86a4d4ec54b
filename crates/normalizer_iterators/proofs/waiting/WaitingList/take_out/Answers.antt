use Rattle.std.proofs.Common.{◌≡◌, ap, arith, subst, sym}
use Rattle.normalizer_iterators.specs.Waiting.{characters, HasMarks}
use Rattle.normalizer_iterators.specs.WaitingList.{text_before, text_from, unordered_text, AgreesWith}
use Rattle.normalizer_iterators.proofs.buffers.WaitingLemmas.{items_after_move, taken_out-before, taken_out-from, taken_out-beyond, taken_out-all}
use Rattle.normalizer_iterators.proofs.waiting.WaitingList.take_out.Goals as goal

pub invariant_of-self : goal.invariant_of-self
invariant_of-self c =
    let b = c.args.self.now in
    let moved = items_after_move b.entries _ c.move_up.new.entries b.next c.args.place c.as_mut_slice.ensures.value c.move_up.ensures.moved c.move_up.ensures.len in
    record {
      given = omega (arith, c.requires.given, c.requires.within);
      within = omega (arith, b.within, moved.1);
      marks = subst HasMarks (sym (taken_out-beyond b.entries.items _ b.next c.args.place c.requires.given (omega (arith, c.requires.within, b.within)) moved.0 b.run c.requires.within)) b.marks;
      room = b.room;
    }

pub returns-clause-before : goal.returns-clause-before
unfolding text_before
returns-clause-before c =
    let b = c.args.self.now in
    let moved = items_after_move b.entries _ c.move_up.new.entries b.next c.args.place c.as_mut_slice.ensures.value c.move_up.ensures.moved c.move_up.ensures.len in
    taken_out-before b.entries.items _ b.next c.args.place c.requires.given (omega (arith, c.requires.within, b.within)) moved.0

pub returns-clause-from : goal.returns-clause-from
unfolding text_from
returns-clause-from c =
    let b = c.args.self.now in
    let moved = items_after_move b.entries _ c.move_up.new.entries b.next c.args.place c.as_mut_slice.ensures.value c.move_up.ensures.moved c.move_up.ensures.len in
    taken_out-from b.entries.items _ b.next c.args.place c.requires.given (omega (arith, c.requires.within, b.within)) moved.0 b.run c.requires.within

pub returns-clause-unordered : goal.returns-clause-unordered
unfolding unordered_text
returns-clause-unordered c =
    let b = c.args.self.now in
    let moved = items_after_move b.entries _ c.move_up.new.entries b.next c.args.place c.as_mut_slice.ensures.value c.move_up.ensures.moved c.move_up.ensures.len in
    ap characters (taken_out-beyond b.entries.items _ b.next c.args.place c.requires.given (omega (arith, c.requires.within, b.within)) moved.0 b.run c.requires.within)

pub returns-clause-classes : goal.returns-clause-classes
unfolding AgreesWith
returns-clause-classes c = λ d known.
    let b = c.args.self.now in
    let moved = items_after_move b.entries _ c.move_up.new.entries b.next c.args.place c.as_mut_slice.ensures.value c.move_up.ensures.moved c.move_up.ensures.len in
    taken_out-all b.entries.items _ b.next c.args.place c.requires.given (omega (arith, c.requires.within, b.within)) moved.0 (λ w. w.class ≡ d.class w.character) known
