use Rattle.std.proofs.Common.{◌≡◌, false, [], refl, Ok, Err}
use Rattle.normal_forms.specs.ShortRuns.{continues}
use Rattle.normalizer_tables.specs.Characters.{has_class_form}
use Rattle.normalizer_tables.specs.Readings.{reading_by}
use Rattle.normalizer_iterators.specs.Reads.{character_of}
use Rattle.normalizer_iterators.specs.WaitingList.{AgreesWith}
use Rattle.normalizer_iterators.proofs.items.DecompositionLemmas.{at_some}
use Rattle.normalizer_iterators.proofs.reads.ReadingLemmas.{ReadsOn-none}
use Rattle.normalizer_iterators.proofs.items.ToComeLemmas.{HasYieldedLong-start, IsToCome-start, came_start, AreShortToCome-start, short_start_fits, long_start}
use Rattle.normalizer_iterators.proofs.items.ItemLemmas.{YieldsForm-decomposition}
use Rattle.normalizer_iterators.proofs.decomposition.Decomposition.over.Goals as goal

pub read_leading-requires : goal.read_leading-requires
read_leading-requires g c = record {
  ready = c.read_from-first.ensures.ready;
  words = c.read_from-first.ensures.word;
  classes = c.new-waiting.ensures.classes _;
}

pub returns-in-Ok-clause-text : goal.returns-in-Ok-clause-text
returns-in-Ok-clause-text g c = λ x spells.
    IsToCome-start g.I.Iterator (has_class_form c.args.characters) _ c.requires.suits c.args.delegate _ _ _ _ x
    c.new-waiting.ensures.ordered c.new-waiting.ensures.unordered (c.in-Ok.ensures.ok.read _ c.read_from-first.ensures.read) spells

pub returns-in-Ok-clause-came : goal.returns-in-Ok-clause-came
returns-in-Ok-clause-came g c = λ e out h.
    came_start g.I.Iterator (has_class_form c.args.characters) _ c.requires.suits e c.args.delegate _ _ _ _ out
    c.new-waiting.ensures.ordered c.new-waiting.ensures.unordered (c.in-Ok.ensures.ok.read _ c.read_from-first.ensures.read) h

pub returns-in-Ok-clause-long : goal.returns-in-Ok-clause-long
returns-in-Ok-clause-long g c = λ h.
    HasYieldedLong-start g.I.Iterator (has_class_form c.args.characters) _ c.requires.suits c.args.delegate _ _ _ _ h.out
    c.new-waiting.ensures.ordered c.new-waiting.ensures.unordered (c.in-Ok.ensures.ok.read _ c.read_from-first.ensures.read) h.comes h.long

pub returns-in-Ok-clause-short : goal.returns-in-Ok-clause-short
returns-in-Ok-clause-short g c = λ x spells short.
    AreShortToCome-start g.I.Iterator (has_class_form c.args.characters) _ c.args.delegate _ _ _ _ x (c.in-Ok.ensures.ok.read _ c.read_from-first.ensures.read) spells short

pub returns-clause-succeeds : goal.returns-clause-succeeds
returns-clause-succeeds g c = λ x spells short.
    absurd
    (short_start_fits g.I.Iterator (has_class_form c.args.characters) _ c.args.delegate _ x c.new-waiting.ensures.held
    (c.in-Err.ensures.err _ c.read_from-first.ensures.read) spells short)

pub returns-clause-refused : goal.returns-clause-refused
returns-clause-refused g c =
    (refl, long_start g.I.Iterator (has_class_form c.args.characters) _ c.args.delegate _ c.new-waiting.ensures.held (c.in-Err.ensures.err _ c.read_from-first.ensures.read))

pub returns-in-Ok-clause-ready : goal.returns-in-Ok-clause-ready
returns-in-Ok-clause-ready g c =
    let on = c.in-Ok.ensures.ok.read _ c.read_from-first.ensures.read in
    on.ready

pub invariant_of-result-in-Ok : goal.invariant_of-result-in-Ok
unfolding AgreesWith
invariant_of-result-in-Ok g c =
    let on = c.in-Ok.ensures.ok.read _ c.read_from-first.ensures.read in
    record {
      suits = c.requires.suits;
      at_boundary = at_some (character_of c.in-Ok.pending) (λ b. continues (has_class_form c.args.characters) (reading_by c.args.characters c.args.ignored []) b ≡ false) on.at_boundary;
      word = c.in-Ok.ensures.ok.words;
      settled = on.settled;
      classes = c.in-Ok.ensures.ok.classes;
    }

pub returns-in-Ok-clause-form : goal.returns-in-Ok-clause-form
returns-in-Ok-clause-form g c =
    YieldsForm-decomposition g.I.Iterator (has_class_form c.args.characters) (reading_by c.args.characters c.args.ignored []) c.args.delegate (Ok _)
    (returns-in-Ok-clause-text g c) (returns-in-Ok-clause-short g c) (λ x spells short. refl)
    (returns-in-Ok-clause-came g c) (returns-in-Ok-clause-long g c) tt

pub returns-clause-form : goal.returns-clause-form
returns-clause-form g c =
    YieldsForm-decomposition g.I.Iterator (has_class_form c.args.characters) (reading_by c.args.characters c.args.ignored []) c.args.delegate (Err _)
    tt tt (returns-clause-succeeds g c) tt tt (returns-clause-refused g c)

-- a boundary is at once there

pub invariant_of-result : goal.invariant_of-result
unfolding AgreesWith
invariant_of-result g c = record {
  suits = c.requires.suits;
  at_boundary = at_some (character_of c.read_from-first.result) (λ b. continues (has_class_form c.args.characters) (reading_by c.args.characters c.args.ignored []) b ≡ false)
      (c.is_at_boundary.ensures c.if-is_at_boundary.true);
  word = c.read_from-first.ensures.word;
  settled = c.new.ensures.unordered;
  classes = c.new.ensures.classes (reading_by c.args.characters c.args.ignored []);
}

pub returns-then-is_at_boundary-clause-text : goal.returns-then-is_at_boundary-clause-text
returns-then-is_at_boundary-clause-text g c = λ x spells.
    let on = ReadsOn-none g.I.Iterator (has_class_form c.args.characters) (reading_by c.args.characters c.args.ignored []) _ _ _ _ c.read_from-first.ensures.read
    c.read_from-first.ensures.ready c.new.ensures.ordered c.new.ensures.unordered (c.new.ensures.classes _) (c.is_at_boundary.ensures c.if-is_at_boundary.true) in
    IsToCome-start g.I.Iterator (has_class_form c.args.characters) _ c.requires.suits c.args.delegate _ _ _ _ x c.new.ensures.ordered c.new.ensures.unordered on spells

pub returns-then-is_at_boundary-clause-came : goal.returns-then-is_at_boundary-clause-came
returns-then-is_at_boundary-clause-came g c = λ e out h.
    let on = ReadsOn-none g.I.Iterator (has_class_form c.args.characters) (reading_by c.args.characters c.args.ignored []) _ _ _ _ c.read_from-first.ensures.read
    c.read_from-first.ensures.ready c.new.ensures.ordered c.new.ensures.unordered (c.new.ensures.classes _) (c.is_at_boundary.ensures c.if-is_at_boundary.true) in
    came_start g.I.Iterator (has_class_form c.args.characters) _ c.requires.suits e c.args.delegate _ _ _ _ out c.new.ensures.ordered c.new.ensures.unordered on h

pub returns-then-is_at_boundary-clause-long : goal.returns-then-is_at_boundary-clause-long
returns-then-is_at_boundary-clause-long g c = λ h.
    let on = ReadsOn-none g.I.Iterator (has_class_form c.args.characters) (reading_by c.args.characters c.args.ignored []) _ _ _ _ c.read_from-first.ensures.read
    c.read_from-first.ensures.ready c.new.ensures.ordered c.new.ensures.unordered (c.new.ensures.classes _) (c.is_at_boundary.ensures c.if-is_at_boundary.true) in
    HasYieldedLong-start g.I.Iterator (has_class_form c.args.characters) _ c.requires.suits c.args.delegate _ _ _ _ h.out c.new.ensures.ordered c.new.ensures.unordered on h.comes h.long

pub returns-then-is_at_boundary-clause-short : goal.returns-then-is_at_boundary-clause-short
returns-then-is_at_boundary-clause-short g c = λ x spells short.
    let on = ReadsOn-none g.I.Iterator (has_class_form c.args.characters) (reading_by c.args.characters c.args.ignored []) _ _ _ _ c.read_from-first.ensures.read
    c.read_from-first.ensures.ready c.new.ensures.ordered c.new.ensures.unordered (c.new.ensures.classes _) (c.is_at_boundary.ensures c.if-is_at_boundary.true) in
    AreShortToCome-start g.I.Iterator (has_class_form c.args.characters) _ c.args.delegate _ _ _ _ x on spells short

pub returns-then-is_at_boundary-clause-ready : goal.returns-then-is_at_boundary-clause-ready
returns-then-is_at_boundary-clause-ready g c = c.read_from-first.ensures.ready

pub returns-then-is_at_boundary-clause-form : goal.returns-then-is_at_boundary-clause-form
returns-then-is_at_boundary-clause-form g c =
    YieldsForm-decomposition g.I.Iterator (has_class_form c.args.characters) (reading_by c.args.characters c.args.ignored []) c.args.delegate (Ok _)
    (returns-then-is_at_boundary-clause-text g c) (returns-then-is_at_boundary-clause-short g c) (λ x spells short. refl)
    (returns-then-is_at_boundary-clause-came g c) (returns-then-is_at_boundary-clause-long g c) tt
