use Rattle.std.proofs.Common.{◌++◌, [], arith, refl, sym, ap, subst, ◌∙◌}
use Rattle.std.specs.Prelude.{option_to_list}
use Rattle.std.specs.Option.{ForSome}
use Rattle.normal_forms.specs.Reading.{IsStarter}
use Rattle.normalizer_tables.specs.Characters.{has_class_form}
use Rattle.normalizer_tables.specs.Readings.{reading_by}
use Rattle.normalizer_iterators.specs.Segment.{IsSmall}
use Rattle.normalizer_iterators.specs.WaitingList.{reordered_text}
use Rattle.normalizer_text.proofs.steps.StepBoundaries.{boundary-first}
use Rattle.normalizer_iterators.proofs.reads.LazyLemmas.{class-reading_by}
use Rattle.normalizer_iterators.proofs.segments.BufferedSegments.{first-room, HasRead-front, HasRead-text, starter_of-class}
use Rattle.normalizer_iterators.proofs.segment.SegmentBuffer.read.Goals as goal

pub returns-in_err-self-clause-room : goal.returns-in_err-self-clause-room
returns-in_err-self-clause-room g c = λ short.
    let s = c.args.characters.now in
    let d = reading_by s c.args.ignored [] in
    let room = first-room d g.U.Units.encoding (g.U.Units.units c.args.units) c.args.first c.requires.some c.requires.first (has_class_form s) _ c.new-read.ensures.character short.0 short.1 in
    absurd (cc (c.in_err-self.ensures.succeeds (omega (arith, room, c.clear.ensures.held))))

pub read_marks-requires-clause-boundary : goal.read_marks-requires-clause-boundary
read_marks-requires-clause-boundary g c =
    boundary-first g.U.Units.encoding (g.U.Units.units c.args.units) c.args.first (record { some = c.requires.some; is = c.requires.first })

pub returns-in_err-end-clause-room : goal.returns-in_err-end-clause-room
returns-in_err-end-clause-room g c = λ short.
    let s = c.args.characters.now in
    let d = reading_by s c.args.ignored [] in
    let room = first-room d g.U.Units.encoding (g.U.Units.units c.args.units) c.args.first c.requires.some c.requires.first (has_class_form s) _ c.new-read.ensures.character short.0 short.1 in
    absurd (cc (c.in_err-end.ensures.room (short.0, omega (arith, room, c.clear.ensures.held, c.in_ok-self.ensures.held))).0)

pub returns-clause-read : goal.returns-clause-read
returns-clause-read g c =
    let s = c.args.characters.now in
    let d = reading_by s c.args.ignored [] in
    let same = class-reading_by s c.args.ignored [] in
    let empty = c.clear.ensures.classes d in
    let units = g.U.Units.units c.args.units in
    let read = c.in_ok-end.ensures.read in
    record {
      front = HasRead-front d g.U.Units.encoding units c.args.first c.requires.some c.requires.first (has_class_form s) _ _ _ read;
      agrees = record {
        starter = subst (λ o. ForSome o (IsStarter d)) (sym c.in_ok-self.ensures.starter) (starter_of-class d _);
        classes = read.agrees;
      };
      text = λ rest.
          HasRead-text d g.U.Units.encoding units c.args.first c.requires.some c.requires.first (has_class_form s) _ _ _ _ _ c.new-read.ensures.character
          c.clear.ensures.ordered c.clear.ensures.unordered (c.in_ok-self.ensures.text d same empty) read rest
          ∙ ap (λ o. option_to_list o ++ reordered_text d c.read_marks.new.waiting rest) (sym c.in_ok-self.ensures.starter);
    }

pub returns-clause-room : goal.returns-clause-room
unfolding IsSmall
returns-clause-room g c = λ short.
    let s = c.args.characters.now in
    let d = reading_by s c.args.ignored [] in
    let room = first-room d g.U.Units.encoding (g.U.Units.units c.args.units) c.args.first c.requires.some c.requires.first (has_class_form s) _ c.new-read.ensures.character short.0 short.1 in
    (refl, (c.in_ok-end.ensures.room (short.0, omega (arith, room, c.clear.ensures.held, c.in_ok-self.ensures.held))).1)
