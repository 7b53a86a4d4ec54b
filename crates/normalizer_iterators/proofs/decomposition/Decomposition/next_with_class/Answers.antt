use Rattle.std.proofs.Common.{refl, ap, ◌∙◌, Ok, Err, []}
use Rattle.normalizer_iterators.specs.Reads.{character_of}
use Rattle.normalizer_iterators.specs.WaitingList.{AgreesWith}
use Rattle.normalizer_iterators.proofs.items.DecompositionLemmas.{Steps-ended, Steps-front, Steps-read, class-first}
use Rattle.normalizer_tables.specs.Readings.{reading_by}
use Rattle.normalizer_iterators.proofs.decomposition.Decomposition.next_with_class.Goals as goal

pub invariant_of-self : goal.invariant_of-self
unfolding AgreesWith
invariant_of-self g c =
    let s = c.args.self.now in
    record {
      suits = s.suits;
      at_boundary = s.at_boundary;
      word = s.word;
      settled = c.pop_front.ensures.unordered ∙ s.settled;
      classes = c.pop_front.ensures.classes (reading_by s.characters s.ignored []) s.classes;
    }

pub returns-in-Some-clause-class : goal.returns-in-Some-clause-class
unfolding AgreesWith
returns-in-Some-clause-class g c = let s = c.args.self.now in c.in-Some.ensures.class (reading_by s.characters s.ignored []) s.classes

pub returns-in-Some-clause-starter : goal.returns-in-Some-clause-starter
returns-in-Some-clause-starter g c = λ none. cc (none, c.in-Some.ensures.some)

pub returns-in-Some-clause-steps : goal.returns-in-Some-clause-steps
returns-in-Some-clause-steps g c =
    Steps-front g.I.Iterator c.args.self.now _ _ refl refl refl refl c.in-Some.ensures.some

pub invariant_of-self-in-Break-1 : goal.invariant_of-self-in-Break-1
unfolding AgreesWith
invariant_of-self-in-Break-1 g c =
    let s = c.args.self.now in
    record {
      suits = s.suits;
      at_boundary = s.at_boundary;
      word = s.word;
      settled = c.pop_front.ensures.unordered ∙ s.settled;
      classes = c.pop_front.ensures.classes (reading_by s.characters s.ignored []) s.classes;
    }

pub invariant_of-self-2 : goal.invariant_of-self-2
unfolding AgreesWith
invariant_of-self-2 g c =
    let s = c.args.self.now in
    record {
      suits = s.suits;
      at_boundary = s.at_boundary;
      word = s.word;
      settled = c.pop_front.ensures.unordered ∙ s.settled;
      classes = c.pop_front.ensures.classes (reading_by s.characters s.ignored []) s.classes;
    }

pub returns-in_err-read-clause-steps : goal.returns-in_err-read-clause-steps
returns-in_err-read-clause-steps g c =
    let nothing = c.in_default.ensures.none in
    rw c.from_residual.ensures
    (Steps-ended g.I.Iterator c.args.self.now _ refl refl
    (ap character_of c.in_err-read.was) (ap character_of c.in_err-read.was)
    nothing.0 nothing.1)

pub returns-in-Ok-clause-class : goal.returns-in-Ok-clause-class
returns-in-Ok-clause-class g c =
    let s = c.args.self.now in
    let pending = ap character_of c.in_ok-read.was in
    class-first g.I.Iterator s c.in_ok-read.read.character c.in-Ok.character _ _ _ _ pending (c.in-Ok.ensures.ok s.delegate c.read_from-following.ensures.read)

pub returns-in-Ok-clause-steps : goal.returns-in-Ok-clause-steps
returns-in-Ok-clause-steps g c =
    let s = c.args.self.now in
    let pending = ap character_of c.in_ok-read.was in
    Steps-read g.I.Iterator s c.in_ok-read.read.character pending c.in_default.ensures.none.0 _ _ c.read_from-following.ensures.read _ c.in-Ok.ensures.kept.0
    c.in-Ok.ensures.kept.1 (Ok c.in-Ok.character) c.in-Ok.ensures.ok tt

pub returns-in-Err-clause-steps : goal.returns-in-Err-clause-steps
returns-in-Err-clause-steps g c =
    let s = c.args.self.now in
    let pending = ap character_of c.in_ok-read.was in
    Steps-read g.I.Iterator s c.in_ok-read.read.character pending c.in_default.ensures.none.0 _ _ c.read_from-following.ensures.read _ c.in-Err.ensures.kept.0
    c.in-Err.ensures.kept.1 (Err c.in-Err.error) tt c.in-Err.ensures.err
