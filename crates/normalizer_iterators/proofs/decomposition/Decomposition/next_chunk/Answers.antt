use Rattle.std.proofs.Common.{◌≡◌, false, refl, []}
use Rattle.normal_forms.specs.ShortRuns.{continues}
use Rattle.normalizer_tables.specs.Characters.{has_class_form}
use Rattle.normalizer_tables.specs.Readings.{reading_by}
use Rattle.normalizer_iterators.specs.Reads.{character_of}
use Rattle.normalizer_iterators.specs.WaitingList.{AgreesWith}
use Rattle.normalizer_iterators.proofs.items.DecompositionLemmas.{at_some, nothing_read}
use Rattle.normalizer_iterators.proofs.reads.ReadingLemmas.{ReadsChunk-short}
use Rattle.normalizer_iterators.proofs.decomposition.Decomposition.next_chunk.Goals as goal

pub short_chunk-requires-clause-classes : goal.short_chunk-requires-clause-classes
unfolding AgreesWith
short_chunk-requires-clause-classes g c = let s = c.args.self.now in s.classes

pub returns-in-Some-clause-ok : goal.returns-in-Some-clause-ok
returns-in-Some-clause-ok g c = λ before read.
    let s = c.args.self.now in
    ReadsChunk-short g.I.Iterator (has_class_form s.characters) (reading_by s.characters s.ignored []) c.args.read.character _ before
    s.delegate (character_of c.args.following) _ c.in-Some.ensures read c.requires.ready

pub invariant_of-self : goal.invariant_of-self
unfolding AgreesWith
invariant_of-self g c =
    let s = c.args.self.now in
    let chunk = c.in-Some.ensures in
    record {
      suits = s.suits;
      at_boundary = at_some (character_of c.args.following) (λ b. continues (has_class_form s.characters) (reading_by s.characters s.ignored []) b ≡ false) chunk.at_boundary;
      word = c.requires.words;
      settled = chunk.settled;
      classes = chunk.classes;
    }

pub returns-in-Err-clause-err : goal.returns-in-Err-clause-err
returns-in-Err-clause-err g c = (refl, (refl, c.clear.ensures.ordered), c.in-Err.ensures.err)

pub invariant_of-self-in-Ok-1 : goal.invariant_of-self-in-Ok-1
unfolding AgreesWith
invariant_of-self-in-Ok-1 g c =
    let s = c.args.self.now in
    let chunk = c.in-Ok.ensures.ok c.requires.read.0 c.requires.read.1 in
    record {
      suits = s.suits;
      at_boundary = at_some (character_of c.read_chunk.new.pending) (λ b. continues (has_class_form s.characters) (reading_by s.characters s.ignored []) b ≡ false) chunk.at_boundary;
      word = c.in-Ok.ensures.words;
      settled = chunk.settled;
      classes = c.in-Ok.ensures.classes;
    }

pub invariant_of-self-in-Err : goal.invariant_of-self-in-Err
unfolding AgreesWith
invariant_of-self-in-Err g c =
    let s = c.args.self.now in
    record {
      suits = s.suits;
      at_boundary = λ x e. nothing_read _ refl x e;
      word = λ r e. absurd (cc (e));
      settled = c.clear.ensures.unordered;
      classes = c.clear.ensures.classes (reading_by s.characters s.ignored []);
    }
