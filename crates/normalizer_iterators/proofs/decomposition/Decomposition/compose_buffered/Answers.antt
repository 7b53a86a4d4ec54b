use Rattle.std.proofs.Common.{◌∙◌, []}
use Rattle.normalizer_tables.specs.Readings.{reading_by}
use Rattle.normalizer_iterators.specs.WaitingList.{AgreesWith}
use Rattle.normalizer_iterators.proofs.decomposition.Decomposition.compose_buffered.Goals as goal

pub invariant_of-self : goal.invariant_of-self
unfolding AgreesWith
invariant_of-self g c =
    let s = c.args.self.now in
    record {
      suits = s.suits;
      at_boundary = s.at_boundary;
      word = s.word;
      settled = c.compose.ensures.unordered ∙ s.settled;
      classes = c.compose.ensures.classes (reading_by s.characters s.ignored []) s.classes;
    }
