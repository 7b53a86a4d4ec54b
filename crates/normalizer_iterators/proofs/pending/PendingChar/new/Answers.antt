use Rattle.std.proofs.Common.{true≢false, refl, sym, ap, ◌∙◌}
use Rattle.normalizer_tables.specs.Words.{is_plain}
use Rattle.normalizer_iterators.proofs.reads.PlainWords.{IsPassthrough-plain}
use Rattle.normalizer_iterators.proofs.pending.PendingChar.new.Goals as goal

pub returns-then-character-bound-clause-word : goal.returns-then-character-bound-clause-word
unfolding is_plain
returns-then-character-bound-clause-word c = record { plain = λ is. absurd (true≢false (sym is)); looked_up = λ seen other. absurd (other refl) }

pub returns-else-character-bound-clause-word : goal.returns-else-character-bound-clause-word
returns-else-character-bound-clause-word c = record {
  plain = λ is. IsPassthrough-plain c.args.characters.now c.args.character (ap is_plain (sym c.word_of.ensures) ∙ is);
  looked_up = λ seen other. c.word_of.ensures;
}
