use Rattle.std.proofs.Common.{get_or, length, refl, zero-add, ap, ◌∙◌}
use Rattle.std.proofs.lemmas.List.FromFn.{length-map-range_with_len, get_or-map-range_with_len}
use Rattle.normalizer_tables.specs.Ranges.{word_in, words_of, IsComplete}
use Rattle.normalizer_tables.specs.PassingWords.{byte_of_word}
use Rattle.normalizer_tables.specs.Table.{word_at, code_points}
use Rattle.normalizer_tables.specs.Words.{is_plain}
use Rattle.normalizer_tables.specs.inner.PassingWords.{byte_without}
use Rattle.normalizer_tables.proofs.table.CodePointTable.from_ranges.Goals as goal

pub invariant_of-result : goal.invariant_of-result
unfolding words_of IsComplete byte_of_word byte_without is_plain
invariant_of-result c = record {
  complete = ap length c.in_ok-words.ensures ∙ length-map-range_with_len (word_in c.deref-2.result.now) 0 code_points;
  of_words = c.in_ok-bytes.ensures.bytes c.args.past;
}

pub returns-clause-table : goal.returns-clause-table
unfolding words_of IsComplete word_at
returns-clause-table c = record {
  complete = ap length c.in_ok-words.ensures ∙ length-map-range_with_len (word_in c.deref-2.result.now) 0 code_points;
  words = λ n low. ap (λ ws. get_or ws n c.args.past) (c.in_ok-words.ensures ∙ ap words_of c.deref-2.ensures.value)
      ∙ get_or-map-range_with_len (word_in c.args.ranges.items) 0 code_points n n c.args.past low (zero-add n);
  past = refl;
}
