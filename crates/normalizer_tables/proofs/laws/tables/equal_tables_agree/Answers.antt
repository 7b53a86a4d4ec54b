use Rattle.std.proofs.Common.{ap, sym, ◌∙◌}
use Rattle.normalizer_tables.specs.Table.{word_at}
use Rattle.normalizer_tables.proofs.code_points.Tables.{same_from_word_at, same_table-decides}
use Rattle.normalizer_tables.proofs.laws.tables.equal_tables_agree.Goals as goal

pub returns : goal.returns
returns c = (
  λ equal n. ap (λ t. word_at t n) ((same_table-decides c.args.table.now c.args.other.now).0 (sym c.eq.ensures ∙ equal)),
  λ agree. c.eq.ensures ∙ (same_table-decides c.args.table.now c.args.other.now).1 (same_from_word_at _ _ c.has_all_words.ensures c.has_all_words-2.ensures agree),
)
