use Rattle.std.proofs.Common.{rules}
use Rattle.icu_normalizer_c.proofs.FormLemmas.{overwrites-fault, overwrites-ok}
use Rattle.icu_normalizer_c.proofs.writing.overwrite_utf8.Goals as goal

pub returns-in_err-outcome : goal.returns-in_err-outcome
returns-in_err-outcome c =
    overwrites-fault _ _ c.new-buffer.result c.normalize_utf8_to-outcome.new.sink c.new-buffer.ensures.history
    c.new-buffer.ensures.room (search rules) _ _ _ _ _ c.in_err-outcome.was c.normalize_utf8_to-outcome.ensures _
    (search rules)

pub returns : goal.returns
returns c =
    overwrites-ok _ _ c.new-buffer.result c.normalize_utf8_to-outcome.new.sink c.new-buffer.ensures.history
    c.new-buffer.ensures.room (search rules) _ _ _ c.in_ok-outcome.field-0 c.count-count.result
    (rw c.in_ok-outcome.was at c.normalize_utf8_to-outcome.ensures) c.count-count.ensures
