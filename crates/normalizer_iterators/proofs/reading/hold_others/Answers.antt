use Rattle.std.proofs.Common.{◌++◌, drop, sym, ◌∙◌}
use Rattle.normalizer_iterators.proofs.buffers.WaitingLemmas.{on_ok}
use Rattle.normalizer_iterators.proofs.reads.ReadingLemmas.{reordered-nothing}
use Rattle.normalizer_iterators.proofs.reading.hold_others.Goals as goal

pub returns-clause-text : goal.returns-clause-text
returns-clause-text c =
    on_ok c.push_from.result _ _
    (λ pushed d same rest.
    sym (reordered-nothing d c.clear.new.self (drop 1 c.args.members.now ++ rest) c.clear.ensures.ordered c.clear.ensures.unordered)
    ∙ pushed d same (c.clear.ensures.classes d) rest) c.push_from.ensures.text
