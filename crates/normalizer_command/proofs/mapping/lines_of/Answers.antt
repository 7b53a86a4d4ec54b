use Rattle.std.proofs.Common.{◌==◌, rules}
use Rattle.std.proofs.lemmas.Iterator.Consumers.{map_from_collect}
use Rattle.std.proofs.lemmas.Iterator.Splits.{YieldsList-from_slice_split}
use Rattle.normalizer_command.proofs.LineLemmas.{few-lines}
use borrow.Author.Tests.{tests}
use Rattle.normalizer_command.proofs.mapping.lines_of.Goals as goal

pub returns-clause-lines : goal.returns-clause-lines
returns-clause-lines c = map_from_collect _ c.collect.ensures.ran
    (YieldsList-from_slice_split _ (λ k. k == 0x0A) c.args.text.now c.split.ensures.rest c.split.ensures.done c.split.ensures.closure (λ x b q k. search (rules, tests)))

pub returns-clause-few : goal.returns-clause-few
returns-clause-few c = few-lines (λ v. v.items) c.args.text.now c.collect.result (returns-clause-lines c)
