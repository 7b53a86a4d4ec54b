use Rattle.std.proofs.Common.{arith}
use Rattle.std.proofs.lemmas.Bool.Decides.{nat_tests}
use Rattle.normalizer_examples.proofs.CallerLemmas.{whole_where_no_rest, differs_where_rest}
use Rattle.normalizer_examples.proofs.identifiers.identifier_of_bytes.Goals as goal

pub returns-then-is_empty-clause-accepted : goal.returns-then-is_empty-clause-accepted
returns-then-is_empty-clause-accepted c = whole_where_no_rest _ _ _ _ c.in_ok-identifier.ensures.is (grind (arith, nat_tests))

pub returns-else-is_empty-clause-accepted : goal.returns-else-is_empty-clause-accepted
returns-else-is_empty-clause-accepted c = differs_where_rest _ _ _ _ c.in_ok-identifier.ensures.is (λ none. grind (arith, nat_tests))
