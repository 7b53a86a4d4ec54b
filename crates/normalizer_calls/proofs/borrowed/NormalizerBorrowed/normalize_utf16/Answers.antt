use Rattle.std.proofs.Common.{refl}
use Rattle.normalizer_calls.proofs.results.OwnedLemmas.{ReturnsForm-borrowed, ReturnsForm-owned}
use Rattle.normalizer_calls.proofs.borrowed.NormalizerBorrowed.normalize_utf16.Goals as goal

pub returns-then-branch : goal.returns-then-branch
returns-then-branch g c = ReturnsForm-borrowed c.in_ok-write_unless_own.ensures.wrote c.if-branch.true refl tt

pub returns : goal.returns
returns g c = ReturnsForm-owned c.in_ok-write_unless_own.ensures.wrote c.if-branch.false c.new-owned.ensures.items refl (λ borrowed. borrowed)
