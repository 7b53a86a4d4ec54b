use Rattle.std.proofs.Common.{All, false, take}
use Rattle.std.specs.Fn.{FnReturnsAt}
use Rattle.normalizer_records.proofs.at_fault.first_with.Given as goal

abbrev pub invariant-loop-item : goal.invariant-loop-item
invariant-loop-item g l = All (λ x. FnReturnsAt g.F.Fn l.test x false) (take l.item-index l.items)
