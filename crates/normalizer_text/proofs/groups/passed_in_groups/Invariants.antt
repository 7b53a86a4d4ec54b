use Rattle.std.proofs.Common.{◌-◌, ◌≤◌, length}
use Rattle.normalizer_text.specs.Encodings.{Encoding}
use Rattle.normalizer_text.specs.Passing.{PassesTo}
use Rattle.normalizer_text.proofs.groups.passed_in_groups.Given as goal

abbrev pub invariant-loop-end : goal.invariant-loop-end
invariant-loop-end l = PassesTo Encoding.Utf16 l.bytes l.units l.end l.least × (l.least ≤ 255)

abbrev pub decreases-loop-end : goal.decreases-loop-end
decreases-loop-end l = length l.units - l.end
