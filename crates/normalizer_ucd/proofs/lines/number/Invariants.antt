use Rattle.std.proofs.Common.{◌≡◌, drop}
use Rattle.normalizer_ucd.specs.Fields.{with_digits}
use Rattle.normalizer_ucd.proofs.lines.number.Given as goal

abbrev pub invariant-loop-digit : goal.invariant-loop-digit
invariant-loop-digit l = with_digits l.radix l.value (drop l.digit-index l.digits) ≡ with_digits l.radix 0 l.digits
