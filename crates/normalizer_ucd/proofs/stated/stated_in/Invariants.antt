use Rattle.std.proofs.Common.{◌≡◌, ◌+◌}
use Rattle.normalizer_ucd.proofs.Heads.{stated_from}
use Rattle.normalizer_ucd.proofs.stated.stated_in.Given as goal

abbrev pub invariant-loop-index : goal.invariant-loop-index
invariant-loop-index l = stated_from (l.index + 1) l.lines l.index ≡ stated_from 1 l.lines 0
