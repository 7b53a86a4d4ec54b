use Rattle.std.proofs.Common.{◌≡◌, ◌+◌, drop}
use Rattle.normalizer_ucd.specs.RecordPlaces.{first_stating}
use Rattle.normalizer_ucd.proofs.Loop.{texts}
use Rattle.normalizer_ucd.proofs.record_places.first_stating.Given as goal

abbrev pub invariant-loop-index : goal.invariant-loop-index
invariant-loop-index l =
    first_stating l.name l.fault (l.index + 1) (texts (drop l.index l.lines))
    ≡ first_stating l.name l.fault 1 (texts l.lines)
