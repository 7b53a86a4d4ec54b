use Rattle.std.proofs.Common.{◌-◌, ◌<◌}
use Rattle.normalizer_records.specs.inner.Chains.{HasLed}
use Rattle.normalizer_records.proofs.chains.are_chains_short.Given as goal

abbrev pub invariant-loop-count : goal.invariant-loop-count
invariant-loop-count l = record {
  within : l.count < 16;
  led : HasLed l.records l.count l.led;
}

abbrev pub decreases-loop-count : goal.decreases-loop-count
decreases-loop-count l = 16 - l.count
