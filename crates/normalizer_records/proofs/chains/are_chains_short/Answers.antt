use Rattle.std.proofs.Common.{add-one, arith, subst, sym}
use Rattle.normalizer_records.specs.inner.Chains.{HasLed}
use Rattle.normalizer_records.proofs.replacing.ChainLemmas.{HasLed-more, HasLed-recorded, no_long_chain}
use Rattle.normalizer_records.proofs.chains.are_chains_short.Goals as goal

pub loop-count-init : goal.loop-count-init
loop-count-init c = record { within = omega arith; led = HasLed-recorded c.args.records.now _ c.in_ok-led.ensures }

pub loop-count-preserved : goal.loop-count-preserved
loop-count-preserved c = record {
  within = omega arith;
  led = subst (λ n. HasLed c.args.records.now n c.in_ok-led-2.led) (sym (add-one c.loop-count.count))
      (HasLed-more c.args.records.now c.loop-count.count _ _ c.loop-count.invariant.led c.in_ok-led-2.ensures);
}

pub returns : goal.returns
returns c = λ yes. no_long_chain c.args.records.now c.loop-count.count _ c.loop-count.invariant.within c.loop-count.invariant.led (c.is_empty-2.ensures.0 yes)
