use Rattle.std.proofs.Common.{take}
use Rattle.normalizer_packing.specs.Stored.{first_come}
use Rattle.normalizer_packing.specs.inner.Stores.{Holds}
use Rattle.normalizer_packing.proofs.step_words.store_of.Given as goal

-- the lists so far are held
abbrev pub invariant-loop-step : goal.invariant-loop-step
invariant-loop-step l = Holds (first_come (take l.step-index l.steps)) l.store
