use Rattle.std.proofs.Common.{◌≡◌, take, filter_map}
use Rattle.normalizer_packing.specs.StepWords.{asked_step, stored_step}
use Rattle.normalizer_packing.proofs.step_words.stored_steps.Given as goal

-- the steps of the entries so far
abbrev pub invariant-loop-place : goal.invariant-loop-place
invariant-loop-place l = l.steps.items ≡ filter_map (λ e. stored_step (asked_step l.entries e)) (take l.place l.entries)
