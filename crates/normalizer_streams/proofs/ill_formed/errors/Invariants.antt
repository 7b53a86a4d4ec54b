use Rattle.std.proofs.Common.{◌≡◌, ◌+◌, ◌-◌, ◌≤◌, drop, length}
use Rattle.icu_normalizer.specs.DecodingSteps.{steps}
use Rattle.icu_normalizer.specs.Encodings.{Encoding, first_in}
use Rattle.normalizer_streams.proofs.ErrorLemmas.{count_errors}
use Rattle.normalizer_streams.proofs.ill_formed.errors.Given as goal

-- those so far, and those of the units that are left
abbrev pub invariant-loop-place : goal.invariant-loop-place
invariant-loop-place l = record {
  within : l.place ≤ length l.bytes;
  fewer : l.count ≤ l.place;
  all : l.count + count_errors (steps (first_in Encoding.Utf8) (drop l.place l.bytes))
      ≡ count_errors (steps (first_in Encoding.Utf8) l.bytes);
}

abbrev pub decreases-loop-place : goal.decreases-loop-place
decreases-loop-place l = length l.bytes - l.place
