use Rattle.std.proofs.Common.{◌-◌, ◌≤◌, length, take}
use Rattle.icu_normalizer.specs.DecodingSteps.{IsWellFormed}
use Rattle.icu_normalizer.specs.Encodings.{Encoding, first_in}
use Rattle.normalizer_streams.proofs.ill_formed.first_error.Given as goal

abbrev pub invariant-loop-place : goal.invariant-loop-place
invariant-loop-place l = record {
  within : l.place ≤ length l.bytes;
  front : IsWellFormed (first_in Encoding.Utf8) (take l.place l.bytes);
}

abbrev pub decreases-loop-place : goal.decreases-loop-place
decreases-loop-place l = length l.bytes - l.place
