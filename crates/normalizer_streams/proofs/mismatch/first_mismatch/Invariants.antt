use Rattle.std.proofs.Common.{◌≤◌, length}
use Rattle.icu_normalizer.specs.AnyNormalizers.{made_by}
use Rattle.normalizer_streams.specs.inner.Agreements.{IsReadTo}
use Rattle.normalizer_streams.proofs.mismatch.first_mismatch.Given as goal

-- what agrees and what is carried make up what was read: a byte a block, at least
abbrev pub invariant-loop : goal.invariant-loop
invariant-loop g l = record {
  reads : IsReadTo (made_by l.normalizer) (g.R.Source.bytes_left l.fn.reader) (g.R.Source.bytes_left l.reader) l.carried l.cursor;
  counted : l.counter ≤ length reads.read;
  read : (later : _) → g.R.Source.refusal l.reader later → g.R.Source.refusal l.fn.reader later;
}
