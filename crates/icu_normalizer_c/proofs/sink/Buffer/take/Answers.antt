use Rattle.icu_normalizer_c.proofs.OverwritingLemmas.{still_had, still_has, still_counts}
use Rattle.icu_normalizer_c.proofs.sink.Buffer.take.Goals as goal

pub invariant_of-self : goal.invariant_of-self
invariant_of-self g c =
    let b = c.args.self.now in
    let o = c.overwrite_after.ensures in
    let v = c.overwrite_after.new.buffer in
    let us = c.as_slice-units.result.now in
    let and = c.and-history.ensures in
    record {
      had = still_had b.units.now v b.history.units _ us b.count _ o.fits b.had b.counts o.len and;
      has = still_has b.units.now v b.history.units _ us b.count _ o.fits b.had b.counts o.len and b.has
          (rw c.as_slice-units.ensures o.after);
      counts = still_counts b.units.now v b.history.units _ us b.count _ o.fits b.had b.counts o.len and _
          c.saturating_add-count.ensures;
    }
