use Rattle.std.proofs.Common.{◌≡◌, rules, Err, refl, []}
use Rattle.normalizer_tables.specs.Readings.{reading_by}
use Rattle.normalizer_tables.specs.declared.characters.IgnoredCharacters.TheVariants.{Dropped}
use Rattle.normalizer_iterators.specs.declared.error.NormalizeError.TheVariants.{Memory}
use Rattle.normalizer_calls.proofs.passthrough.RunParts.{IsPart-segment}
use Rattle.normalizer_calls.proofs.written_forms.PartLemmas.{HasShortRuns-part, WritesText-segment_refused, WrotePart-segment, not_handed_on}
use Rattle.normalizer_calls.proofs.written_forms.WritingLemmas.{TookBeginning-nothing, WritesText-same}
use Rattle.normalizer_calls.proofs.writing.write_buffered_segment.Goals as goal

pub returns-in_err-put_in_order-clause-written : goal.returns-in_err-put_in_order-clause-written
returns-in_err-put_in_order-clause-written g c =
    let is : c.from_residual-in_err-put_in_order.result ≡ Err Memory = search rules in
    rw is (record {
      segment = tt;
      part = tt;
      refused = record { written = tt; ahead = tt; fault = λ k. absurd (cc); refusal = λ k. absurd (cc); begun = λ _. TookBeginning-nothing _ _ _ _ };
    })

pub returns-in_err-put_in_order-clause-room : goal.returns-in_err-put_in_order-clause-room
returns-in_err-put_in_order-clause-room g c = λ short. absurd (cc (c.in_err-put_in_order.ensures.small (c.in_ok-read.ensures.small short c.if-fits.true)))

pub write_buffered-requires : goal.write_buffered-requires
write_buffered-requires g c =
    let d = reading_by (g.N.Forming.read_by c.args.normalizer.now) Dropped [] in
    let ordered = c.in_ok-put_in_order.ensures.read d g.U.Units.encoding (g.U.Units.units c.args.units) _ (c.in_ok-read.ensures.read c.if-fits.true) in
    (c.what_is_buffered_is_the_form.ensures.form g.U.Units.encoding (g.U.Units.units c.args.units) _ _ ordered).agrees

pub returns-in_err-write_buffered-clause-written : goal.returns-in_err-write_buffered-clause-written
returns-in_err-write_buffered-clause-written g c =
    let d = reading_by (g.N.Forming.read_by c.args.normalizer.now) Dropped [] in
    let ordered = c.in_ok-put_in_order.ensures.read d g.U.Units.encoding (g.U.Units.units c.args.units) _ (c.in_ok-read.ensures.read c.if-fits.true) in
    let form = (c.what_is_buffered_is_the_form.ensures.form g.U.Units.encoding (g.U.Units.units c.args.units) _ _ ordered).form in
    let part = IsPart-segment _ _ _ _ _ (g.met.N.Forming.apart c.args.normalizer.now) _ c.in_ok-read.ensures.segment.end in
    let is : c.from_residual-in_err-write_buffered.result ≡ Err c.in_err-write_buffered.field-0.0 = search rules in
    rw is (record {
      segment = tt;
      part = tt;
      refused = WritesText-segment_refused part refl
          (WritesText-same form (rw c.in_err-write_buffered.was at c.write_buffered.ensures.text));
    })

pub returns-then-fits-clause-written : goal.returns-then-fits-clause-written
returns-then-fits-clause-written g c =
    let d = reading_by (g.N.Forming.read_by c.args.normalizer.now) Dropped [] in
    let ordered = c.in_ok-put_in_order.ensures.read d g.U.Units.encoding (g.U.Units.units c.args.units) _ (c.in_ok-read.ensures.read c.if-fits.true) in
    let form = (c.what_is_buffered_is_the_form.ensures.form g.U.Units.encoding (g.U.Units.units c.args.units) _ _ ordered).form in
    let part = IsPart-segment _ _ _ _ _ (g.met.N.Forming.apart c.args.normalizer.now) _ c.in_ok-read.ensures.segment.end in record {
      segment = c.in_ok-read.ensures.segment;
      part = WrotePart-segment part refl (WritesText-same form (rw c.in_ok-write_buffered.was at c.write_buffered.ensures.text));
      refused = tt;
    }

pub returns-in_err-write_items-clause-written : goal.returns-in_err-write_items-clause-written
returns-in_err-write_items-clause-written g c =
    let part = IsPart-segment _ _ _ _ _ (g.met.N.Forming.apart c.args.normalizer.now) _ c.in_ok-read.ensures.segment.end in
    let is : c.from_residual-in_err-write_items.result ≡ Err c.in_err-write_items.field-0.0 = search rules in
    rw is (record {
      segment = tt;
      part = tt;
      refused = WritesText-segment_refused part c.before-2.ensures (rw c.in_err-write_items.was at c.write_items.ensures.text);
    })

pub returns-in_err-write_items-clause-room : goal.returns-in_err-write_items-clause-room
returns-in_err-write_items-clause-room g c = λ short.
    let part = IsPart-segment _ _ _ _ _ (g.met.N.Forming.apart c.args.normalizer.now) _ c.in_ok-read.ensures.segment.end in
    let is : c.from_residual-in_err-write_items.result ≡ Err c.in_err-write_items.field-0.0 = search rules in
    not_handed_on c.in_err-write_items.was is (c.write_items.ensures.room (HasShortRuns-part part c.before-2.ensures short))

pub returns-clause-written : goal.returns-clause-written
returns-clause-written g c =
    let part = IsPart-segment _ _ _ _ _ (g.met.N.Forming.apart c.args.normalizer.now) _ c.in_ok-read.ensures.segment.end in record {
      segment = c.in_ok-read.ensures.segment;
      part = WrotePart-segment part c.before-2.ensures (rw c.in_ok-write_items.was at c.write_items.ensures.text);
      refused = tt;
    }
