use Rattle.std.proofs.Common.{◌≡◌, ◌++◌, ℕ, List, Bor, None, refl}
use Rattle.std.specs.Option.{option_to_list}
use Rattle.std.proofs.lemmas.Result.{err_from_is_err_and}
use Rattle.normalizer_records.specs.Ranges.{Uts46RangeValue}
use Rattle.std.specs.Prelude.{Option}
use Rattle.normalizer_ucd.specs.declared.error.UcdFile.TheVariants.{IdnaMappingTable}
use Rattle.normalizer_ucd.specs.declared.idna_table.Disallowed.{Disallowed}
use Rattle.normalizer_ucd.specs.FileFaults.{table_findings, too_short}
use Rattle.normalizer_ucd.specs.FileLines.{data_lines_from, DataLine, range_by}
use Rattle.normalizer_ucd.specs.inner.TableLines.{covered_by}
use Rattle.normalizer_ucd.proofs.Loop.{texts}
use Rattle.normalizer_ucd.proofs.Reading.{begins, done, ends, fails_later, goes_on, no_fault}
use Rattle.normalizer_ucd.proofs.idna_table.ranges_in.Goals as goal

abbrev all : List (Bor (List ℕ)) → List DataLine
all parts = data_lines_from 1 None (texts parts)

abbrev range_at : Disallowed → DataLine → Option Uts46RangeValue
range_at choice l = range_by choice l.text

pub loop-index-init : goal.loop-index-init
loop-index-init c =
    rw c.new-ranges.ensures.items
    (begins IdnaMappingTable table_findings covered_by (range_at c.args.disallowed) c.args.lines.now)

pub returns-in_err-next : goal.returns-in_err-next
returns-in_err-next c =
    let p = err_from_is_err_and c.from_residual.result c.from_residual.ensures.1 in
    let e = c.in_err-next.field-0.0 in
    rw (p.1, p.2)
    (ends IdnaMappingTable table_findings covered_by (range_at c.args.disallowed) c.args.lines.now e c.loop-index.index
    c.loop-index.covered c.loop-index.ranges.items _ _ c.loop-index-test.true
    (λ before same. c.in_err-next.ensures before same) c.loop-index.invariant)

pub loop-index-preserved : goal.loop-index-preserved
loop-index-preserved c =
    let e : c.push_found.new.found.items ≡ c.loop-index.ranges.items ++ option_to_list c.in_ok-next.range
    = c.in_ok-push_found.ensures in
    rw e
    (goes_on IdnaMappingTable table_findings covered_by (range_at c.args.disallowed) c.args.lines.now c.loop-index.index
    c.loop-index.covered c.in_ok-next.next c.loop-index.ranges.items c.in_ok-next.range c.loop-index-test.true
    (λ before same. c.in_ok-next.ensures before same) c.loop-index.invariant)

pub returns-in_err-full : goal.returns-in_err-full
returns-in_err-full c =
    let p = err_from_is_err_and c.from_residual-in_err-full.result c.from_residual-in_err-full.ensures.1 in
    let e = c.in_err-full.field-0.0 in
    let whole = done IdnaMappingTable table_findings covered_by (range_at c.args.disallowed) c.args.lines.now
    c.loop-index.index c.loop-index.covered c.loop-index.ranges.items c.loop-index-test.false c.loop-index.invariant in
    rw (p.1, p.2) (fails_later e _ _ _ _ whole.right (c.in_err-full.ensures (all c.args.lines.now) whole.state_is))

pub returns : goal.returns
returns c =
    let whole = done IdnaMappingTable table_findings covered_by (range_at c.args.disallowed) c.args.lines.now
    c.loop-index.index c.loop-index.covered c.loop-index.ranges.items c.loop-index-test.false c.loop-index.invariant in
    let full = no_fault (too_short (all c.args.lines.now)) _ _ (c.in_ok-full.ensures (all c.args.lines.now) whole.state_is) in
    rw (whole.right, full.0, whole.front_is) refl
