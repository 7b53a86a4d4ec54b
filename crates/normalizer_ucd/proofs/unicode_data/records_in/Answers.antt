use Rattle.std.proofs.Common.{◌≡◌, ◌++◌, ℕ, List, Bor, None, map, refl}
use Rattle.std.specs.Option.{option_to_list}
use Rattle.std.proofs.lemmas.Result.{err_from_is_err_and}
use Rattle.normalizer_records.specs.RecordValue.{RecordValue}
use Rattle.std.specs.Prelude.{Option}
use Rattle.normalizer_ucd.specs.declared.error.UcdFile.TheVariants.{UnicodeData}
use Rattle.normalizer_ucd.specs.declared.exclusions.Exclusion.{Exclusion}
use Rattle.normalizer_ucd.specs.FileFaults.{data_findings, open_at_end}
use Rattle.normalizer_ucd.specs.FileLines.{data_lines_from, DataLine, record_by}
use Rattle.normalizer_ucd.specs.inner.DataFileLines.{position_by, value_of}
use Rattle.normalizer_ucd.proofs.Loop.{texts}
use Rattle.normalizer_ucd.proofs.Reading.{begins, done, ends, fails_later, goes_on, no_fault}
use Rattle.normalizer_ucd.proofs.unicode_data.records_in.Goals as goal

abbrev all : List (Bor (List ℕ)) → List DataLine
all parts = data_lines_from 1 None (texts parts)

abbrev record_at : List Exclusion → DataLine → Option RecordValue
record_at exclusions l = record_by (map (λ e. e.code) exclusions) l.text

pub loop-index-init : goal.loop-index-init
loop-index-init c =
    rw c.new-records.ensures.items
    (begins UnicodeData data_findings position_by (record_at c.args.exclusions.now) c.args.lines.now)

pub returns-in_err-next : goal.returns-in_err-next
returns-in_err-next c =
    let p = err_from_is_err_and c.from_residual.result c.from_residual.ensures.1 in
    let e = c.in_err-next.field-0.0 in
    rw (p.1, p.2)
    (ends UnicodeData data_findings position_by (record_at c.args.exclusions.now) c.args.lines.now e c.loop-index.index
    (value_of c.loop-index.position) c.loop-index.records.items _ _ c.loop-index-test.true
    (λ before same. c.in_err-next.ensures before same) c.loop-index.invariant)

pub loop-index-preserved : goal.loop-index-preserved
loop-index-preserved c =
    let e : c.push_found.new.found.items ≡ c.loop-index.records.items ++ option_to_list c.in_ok-next.record
    = c.in_ok-push_found.ensures in
    rw e
    (goes_on UnicodeData data_findings position_by (record_at c.args.exclusions.now) c.args.lines.now c.loop-index.index
    (value_of c.loop-index.position) (value_of c.in_ok-next.next) c.loop-index.records.items c.in_ok-next.record c.loop-index-test.true
    (λ before same. c.in_ok-next.ensures before same) c.loop-index.invariant)

pub returns-in_err-closed : goal.returns-in_err-closed
returns-in_err-closed c =
    let p = err_from_is_err_and c.from_residual-in_err-closed.result c.from_residual-in_err-closed.ensures.1 in
    let e = c.in_err-closed.field-0.0 in
    let whole = done UnicodeData data_findings position_by (record_at c.args.exclusions.now) c.args.lines.now
    c.loop-index.index (value_of c.loop-index.position) c.loop-index.records.items c.loop-index-test.false c.loop-index.invariant in
    rw (p.1, p.2) (fails_later e _ _ _ _ whole.right (c.in_err-closed.ensures (all c.args.lines.now) whole.state_is))

pub returns : goal.returns
returns c =
    let whole = done UnicodeData data_findings position_by (record_at c.args.exclusions.now) c.args.lines.now
    c.loop-index.index (value_of c.loop-index.position) c.loop-index.records.items c.loop-index-test.false c.loop-index.invariant in
    let closed = no_fault (open_at_end (all c.args.lines.now)) _ _ (c.in_ok-closed.ensures (all c.args.lines.now) whole.state_is) in
    rw (whole.right, closed.0, whole.front_is) refl
