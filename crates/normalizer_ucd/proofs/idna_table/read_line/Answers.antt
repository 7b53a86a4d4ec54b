use Rattle.std.proofs.Common.{◌≡◌, ◌+◌, ◌==◌, ℕ, List, true, false, length, not, sym, subst, ap, ◌∙◌, refl}
use Rattle.std.specs.Prelude.{Option}
use Rattle.std.specs.Option.{unwrap_or}
use Rattle.std.proofs.lemmas.Result.{err_from_is_err_and}
use Rattle.normalizer_records.specs.Ranges.{Uts46RangeValue}
use Rattle.normalizer_ucd.specs.declared.error.UcdFile.TheVariants.{IdnaMappingTable}
use Rattle.normalizer_ucd.specs.declared.idna_table.Covered.{Covered}
use Rattle.normalizer_ucd.specs.declared.idna_table.Disallowed.{Disallowed}
use Rattle.normalizer_ucd.specs.Fields.{data_of, has_data, last}
use Rattle.normalizer_ucd.specs.FileFaults.{table_findings, wrong_at}
use Rattle.normalizer_ucd.specs.FileLines.{DataLine, range_by}
use Rattle.normalizer_ucd.specs.inner.Lines.{line_at}
use Rattle.normalizer_ucd.specs.inner.TableLines.{AreFieldsOf, covered_by}
use Rattle.normalizer_ucd.proofs.Reading.{no_fault, refused, stated}
use Rattle.normalizer_ucd.proofs.idna_table.read_line.Goals as goal

abbrev range_at : Disallowed → DataLine → Option Uts46RangeValue
range_at choice l = range_by choice l.text

pub returns-in_err-check : goal.returns-in_err-check
returns-in_err-check c before same =
    let p = err_from_is_err_and c.from_residual-in_err-check.result c.from_residual-in_err-check.ensures.1 in
    let text : c.data_of-text.result.now ≡ data_of c.args.line.now = c.data_of-text.ensures in
    let are = subst (λ (t : List ℕ). AreFieldsOf t c.in_ok-fields.fields) text c.in_ok-fields.ensures.value in
    let none : (length c.data_of-text.result.now == 0) ≡ false = sym c.is_empty.ensures ∙ c.if-is_empty.false in
    let has : has_data c.args.line.now ≡ true = ap not (subst (λ (t : List ℕ). (length t == 0) ≡ false) text none) in
    rw (p.1, p.2)
    (refused IdnaMappingTable table_findings covered_by (range_at c.args.disallowed) c.args.number before c.args.line.now
    c.in_err-check.field-0.0 tt has
    (c.in_err-check.ensures (line_at c.args.number before c.args.line.now) are refl (ap (λ (k : Covered). k.end) same)))

pub returns : goal.returns
returns c before same =
    let text : c.data_of-text.result.now ≡ data_of c.args.line.now = c.data_of-text.ensures in
    let are = subst (λ (t : List ℕ). AreFieldsOf t c.in_ok-fields.fields) text c.in_ok-fields.ensures.value in
    let none : (length c.data_of-text.result.now == 0) ≡ false = sym c.is_empty.ensures ∙ c.if-is_empty.false in
    let has : has_data c.args.line.now ≡ true = ap not (subst (λ (t : List ℕ). (length t == 0) ≡ false) text none) in
    let l = line_at c.args.number before c.args.line.now in
    let right = no_fault (wrong_at IdnaMappingTable table_findings l) (tt {0}) (tt {0})
    (c.in_ok-check.ensures l are refl (ap (λ (k : Covered). k.end) same)) in
    let last_is : c.unwrap_or-end.result ≡ unwrap_or (last (data_of c.args.line.now)) 0
    = c.unwrap_or-end.ensures ∙ ap (λ (o : Option ℕ). unwrap_or o 0) are.last in
    stated IdnaMappingTable table_findings covered_by (range_at c.args.disallowed) c.args.number before c.args.line.now
    (record { end = c.unwrap_or-end.result + 1; line = c.args.number }) c.range_of-range.result has right.0
    (ap (λ (n : ℕ). let k : Covered = record { end = n + 1; line = c.args.number } in k) last_is)
    (c.range_of-range.ensures (data_of c.args.line.now) are (ap (λ (n : ℕ). n + 1) last_is))
