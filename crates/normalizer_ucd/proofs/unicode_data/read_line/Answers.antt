use Rattle.std.proofs.Common.{◌≡◌, ◌+◌, ◌==◌, ℕ, List, true, false, length, map, not, sym, subst, ap, ◌∙◌, refl}
use Rattle.std.specs.Prelude.{None, Option, Some, if◌then◌else◌}
use Rattle.std.specs.Option.{option_copied, unwrap_or}
use Rattle.std.proofs.lemmas.Result.{err_from_is_err_and}
use Rattle.normalizer_records.specs.RecordValue.{RecordValue}
use Rattle.normalizer_ucd.specs.declared.error.UcdFile.TheVariants.{UnicodeData}
use Rattle.normalizer_ucd.specs.declared.exclusions.Exclusion.{Exclusion}
use Rattle.normalizer_ucd.specs.Fields.{begins_range, code, data_of, has_data}
use Rattle.normalizer_ucd.specs.FileFaults.{data_findings, wrong_at}
use Rattle.normalizer_ucd.specs.FileLines.{DataLine, record_by}
use Rattle.normalizer_ucd.specs.inner.Lines.{line_at}
use Rattle.normalizer_ucd.specs.inner.DataFileLines.{AreFieldsOf, position_by, PositionValue}
use Rattle.normalizer_ucd.proofs.Reading.{no_fault, refused, stated}
use Rattle.normalizer_ucd.proofs.unicode_data.read_line.Goals as goal

abbrev record_at : List Exclusion → DataLine → Option RecordValue
record_at exclusions l = record_by (map (λ e. e.code) exclusions) l.text

abbrev position : ℕ → Option (List ℕ) → ℕ → PositionValue
position n range line = record { next = n + 1; range = range; line = line }

position_is : (n m line : ℕ) (range other : Option (List ℕ)) → n ≡ m → range ≡ other →
    position n range line ≡ position m other line
position_is n m line range other same are = rw (same, are) refl

pub returns-in_err-check : goal.returns-in_err-check
returns-in_err-check c before same =
    let p = err_from_is_err_and c.from_residual-in_err-check.result c.from_residual-in_err-check.ensures.1 in
    let text : c.data_of-text.result.now ≡ data_of c.args.line.now = c.data_of-text.ensures in
    let none : (length c.data_of-text.result.now == 0) ≡ false = sym c.is_empty.ensures ∙ c.if-is_empty.false in
    let has : has_data c.args.line.now ≡ true = ap not (subst (λ (t : List ℕ). (length t == 0) ≡ false) text none) in
    let wrong = rw text at (c.in_err-check.ensures before same c.in_ok-fields.ensures.value) in
    rw (p.1, p.2)
    (refused UnicodeData data_findings position_by (record_at c.args.exclusions.now) c.args.number before c.args.line.now
    c.in_err-check.field-0.0 tt has wrong)

pub returns : goal.returns
returns c before same =
    let text : c.data_of-text.result.now ≡ data_of c.args.line.now = c.data_of-text.ensures in
    let are = subst (λ (t : List ℕ). AreFieldsOf t c.in_ok-fields.fields) text c.in_ok-fields.ensures.value in
    let none : (length c.data_of-text.result.now == 0) ≡ false = sym c.is_empty.ensures ∙ c.if-is_empty.false in
    let has : has_data c.args.line.now ≡ true = ap not (subst (λ (t : List ℕ). (length t == 0) ≡ false) text none) in
    let l = line_at c.args.number before c.args.line.now in
    let checked = rw text at (c.in_ok-check.ensures before same c.in_ok-fields.ensures.value) in
    let right = no_fault (wrong_at UnicodeData data_findings l) (tt {0}) (tt {0}) checked in
    let least : c.unwrap_or-least.result ≡ unwrap_or (code (data_of c.args.line.now)) 0
    = c.unwrap_or-least.ensures ∙ ap (λ (o : Option ℕ). unwrap_or o 0) are.code in
    let begun : (if c.in_ok-fields.fields.begins then Some c.data_of-text.result.now else None)
    ≡ (if begins_range (data_of c.args.line.now) then Some (data_of c.args.line.now) else None)
    = rw (text, are.begins) refl in
    stated UnicodeData data_findings position_by (record_at c.args.exclusions.now) c.args.number before c.args.line.now
    (position c.unwrap_or-least.result (option_copied c.opened-range.result) c.args.number) c.record_of-record.result has
    right.0
    (position_is c.unwrap_or-least.result (unwrap_or (code (data_of c.args.line.now)) 0) c.args.number
    (option_copied c.opened-range.result)
    (if begins_range (data_of c.args.line.now) then Some (data_of c.args.line.now) else None) least
    (c.opened-range.ensures ∙ begun))
    (c.record_of-record.ensures (data_of c.args.line.now) are)
