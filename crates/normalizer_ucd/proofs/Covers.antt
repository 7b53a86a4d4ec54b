-- The lines of a table that is read list each code point.
use Rattle.std.proofs.Common.{◌≡◌, ⊎_elim, ℕ, ◌<◌, Bool, true, false, List, Some, None, Result, Ok, Err, refl, arith, sym, subst}
use Rattle.std.specs.Prelude.{◌==◌, OnOk, if◌then◌else◌}
use Rattle.std.specs.List.{last_or}
use Rattle.std.proofs.lemmas.Bool.{eqb-true}
use Rattle.normalizer_ucd.specs.declared.error.LineFault.{LineFault}
use Rattle.normalizer_ucd.specs.declared.error.UcdError.{UcdError}
use Rattle.normalizer_ucd.specs.declared.error.UcdFile.TheVariants.{IdnaMappingTable}
use Rattle.normalizer_ucd.specs.Fields.{lines}
use Rattle.normalizer_ucd.specs.FileFaults.{fault_of_table, first_wrong, next_after, table_findings, too_short}
use Rattle.normalizer_ucd.specs.FileLines.{data_lines}
use Rattle.normalizer_ucd.specs.IdnaTable.{ListsAll}
use Rattle.normalizer_ucd.specs.Wholes.{cut_off}
use Rattle.normalizer_ucd.specs.Versions.{other_version, stated_in}
use Rattle.normalizer_ucd.specs.FallibleReads.{Gives, unless}
use Rattle.normalizer_ucd.specs.inner.Lines.{text_of}
use Rattle.normalizer_ucd.proofs.Reading.{no_fault}
use Rattle.normalizer_ucd.proofs.RisingLemmas.{first_right}
use Rattle.normalizer_ucd.proofs.TableLines.{lines_list}

-- nothing is wrong with a table: not with its lines, which go on to the end
pub table_right : (exclusions table : List ℕ) → fault_of_table exclusions table ≡ None →
    (first_wrong IdnaMappingTable table_findings (data_lines table) ≡ None) × (too_short (data_lines table) ≡ None)
table_right exclusions table right =
    let whole = first_right (cut_off IdnaMappingTable table) _ right in
    let same = first_right (other_version (stated_in (lines exclusions)) IdnaMappingTable (stated_in (lines table))) _ whole.1 in
    let lined = first_right (first_wrong IdnaMappingTable table_findings (data_lines table)) _ same.1 in
    (lined.0, (first_right (too_short (data_lines table)) _ lined.1).0)

full : (b : Bool) (e : LineFault) → (if b then None else Some e) ≡ None → b ≡ true
full true e h = refl
full false e h = absurd (cc)

-- what is read is of a table that lists each code point
pub whole : {V Y : Type 0} (view : V → Y) (exclusions table : List ℕ) (y : Y) (result : Result V UcdError) →
    Gives view result (unless (fault_of_table exclusions table) y) → OnOk result (ListsAll (lines table))
whole view exclusions table y (Err e) h = tt
whole view exclusions table y (Ok v) h =
    let right = table_right exclusions table (no_fault (fault_of_table exclusions table) y (view v) h).0 in
    let last = last_or None (data_lines table) in
    let end : next_after (text_of last) ≡ 0x110000
    = eqb-true (next_after (text_of last)) 0x110000 (full (next_after (text_of last) == 0x110000) _ right.1) in
    λ c lt.
    ⊎_elim (λ (low : c < 0). absurd (omega arith)) (λ has. has)
    (lines_list 1 None (lines table) c right.0 (subst (λ (e : ℕ). c < e) (sym end) lt))
