-- The records of UnicodeData.txt are sorted by character.
use Rattle.std.proofs.Common.{◌≡◌, ◌≤◌, ◌+◌, ℕ, Bool, true, false, List, [], ◌∷◌, Option, Some, None, Ok, refl, subst, arith}
use Rattle.std.specs.Prelude.{◌&&◌, filter_map, find, if◌then◌else◌}
use Rattle.std.specs.Option.{option_map, option_to_list, unwrap_or}
use Rattle.std.specs.List.{last_or}
use Rattle.std.proofs.lemmas.Bool.{ltb-false}
use Rattle.normalizer_records.specs.Faults.{AreRising}
use Rattle.normalizer_records.specs.RecordValue.{RecordValue}
use Rattle.normalizer_records.proofs.RisingLemmas.{rising, AreWithin}
use Rattle.normalizer_ucd.specs.declared.error.LineFault.{LineFault}
use Rattle.normalizer_ucd.specs.declared.error.Place.{Place}
use Rattle.normalizer_ucd.specs.declared.error.Problem.{Problem}
use Rattle.normalizer_ucd.specs.declared.error.UcdFile.TheVariants as files
use Rattle.normalizer_ucd.specs.FallibleReads.{fault}
use Rattle.normalizer_ucd.specs.Fields.{code, lines}
use Rattle.normalizer_ucd.specs.FileFaults.{data_findings, fault_of_files, first_wrong, Findings, listing_findings, wrong_at}
use Rattle.normalizer_ucd.specs.Versions.{other_version, stated_in}
use Rattle.normalizer_ucd.specs.Wholes.{cut_off}
use Rattle.normalizer_ucd.specs.FileLines.{data_lines, DataLine, is_of_character, listed, record_by, states_some}
use Rattle.normalizer_ucd.specs.UnicodeData.{records_of}
use Rattle.normalizer_ucd.specs.inner.DataFileLines.{next_after}
use Rattle.normalizer_ucd.specs.inner.Lines.{text_of}
use Rattle.normalizer_ucd.proofs.Reading.{no_fault}
use Rattle.normalizer_ucd.proofs.RisingLemmas.{first_right, lines_within}

-- of findings of which none is found none is so
abbrev AreNotSo : Findings → Type 0
AreNotSo [] = Unit {0}
AreNotSo (x ∷ xs) = (x.1 ≡ false) × AreNotSo xs

not_so : (f : Problem × Bool → LineFault) (xs : Findings) → option_map f (find (λ found. found.1) xs) ≡ None → AreNotSo xs
not_so f [] h = tt
not_so f (x ∷ xs) h = by x.1 refl h (not_so f xs)
  where
    by : (b : Bool) → x.1 ≡ b → option_map f (if b then Some x else find (λ found. found.1) xs) ≡ None →
        (option_map f (find (λ found. found.1) xs) ≡ None → AreNotSo xs) → AreNotSo (x ∷ xs)
    by true is h rest = absurd (cc)
    by false is h rest = (is, rest h)

rises : (l : DataLine) → wrong_at files.UnicodeData data_findings l ≡ None →
    next_after l.before ≤ unwrap_or (code l.text) 0
rises l right =
    let place : Place = record { file = files.UnicodeData; line = l.number } in
    let none = not_so (λ found. fault place found.0) (data_findings l) right in
    ltb-false (unwrap_or (code l.text) 0) (next_after l.before) none.1.1.1.1.0

abbrev character : RecordValue → ℕ
character r = r.c

module _ (listed : List ℕ) where
  abbrev record_at : DataLine → Option RecordValue
  record_at l = record_by listed l.text

  record_within : (l : DataLine) → wrong_at files.UnicodeData data_findings l ≡ None →
      AreWithin character (next_after l.before) (next_after (Some l.text)) (option_to_list (record_at l))
  record_within l right = by (states_some l.text && is_of_character l.text) refl (rises l right)
    where
      by : (b : Bool) → (states_some l.text && is_of_character l.text) ≡ b →
          next_after l.before ≤ unwrap_or (code l.text) 0 →
          AreWithin character (next_after l.before) (next_after (Some l.text)) (option_to_list (record_at l))
      by true is le = rw is (le, omega arith, omega arith)
      by false is le = rw is (omega arith)

  records_within : (file : List ℕ) →
      first_wrong files.UnicodeData data_findings (data_lines file) ≡ None →
      AreRising (filter_map record_at (data_lines file))
  records_within file right =
      rising character 0 (next_after (text_of (last_or None (data_lines file)))) _
      (lines_within character (λ r. r.c + 1) files.UnicodeData data_findings next_after record_at record_within 1 None
      (lines file) right)

pub records_are_rising : (unicode_data exclusions : List ℕ) (records : List RecordValue) →
    records_of unicode_data exclusions ≡ Ok records → AreRising records
unfolding records_of
records_are_rising unicode_data exclusions records h =
    let read = no_fault (fault_of_files unicode_data exclusions) _ records h in
    let cut = first_right (cut_off files.CompositionExclusions exclusions) _ read.0 in
    let whole = first_right (cut_off files.UnicodeData unicode_data) _ cut.1 in
    let same = first_right (other_version (stated_in (lines exclusions)) files.UnicodeData (stated_in (lines unicode_data)))
    _ whole.1 in
    let listing = first_right (first_wrong files.CompositionExclusions listing_findings (data_lines exclusions)) _ same.1 in
    let lined = first_right (first_wrong files.UnicodeData data_findings (data_lines unicode_data)) _ listing.1 in
    subst AreRising read.1 (records_within (listed (data_lines exclusions)) unicode_data lined.0)
