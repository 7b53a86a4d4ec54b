-- What CompositionExclusions.txt lists.
use Rattle.std.proofs.Common.{◌≡◌, ℕ, Bool, true, false, List, [], ◌∷◌, map, Option, Some, None, refl, ap}
use Rattle.std.specs.Prelude.{◌==◌, ◌||◌, filter_map}
use Rattle.std.specs.List.{list_any}
use Rattle.normalizer_records.specs.RecordValue.{RecordValue}
use Rattle.normalizer_ucd.specs.declared.error.UcdFile.TheVariants as files
use Rattle.normalizer_ucd.specs.declared.exclusions.Exclusion.{Exclusion}
use Rattle.normalizer_ucd.specs.Fields.{code}
use Rattle.normalizer_ucd.specs.FileLines.{DataLine, listed}
use Rattle.normalizer_ucd.specs.FileFaults.{first_wrong, is_mapped, mapping_findings}
use Rattle.normalizer_ucd.specs.inner.DataFileLines.{exclusion_by, first_unmapped}

pub any_code : (exclusions : List Exclusion) (c : ℕ) →
    list_any (λ e. e.code == c) exclusions ≡ list_any (λ n. n == c) (map (λ e. e.code) exclusions)
any_code [] c = refl
any_code (e ∷ exclusions) c = ap (λ b. (e.code == c) || b) (any_code exclusions c)

pub codes_are : (ls : List DataLine) → map (λ e. e.code) (filter_map exclusion_by ls) ≡ listed ls
codes_are [] = refl
codes_are (l ∷ ls) = by (code l.text) refl (codes_are ls)
  where
    by : (o : Option ℕ) → code l.text ≡ o → map (λ e. e.code) (filter_map exclusion_by ls) ≡ listed ls →
        map (λ e. e.code) (filter_map exclusion_by (l ∷ ls)) ≡ listed (l ∷ ls)
    by None is rest = rw is rest
    by (Some c) is rest = rw is (ap (λ cs. c ∷ cs) rest)

module _ (records : List RecordValue) where
  abbrev AreSo : List DataLine → Type 0
  AreSo ls = first_unmapped records (filter_map exclusion_by ls)
      ≡ first_wrong files.CompositionExclusions (mapping_findings records) ls

  pub unmapped_is : (ls : List DataLine) → AreSo ls
  unmapped_is [] = refl
  unmapped_is (l ∷ ls) = by (code l.text) refl (unmapped_is ls)
    where
      by_mapped : (c : ℕ) (b : Bool) → code l.text ≡ Some c → is_mapped records c ≡ b → AreSo ls → AreSo (l ∷ ls)
      by_mapped c true is has rest = rw (is, has) rest
      by_mapped c false is has rest = rw (is, has) refl

      by : (o : Option ℕ) → code l.text ≡ o → AreSo ls → AreSo (l ∷ ls)
      by None is rest = rw is rest
      by (Some c) is rest = by_mapped c (is_mapped records c) is refl rest
