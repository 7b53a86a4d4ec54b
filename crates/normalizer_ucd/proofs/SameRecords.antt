-- Lists that rise and have the same elements are the same, and files whose lines mean the same state the same records.
use Rattle.std.proofs.Common.{◌≡◌, inl, inr, ◌<◌, ℕ, suc, List, [], ◌∷◌, length, get_or, Option, Some, None, Ok, refl, sym, ap, subst}
use Rattle.std.proofs.Common.{◌∙◌, arith}
use Rattle.std.specs.Prelude.{AllPairs, Contains}
use Rattle.std.specs.List.{filter_map, flat_map}
use Rattle.normalizer_records.specs.RecordValue.{RecordValue, Uts46RecordValue}
use Rattle.normalizer_records.specs.Ranges.{entries_of}
use Rattle.normalizer_ucd.specs.declared.idna_table.Disallowed.{Disallowed}
use Rattle.normalizer_ucd.specs.declared.idna_table.StatusName.{StatusName}
use Rattle.normalizer_ucd.specs.declared.idna_table.StatusName.TheVariants as names
use Rattle.normalizer_ucd.specs.Fields.{status, code, data_of, lines}
use Rattle.normalizer_ucd.specs.FileLines.{done, data_lines, listed as listed_by, range_by, record_by}
use Rattle.normalizer_ucd.specs.FileFaults.{fault_of_files, fault_of_table}
use Rattle.normalizer_ucd.specs.UnicodeData.{records_of}
use Rattle.normalizer_ucd.specs.IdnaTable.{uts46_records_beside, uts46_records_of}
use Rattle.normalizer_ucd.specs.Layouts.{MeansTheSame, MeanTheSame}
use Rattle.normalizer_ucd.proofs.Reading.{unless_ok}
use Rattle.normalizer_ucd.proofs.LinesStated.{first_has, later_has, none_has, pick, same_stated}

module _ {X : Type 0} (key : X → ℕ) where
  abbrev Rises : List X → Type 0
  Rises xs = AllPairs (λ x y. key x < key y) xs

  after : (x : X) (xs : List X) → Rises (x ∷ xs) → (y : X) → Contains xs y → key x < key y
  after x xs rises y (k, lt, at) =
      let within : suc k < length (x ∷ xs) = omega arith in
      let below : key x < key (get_or xs k y) = rises 0 (suc k) y (omega arith) within in
      subst (λ (z : X). key x < key z) at below

  later : (x : X) (xs : List X) → Rises (x ∷ xs) → Rises xs
  later x xs rises i j d lt within =
      let more : suc j < length (x ∷ xs) = omega arith in rises (suc i) (suc j) d (omega arith) more

  keep : (x y : X) (xs ys : List X) → Rises (x ∷ xs) → y ≡ x → ((z : X) → Contains (x ∷ xs) z → Contains (y ∷ ys) z) →
      (z : X) → Contains xs z → Contains ys z
  keep x y xs ys rises is f z has = elim (pick z y ys (f z (later_has x z xs has))) [
    | inl same ↦
        let lt = after x xs rises z has in
        let e : key x ≡ key z = ap key (sym is ∙ same) in
        absurd (omega arith)
    | inr there ↦ there
  ]

  heads : (x y : X) (xs ys : List X) → Rises (x ∷ xs) → Rises (y ∷ ys) → Contains (y ∷ ys) x → Contains (x ∷ xs) y → y
      ≡ x
  heads x y xs ys h k has there = elim (pick x y ys has) [
    | inl is ↦ is
    | inr below ↦ elim (pick y x xs there) [
      | inl is ↦ sym is
      | inr above ↦
          let a = after y ys k x below in
          let b = after x xs h y above in
          absurd (omega arith)
    ]
  ]

  pub same_list : (xs ys : List X) → Rises xs → Rises ys → ((z : X) → Contains xs z → Contains ys z) →
      ((z : X) → Contains ys z → Contains xs z) → xs ≡ ys
  same_list [] [] h k f g = refl
  same_list [] (y ∷ ys) h k f g = absurd (none_has y (g y (first_has y ys)))
  same_list (x ∷ xs) [] h k f g = absurd (none_has x (f x (first_has x xs)))
  same_list (x ∷ xs) (y ∷ ys) h k f g =
      let is : y ≡ x = heads x y xs ys h k (f x (first_has x xs)) (g y (first_has y ys)) in
      let rest : xs ≡ ys
      = same_list xs ys (later x xs h) (later y ys k) (keep x y xs ys h is f) (keep y x ys xs k (sym is) g) in
      ap (λ (z : X). z ∷ xs) (sym is) ∙ ap (λ (zs : List X). y ∷ zs) rest

-- Layouts

one_record : (listed : List ℕ) (line other : List ℕ) → MeansTheSame line other →
    record_by listed (data_of line) ≡ record_by listed (data_of other)
one_record listed line other h = rw (h.fields 0, h.fields 1, h.fields 3, h.fields 5) refl

one_code : (line other : List ℕ) → MeansTheSame line other → code (data_of line) ≡ code (data_of other)
one_code line other h = rw (h.fields 0) refl

one_done : (choice : Disallowed) (line other : List ℕ) → MeansTheSame line other → (o : Option StatusName) →
    done choice (data_of line) o ≡ done choice (data_of other) o
one_done choice line other h None = refl
one_done choice line other h (Some names.Valid) = refl
one_done choice line other h (Some names.Ignored) = refl
one_done choice line other h (Some names.Mapped) = rw (h.fields 2) refl
one_done choice line other h (Some names.Disallowed) = rw (h.fields 0) refl

one_range : (choice : Disallowed) (line other : List ℕ) → MeansTheSame line other →
    range_by choice (data_of line) ≡ range_by choice (data_of other)
one_range choice line other h =
    rw (one_done choice line other h (status (data_of line)), h.fields 0, h.fields 1) refl

pub files_same : (unicode_data exclusions other listed : List ℕ) (records found : List RecordValue) →
    MeanTheSame (lines unicode_data) (lines other) → MeanTheSame (lines exclusions) (lines listed) →
    records_of unicode_data exclusions ≡ Ok records → records_of other listed ≡ Ok found → records ≡ found
unfolding records_of
files_same unicode_data exclusions other listed records found h k r f =
    let es = listed_by (data_lines exclusions) in
    let fs = listed_by (data_lines listed) in
    sym (unless_ok (fault_of_files unicode_data exclusions) _ records r)
    ∙ same_stated (record_by es) (one_record es) 1 None None (lines unicode_data) (lines other) h
    ∙ ap (λ (cs : List ℕ). filter_map (λ l. record_by cs l.text) (data_lines other))
    (same_stated code one_code 1 None None (lines exclusions) (lines listed) k)
    ∙ unless_ok (fault_of_files other listed) _ found f

pub tables_same : (choice : Disallowed) (table other : List ℕ) (records found : List Uts46RecordValue) →
    MeanTheSame (lines table) (lines other) → uts46_records_of choice table ≡ Ok records →
    uts46_records_of choice other ≡ Ok found → records ≡ found
unfolding uts46_records_beside
tables_same choice table other records found h r f =
    sym (unless_ok (fault_of_table [] table) _ records r)
    ∙ ap (flat_map entries_of)
    (same_stated (range_by choice) (one_range choice) 1 None None (lines table) (lines other) h)
    ∙ unless_ok (fault_of_table [] other) _ found f
