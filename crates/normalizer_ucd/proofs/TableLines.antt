-- Lines of a table with which nothing is wrong: each begins where the one before it ends.
use Rattle.std.proofs.Common.{◌≡◌, ◌⊎◌, ⊎_elim, inl, inr, ◌<◌, ◌≤◌, ℕ, ◌+◌, Bool, true, false, List, [], ◌∷◌}
use Rattle.std.proofs.Common.{suc, Option, Some, None, refl, sym, subst, arith}
use Rattle.std.specs.Prelude.{Contains, filter_map, nat_lt}
use Rattle.std.specs.Option.{option_map, option_to_list}
use Rattle.std.specs.List.{last_or}
use Rattle.std.proofs.lemmas.Bool.{ltb-true, ltb-false}
use Rattle.normalizer_records.specs.Ranges.{Uts46RangeValue}
use Rattle.normalizer_records.specs.RecordValue.{Status}
use Rattle.normalizer_records.proofs.RangeRecords.{AreRanges}
use Rattle.normalizer_ucd.specs.declared.error.UcdFile.TheVariants.{IdnaMappingTable}
use Rattle.normalizer_ucd.specs.declared.idna_table.Disallowed.{Disallowed}
use Rattle.normalizer_ucd.specs.Fields.{data_of, first, has_data, last, status}
use Rattle.normalizer_ucd.specs.FileFaults.{first_wrong, next_after, table_findings, wrong_at}
use Rattle.normalizer_ucd.specs.FileLines.{data_lines_from, DataLine, done, range_by}
use Rattle.normalizer_ucd.specs.IdnaTable.{Lists}
use Rattle.normalizer_ucd.specs.inner.Lines.{line_at, text_of}
use Rattle.normalizer_ucd.proofs.RisingLemmas.{first_right, lines_within}

record Joins (l : DataLine) : Type 0 where
  begin : ℕ
  end : ℕ
  first_is : first l.text ≡ Some begin
  last_is : last l.text ≡ Some end
  joins : next_after l.before ≡ begin
  fits : begin ≤ end

abbrev IsRight : DataLine → Type 0
IsRight l = wrong_at IdnaMappingTable table_findings l ≡ None

joins : (l : DataLine) → IsRight l → Joins l
joins l right = by (first l.text) (last l.text) refl refl
  where
    by_order : (a b : ℕ) (low high gap : Bool) → first l.text ≡ Some a → last l.text ≡ Some b →
        nat_lt a (next_after l.before) ≡ low → nat_lt b a ≡ high → nat_lt (next_after l.before) a ≡ gap → Joins l
    by_order a b true high gap f k x y z = absurd (let e = rw (f, k, x) at right in cc)
    by_order a b false true gap f k x y z = absurd (let e = rw (f, k, x, y) at right in cc)
    by_order a b false false true f k x y z = absurd (let e = rw (f, k, x, y, z) at right in cc)
    by_order a b false false false f k x y z =
        let above : next_after l.before ≤ a = ltb-false a (next_after l.before) x in
        let below : a ≤ next_after l.before = ltb-false (next_after l.before) a z in
        record {
          begin = a;
          end = b;
          first_is = f;
          last_is = k;
          joins = omega (arith, above, below);
          fits = ltb-false b a y;
        }

    by : (f k : Option ℕ) → first l.text ≡ f → last l.text ≡ k → Joins l
    by None k x y = absurd (let e = rw x at right in cc)
    by (Some a) None x y = absurd (let e = rw (x, y) at right in cc)
    by (Some a) (Some b) x y =
        by_order a b (nat_lt a (next_after l.before)) (nat_lt b a) (nat_lt (next_after l.before) a) x y refl refl refl

end_is : (l : DataLine) (j : Joins l) → next_after (Some l.text) ≡ j.end + 1
end_is l j = rw j.last_is refl

module _ (choice : Disallowed) where
  abbrev range_at : DataLine → Option Uts46RangeValue
  range_at l = range_by choice l.text

  -- the ranges of lines follow one another
  range_within : (l : DataLine) → Joins l →
      AreRanges (next_after l.before) (next_after (Some l.text)) (option_to_list (range_at l))
  range_within l j = rw (end_is l j, j.joins, j.first_is) (by (done choice l.text (status l.text)))
    where
      by : (o : Option Status) →
          AreRanges j.begin (j.end + 1) (option_to_list (option_map (λ s. record { first = j.begin; end = j.end + 1; status = s }) o))
      by None = let le = j.fits in omega arith
      by (Some s) = let le = j.fits in (omega arith, omega arith, omega arith)

  pub ranges_within : (n : ℕ) (before : Option DataLine) (parts : List (List ℕ)) →
      (let ls = data_lines_from n (text_of before) parts in first_wrong IdnaMappingTable table_findings ls ≡ None →
      AreRanges (next_after (text_of before)) (next_after (text_of (last_or before ls))) (filter_map range_at ls))
  ranges_within =
      lines_within (λ r. r.first) (λ r. r.end) IdnaMappingTable table_findings next_after range_at
      (λ l right. range_within l (joins l right))

-- a code point before the end of the lines is listed by one of them, or comes before them
abbrev IsListed : List (List ℕ) → ℕ → Type 0
IsListed parts c = (line : List ℕ) × Contains parts line × Lists line c

listed_by : (n : ℕ) (before : Option DataLine) (line : List ℕ) (c : ℕ) → IsRight (line_at n before line) →
    c < next_after (Some (data_of line)) → (c < next_after (text_of before)) ⊎ Lists line c
listed_by n before line c right lt = by (joins (line_at n before line) right) lt
  where
    by_low : (j : Joins (line_at n before line)) (b : Bool) → nat_lt c j.begin ≡ b → c < j.end + 1 →
        (c < next_after (text_of before)) ⊎ Lists line c
    by_low j true is ends =
        let low : c < j.begin = ltb-true c j.begin is in
        inl (subst (λ (e : ℕ). c < e) (sym j.joins) low)
    by_low j false is ends =
        let above : j.begin ≤ c = ltb-false c j.begin is in
        let below : c ≤ j.end = omega arith in
        inr (rw j.first_is above, rw j.last_is below)

    by : (j : Joins (line_at n before line)) → c < next_after (Some (data_of line)) →
        (c < next_after (text_of before)) ⊎ Lists line c
    by j lt = by_low j (nat_lt c j.begin) refl (subst (λ (e : ℕ). c < e) (end_is (line_at n before line) j) lt)

module _ (n : ℕ) (before : Option DataLine) (line : List ℕ) (parts : List (List ℕ)) (c : ℕ) where
  abbrev Reaches : Option DataLine → List (List ℕ) → List DataLine → Type 0
  Reaches b parts ls = first_wrong IdnaMappingTable table_findings ls ≡ None →
      c < next_after (text_of (last_or b ls)) → (c < next_after (text_of b)) ⊎ IsListed parts c

  later : IsListed parts c → IsListed (line ∷ parts) c
  later h = (h.0, (suc h.1.0, omega (arith, h.1.1), h.1.2), h.2)

  listed_later : ((b : Option DataLine) → Reaches b parts (data_lines_from (n + 1) (text_of b) parts)) →
      (b : Bool) → has_data line ≡ b →
      Reaches before (line ∷ parts) (data_lines_from n (text_of before) (line ∷ parts))
  listed_later rest true is right lt =
      let l = line_at n before line in
      let both = first_right (wrong_at IdnaMappingTable table_findings l)
      (first_wrong IdnaMappingTable table_findings (data_lines_from (n + 1) (Some l.text) parts)) (rw is at right) in
      ⊎_elim
      (λ here.
      ⊎_elim (λ low. inl low) (λ has. inr (line, (0, omega arith, refl), has)) (listed_by n before line c both.0 here))
      (λ has. inr (later has)) (rest (Some l) both.1 (rw is at lt))
  listed_later rest false is right lt =
      ⊎_elim (λ low. inl low) (λ has. inr (later has)) (rest before (rw is at right) (rw is at lt))

pub lines_list : (n : ℕ) (before : Option DataLine) (parts : List (List ℕ)) (c : ℕ) →
    (let ls = data_lines_from n (text_of before) parts in first_wrong IdnaMappingTable table_findings ls ≡ None →
    c < next_after (text_of (last_or before ls)) → (c < next_after (text_of before)) ⊎ IsListed parts c)
lines_list n before [] c right lt = inl lt
lines_list n before (line ∷ parts) c right lt =
    listed_later n before line parts c (λ b. lines_list (n + 1) b parts c) (has_data line) refl right lt
