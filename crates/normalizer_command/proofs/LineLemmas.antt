-- The lines of a text: one after another, and by mappings that make the same.
use Rattle.std.proofs.Common.{◌≡◌, ℕ, ◌+◌, ◌==◌, ◌<◌, ◌≤◌, suc, Result, Ok, Err, IfOk, List, [], ◌∷◌, ◌++◌, length, drop, get_or, map, Bor, append-nil, append_assoc, refl, sym, ap, ◌∙◌, arith}
use Rattle.std.specs.Prelude.{bytes_eq, encode_utf8_all, not, ◌&&◌, OnOk}
use Rattle.std.specs.List.{join_with_byte, list_any}
use Rattle.std.proofs.lemmas.List.{length-map}
use Rattle.std.proofs.lemmas.List.Splits.{length-slice_split}
use Rattle.std.proofs.lemmas.List.Sums.{count_by-le-length}
use Rattle.std.proofs.Math.Dec.{eqb-suc-zero}
use Rattle.std.proofs.Math.Seq.{drop-cons}
use Rattle.std.proofs.Math.ListN.{drop_of_length-le}
use Rattle.icu_normalizer.specs.Uts46.{MapperData}
use Rattle.normalizer_command.specs.declared.command.Listing.{Listing}
use Rattle.normalizer_command.specs.declared.command.MapperTask.{MapperTask}
use Rattle.normalizer_command.specs.declared.command.MapperTask.TheVariants.{Map, Validate}
use Rattle.normalizer_command.specs.Making.{Mapping, Maps, mapping_of}
use Rattle.icu_normalizer.specs.Mapping.{is_valid_by}
use Rattle.normalizer_command.proofs.LineLaws.{encoded-append}
use Rattle.normalizer_command.specs.Lines.{invalid_lines, line_feed, lines_of, mapped_lines, told_unless}
use Rattle.normalizer_command.specs.inner.EachLine.{replies_to, reply_to}

abbrev pub texts : List (Bor (List ℕ)) → List (List ℕ)
texts lines = map (λ line. line.now) lines

abbrev pub line_at : List (Bor (List ℕ)) → ℕ → List ℕ
line_at lines i = (get_or lines i (record { ref_ptr = (0, 0); now = [] })).now

next_line : (lines : List (Bor (List ℕ))) (i : ℕ) → i < length lines → texts (drop i lines) ≡ line_at lines i ∷ texts (drop (i + 1) lines)
next_line lines i lt = let e : i + 1 ≡ suc i = omega arith in rw e (ap texts (drop-cons lines i (record { ref_ptr = (0, 0); now = [] }) lt))

-- a text has few lines
pub few-lines : {V E : Type 0} (items : V → List (Bor (List ℕ))) (text : List ℕ) (r : Result V E) → IfOk r (λ v. texts (items v) ≡ lines_of text) → IfOk r (λ v. length (items v) ≤ length text + 1)
few-lines items text (Ok v) h =
    omega (arith, ap length h, length-map (items v) (λ (line : Bor (List ℕ)). line.now), length-slice_split (λ c. c == 0x0A) text, count_by-le-length (λ c. c == 0x0A) text)
few-lines items text (Err e) h = tt

-- a text is appended after a beginning
pub appended : {V E : Type 0} (r : Result V E) (new now old front rest : List ℕ) → OnOk r (new ≡ now ++ encode_utf8_all rest) → now ≡ old ++ encode_utf8_all front
    → OnOk r (new ≡ old ++ encode_utf8_all (front ++ rest))
appended (Ok v) new now old front rest is begins =
    is ∙ ap (λ x. x ++ encode_utf8_all rest) begins ∙ append_assoc old (encode_utf8_all front) (encode_utf8_all rest) ∙ ap (λ x. old ++ x) (sym (encoded-append front rest))
appended (Err e) new now old front rest is begins = tt

module _ (task : MapperTask) (m : Mapping) (name : List ℕ) (lines : List (Bor (List ℕ))) (before i : ℕ) (output : List ℕ) where
  -- a line more in a loop
  pub one_more : (reply more all : List ℕ) → i < length lines → more ≡ output ++ reply → reply ≡ reply_to task m name (before + i) (line_at lines i)
      → output ++ replies_to task m name (before + i) (texts (drop i lines)) ≡ all → more ++ replies_to task m name (before + (i + 1)) (texts (drop (i + 1) lines)) ≡ all
  one_more reply more all lt grown is so_far =
      let e : before + i + 1 ≡ before + (i + 1) = omega arith in
      let rest = replies_to task m name (before + (i + 1)) (texts (drop (i + 1) lines)) in
      let now : replies_to task m name (before + i) (texts (drop i lines)) ≡ reply_to task m name (before + i) (line_at lines i) ++ rest =
      ap (replies_to task m name (before + i)) (next_line lines i lt) ∙ ap (λ k. reply_to task m name (before + i) (line_at lines i) ++ replies_to task m name k (texts (drop (i + 1) lines))) e in
      ap (λ x. x ++ rest) (grown ∙ ap (λ x. output ++ x) is) ∙ append_assoc output (reply_to task m name (before + i) (line_at lines i)) rest
      ∙ ap (λ x. output ++ x) (sym now) ∙ so_far

  -- no line is left
  pub is_done : (all : List ℕ) → length lines ≤ i → output ++ replies_to task m name (before + i) (texts (drop i lines)) ≡ all → output ≡ all
  is_done all le so_far =
      let none : replies_to task m name (before + i) (texts (drop i lines)) ≡ [] = rw (drop_of_length-le lines le) refl in
      sym (append-nil output) ∙ ap (λ x. output ++ x) (sym none) ∙ so_far

module _ where
  module _ (m : Mapping) (name : List ℕ) where
    joined : (first : List ℕ) (n : ℕ) (lines : List (List ℕ))
        → encode_utf8_all (join_with_byte line_feed (first ∷ map m.map lines)) ≡ encode_utf8_all first ++ replies_to Map m name (suc n) lines
    joined first n [] = sym (append-nil (encode_utf8_all first))
    joined first n (line ∷ lines) =
        let feed = line_feed ∷ [] in
        let rest = replies_to Map m name (suc (suc n)) lines in
        let e : suc n + 1 ≡ suc (suc n) = omega arith in
        let later : encode_utf8_all (join_with_byte line_feed (m.map line ∷ map m.map lines)) ≡ encode_utf8_all (m.map line) ++ rest = joined (m.map line) (suc n) lines in
        rw (eqb-suc-zero n, e) (encoded-append first (line_feed ∷ join_with_byte line_feed (m.map line ∷ map m.map lines))
        ∙ ap (λ x. encode_utf8_all first ++ x) (encoded-append feed (join_with_byte line_feed (m.map line ∷ map m.map lines))
        ∙ ap (λ x. encode_utf8_all feed ++ x) later ∙ sym (append_assoc (encode_utf8_all feed) (encode_utf8_all (m.map line)) rest)
        ∙ ap (λ x. x ++ rest) (sym (encoded-append feed (m.map line)))))

    pub map-replies : (lines : List (List ℕ)) → replies_to Map m name 0 lines ≡ mapped_lines m lines
    map-replies [] = refl
    map-replies (line ∷ lines) = sym (joined (m.map line) 0 lines)

    pub validate-replies : (l : Listing) (n : ℕ) (lines : List (List ℕ)) → replies_to (Validate l) m name n lines ≡ invalid_lines m name (n + 1) lines
    validate-replies l n [] = refl
    validate-replies l n (line ∷ lines) = ap (λ x. told_unless (is_valid_by m.validate line) name (n + 1) ++ x) (validate-replies l (n + 1) lines)

-- mappings that make the same of every text
module _ (h : MapperData) (m : Mapping) (maps : Maps h m) where
  mapped_each : (lines : List (List ℕ)) → map (mapping_of h).map lines ≡ map m.map lines
  mapped_each [] = refl
  mapped_each (line ∷ lines) = ap (λ x. x ∷ map (mapping_of h).map lines) (maps.same_map line) ∙ ap (λ xs. m.map line ∷ xs) (mapped_each lines)

  pub mapped_lines-by : (lines : List (List ℕ)) → mapped_lines (mapping_of h) lines ≡ mapped_lines m lines
  mapped_lines-by lines = ap (λ x. encode_utf8_all (join_with_byte line_feed x)) (mapped_each lines)

  pub invalid_lines-by : (name : List ℕ) (n : ℕ) (lines : List (List ℕ)) → invalid_lines (mapping_of h) name n lines ≡ invalid_lines m name n lines
  invalid_lines-by name n [] = refl
  invalid_lines-by name n (line ∷ lines) =
      ap (λ x. told_unless (not (list_any (λ c. c == 0xFFFD) line) && bytes_eq x line) name n ++ invalid_lines (mapping_of h) name (n + 1) lines) (maps.same_validate line)
      ∙ ap (λ x. told_unless (is_valid_by m.validate line) name n ++ x) (invalid_lines-by name (n + 1) lines)
