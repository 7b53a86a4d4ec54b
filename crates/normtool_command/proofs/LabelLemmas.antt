-- The lines of fields that are valid, one field more.
use Rattle.std.proofs.Common.{◌≡◌, ℕ, true, false, List, [], ◌∷◌, ◌++◌, ◌+◌, ◌<◌, IsTrue, Some, length, take, get_or, map, Bor, append-nil, append_assoc, refl, sym, ap, ◌∙◌}
use Rattle.std.proofs.lemmas.List.{take_more, map-append}
use Rattle.std.proofs.lemmas.List.Elements.{filter-append, All-push, All-pop}
use Rattle.std.proofs.lemmas.Grind.{flat_map-append}
use Rattle.icu_normalizer.specs.Uts46.{MapperData}
use Rattle.normalizer_io.specs.declared.outcome.Answer.{Answer}
use Rattle.normalizer_io.specs.declared.outcome.Answer.TheVariants.{Done, No}
use Rattle.icu_normalizer.specs.Mapping.{is_valid}
use Rattle.normtool_command.specs.OffenceLines.{line_feed}
use Rattle.normtool_command.specs.Labels.{label_lines, TellsLabels}

passed_more : (items : List (Bor (List ℕ))) (i : ℕ) (d : Bor (List ℕ)) → i < length items
    → map (λ part. part.now) (take (i + 1) items) ≡ map (λ part. part.now) (take i items) ++ (get_or items i d).now ∷ []
passed_more items i d within = ap (λ xs. map (λ part. part.now) xs) (take_more items i d within) ∙ map-append (λ part. part.now) (take i items) (get_or items i d ∷ [])

label_lines-valid : (h : MapperData) (xs : List (List ℕ)) (x : List ℕ) → is_valid h x ≡ true → label_lines h (xs ++ x ∷ []) ≡ label_lines h xs ++ (x ++ (line_feed ∷ []))
label_lines-valid h xs x kept = rw (filter-append (is_valid h) xs (x ∷ []), kept, flat_map-append) (ap (λ more. label_lines h xs ++ more) (append-nil (x ++ (line_feed ∷ []))))

label_lines-other : (h : MapperData) (xs : List (List ℕ)) (x : List ℕ) → is_valid h x ≡ false → label_lines h (xs ++ x ∷ []) ≡ label_lines h xs
label_lines-other h xs x other = rw (filter-append (is_valid h) xs (x ∷ []), other, append-nil)

-- a field that is valid adds its line
pub TellsLabels-valid : (h : MapperData) (items : List (Bor (List ℕ))) (i : ℕ) (d : Bor (List ℕ)) (a b : Answer) (before field more : List ℕ) → i < length items
    → is_valid h (get_or items i d).now ≡ true → b ≡ a → field ≡ before ++ (get_or items i d).now → more ≡ field ++ line_feed ∷ []
    → TellsLabels h (map (λ part. part.now) (take i items)) a before → TellsLabels h (map (λ part. part.now) (take (i + 1) items)) b more
TellsLabels-valid h items i d a b before field more within kept same added ended told =
    let xs = map (λ part. part.now) (take i items) in
    let x = (get_or items i d).now in
    rw (passed_more items i d within, same, ended, added) (record {
      all = (
        (λ done. All-push (λ f. IsTrue (is_valid h f)) xs x (told.all.0 done) kept),
        λ all. told.all.1 (All-pop (λ f. IsTrue (is_valid h f)) (xs ++ x ∷ []) xs (Some x) refl all).0,
      );
      valid = append_assoc before x (line_feed ∷ []) ∙ ap (λ ls. ls ++ (x ++ (line_feed ∷ []))) told.valid ∙ sym (label_lines-valid h xs x kept);
    })

-- any other makes the answer no, and adds no line
pub TellsLabels-other : (h : MapperData) (items : List (Bor (List ℕ))) (i : ℕ) (d : Bor (List ℕ)) (a b : Answer) (before more : List ℕ) → i < length items
    → is_valid h (get_or items i d).now ≡ false → b ≡ No → more ≡ before
    → TellsLabels h (map (λ part. part.now) (take i items)) a before → TellsLabels h (map (λ part. part.now) (take (i + 1) items)) b more
TellsLabels-other h items i d a b before more within other negative same told =
    let xs = map (λ part. part.now) (take i items) in
    let x = (get_or items i d).now in
    rw (passed_more items i d within, negative, same) (record {
      all = (
        (λ done. absurd (let wrong : No ≡ Done = done in cc)),
        λ all. let holds : is_valid h x ≡ true = (All-pop (λ f. IsTrue (is_valid h f)) (xs ++ x ∷ []) xs (Some x) refl all).1 in cc (sym other ∙ holds),
      );
      valid = told.valid ∙ sym (label_lines-other h xs x other);
    })
