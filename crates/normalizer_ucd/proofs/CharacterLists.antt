-- A list of characters, if each of its parts is one.
use Rattle.std.proofs.Common.{◌≡◌, ◌<◌, ◌≤◌, ◌+◌, ℕ, List, [], ◌∷◌, length, map, Option, Some, None, refl, sym, ◌∙◌, ap, arith}
use Rattle.std.specs.Prelude.{◌==◌, count_by}
use Rattle.std.specs.Option.{option_and_then, option_map}
use Rattle.std.specs.List.{cons_option, filter_map, slice_split}
use Rattle.std.proofs.lemmas.List.Splits.{length-slice_split}
use Rattle.normalizer_ucd.specs.Fields.{all_some, character, characters}

-- the parts that are one
abbrev known : List (List ℕ) → List ℕ
known parts = filter_map character parts

most : (parts : List (List ℕ)) → length (known parts) ≤ length parts
most [] = omega arith
most (x ∷ parts) = by (character x) (most parts)
  where
    by : (o : Option ℕ) → length (known parts) ≤ length parts → length (cons_option o (known parts)) ≤ length (x ∷ parts)
    by None le = omega arith
    by (Some c) le = omega arith

each : (parts : List (List ℕ)) → length parts ≤ length (known parts) → all_some (map character parts) ≡ Some (known parts)
each [] le = refl
each (x ∷ parts) le = by (character x) (most parts) le (each parts)
  where
    by : (o : Option ℕ) → length (known parts) ≤ length parts →
        length (x ∷ parts) ≤ length (cons_option o (known parts)) →
        (length parts ≤ length (known parts) → all_some (map character parts) ≡ Some (known parts)) →
        option_and_then (λ c. option_map (λ cs. c ∷ cs) (all_some (map character parts))) o
        ≡ Some (cons_option o (known parts))
    by None most le rest = absurd (omega arith)
    by (Some c) most le rest = rw (rest (omega arith)) refl

not_each : (parts : List (List ℕ)) → length (known parts) < length parts → all_some (map character parts) ≡ None
not_each [] lt = absurd (omega arith)
not_each (x ∷ parts) lt = by (character x) lt (not_each parts)
  where
    by : (o : Option ℕ) → length (cons_option o (known parts)) < length (x ∷ parts) →
        (length (known parts) < length parts → all_some (map character parts) ≡ None) →
        option_and_then (λ c. option_map (λ cs. c ∷ cs) (all_some (map character parts))) o ≡ None
    by None lt rest = refl
    by (Some c) lt rest = rw (rest (omega arith)) refl

pub all : (text found : List ℕ) → found ≡ filter_map character (slice_split (λ b. b == 0x20) text) →
    count_by (λ b. b == 0x20) text < length found → Some found ≡ characters text
unfolding characters
all text found is lt =
    let parts = slice_split (λ b. b == 0x20) text in
    let many : length parts ≡ count_by (λ b. b == 0x20) text + 1 = length-slice_split (λ b. b == 0x20) text in
    let same : length found ≡ length (known parts) = ap length is in
    ap Some is ∙ sym (each parts (omega arith))

pub not_all : (text found : List ℕ) → found ≡ filter_map character (slice_split (λ b. b == 0x20) text) →
    length found ≤ count_by (λ b. b == 0x20) text → None ≡ characters text
unfolding characters
not_all text found is le =
    let parts = slice_split (λ b. b == 0x20) text in
    let many : length parts ≡ count_by (λ b. b == 0x20) text + 1 = length-slice_split (λ b. b == 0x20) text in
    let same : length found ≡ length (known parts) = ap length is in
    sym (not_each parts (omega arith))
