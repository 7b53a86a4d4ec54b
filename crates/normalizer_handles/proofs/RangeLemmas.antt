-- Ranges of the mapper's records that list none.
use Rattle.std.specs.Prelude.{Bool, true, false, not, if◌then◌else◌, ◌==◌, length}
use Rattle.std.proofs.Common.{◌≡◌, ◌-◌, List, [], ◌∷◌, refl, ◌∙◌}
use Rattle.std.specs.List.{flat_map, list_all, range_with_len}
use Rattle.std.proofs.lemmas.List.Concat.{length-flat_map}
use Rattle.std.proofs.lemmas.List.Folds.{sum_by-zero}
use Rattle.icu_normalizer.specs.MapperRanges.{entries_at, entries_of, Uts46RangeValue}
use Rattle.icu_normalizer.specs.RecordValue.{Uts46RecordValue}
use Rattle.normalizer_ucd.specs.Fields.{is_scalar_value}

-- all parts together are empty if and only if each is
pub empty_together : {X A : Type 0} (f : X → List A) (xs : List X)
    → (length (flat_map f xs) == 0) ≡ list_all (λ x. length (f x) == 0) xs
empty_together f xs = rw (length-flat_map f xs) (sum_by-zero (λ x. length (f x)) xs)

same_tests : {X : Type 0} (p q : X → Bool) → ((x : X) → p x ≡ q x) → (xs : List X) → list_all p xs ≡ list_all q xs
same_tests p q same [] = refl
same_tests p q same (x ∷ xs) = rw (same x, same_tests p q same xs) refl

listed_if : (is_character : Bool) (r : Uts46RecordValue)
    → (length (if is_character then r ∷ [] else []) == 0) ≡ not is_character
listed_if true r = refl
listed_if false r = refl

-- a range lists no records if and only if it has no characters
pub has_no_character : (r : Uts46RangeValue) → (length (entries_of r) == 0)
    ≡ list_all (λ c. not (is_scalar_value c)) (range_with_len r.first (r.end - r.first))
unfolding entries_of
has_no_character r =
    let codes = range_with_len r.first (r.end - r.first) in
    empty_together (entries_at r.status) codes
    ∙ same_tests (λ c. length (entries_at r.status c) == 0) (λ c. not (is_scalar_value c))
    (λ c. listed_if (is_scalar_value c) (record { c = c; status = r.status })) codes
