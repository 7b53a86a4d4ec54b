-- Characters of which it is only recorded that the mapper disallows them: they are packed as ranges, beside entries.
use Rattle.std.specs.Prelude.{◌≡◌, ℕ, Bool, true, not, ◌&&◌, nat_le, List, [], ◌∷◌, All, Contains, filter, Some}
use Rattle.std.specs.Char.{IsScalar}
use Rattle.std.specs.List.{list_any}
use Rattle.normalizer_tables.specs.Entries.{EntryValue}
use Rattle.normalizer_tables.specs.Pairs.{Pair}
use Rattle.normalizer_tables.specs.declared.step.Step.TheVariants.{Default}
use Rattle.normalizer_packing.specs.declared.Packed.{Packed}
use Rattle.normalizer_packing.specs.Packing.{Packs}

-- the number is in one of the ranges, each of a first and a last number
unfoldable pub is_in : List (ℕ × ℕ) → ℕ → Bool
is_in ranges n = list_any (λ r. nat_le r.0 n && nat_le n r.1) ranges

-- a starter that decomposes to itself, and that the mapper replaces by U+FFFD
abbrev pub disallowed_entry : ℕ → EntryValue
disallowed_entry n = record {
  character = n;
  class = 0;
  canonical = n ∷ [];
  compatibility = n ∷ [];
  mapper = Some (0xFFFD ∷ []);
  mapping = Default;
}

-- all entries are those of the characters in the ranges, and these others
pub record AreBeside (ranges : List (ℕ × ℕ)) (entries all : List EntryValue) : Type 0 where
  pub others : entries ≡ filter (λ e. not (is_in ranges e.character)) all
  pub disallowed : All (λ e. is_in ranges e.character ≡ true → e ≡ disallowed_entry e.character) all
  pub each : (n : ℕ) → IsScalar n → is_in ranges n ≡ true → Contains all (disallowed_entry n)

-- the data pack the entries of the characters in the ranges, and these others
unfoldable pub PacksBeside : List (ℕ × ℕ) → List EntryValue → List Pair → Packed → Type 0
PacksBeside ranges entries pairs p = (all : List EntryValue) → AreBeside ranges entries all → Packs all pairs p
