-- Data of entries, if characters in ranges are replaced by U+FFFD whatever the entries say.
use Rattle.std.specs.Prelude.{◌≡◌, ℕ, ◌<◌, ◌≤◌, true, false, List, [], ◌∷◌, All, Contains, Some, None}
use Rattle.normalizer_tables.specs.conditions.Conditions.{cap_limit, item_limit}
use Rattle.normalizer_tables.specs.Data.{Decompositions}
use Rattle.normalizer_tables.specs.Entries.{EntryValue, reading_of_entries}
use Rattle.normalizer_tables.specs.Pairs.{Pair}
use Rattle.normalizer_tables.specs.declared.entry.Kind.{Kind}
use Rattle.normalizer_tables.specs.declared.entry.Kind.TheVariants.{Canonical, Compatibility, Mapper}
use Rattle.normalizer_packing.specs.declared.Packed.{Packed}
use Rattle.normalizer_packing.specs.Caps.{IsBelowCap}
use Rattle.normalizer_packing.specs.Disallowed.{is_in}
use Rattle.normalizer_packing.specs.Flags.{IsFlagged, without_flags}
use Rattle.normalizer_packing.specs.Packing.{IsPackedWord}
use Rattle.normalizer_packing.specs.Spelling.{final_word}
use Rattle.normalizer_packing.specs.StepWords.{PacksSteps}
use Rattle.normalizer_packing.specs.Stored.{canonical_lists, needed_items, supplementary_lists, tables_of}
use Rattle.normalizer_packing.specs.TableWords.{HasWords}

-- w is the word of n, whose list is U+FFFD
pub record IsReplacedWord (entries : List EntryValue) (pairs : List Pair) (n w : ℕ) : Type 0 where
  pub final : (v : ℕ) → final_word n ≡ Some v → w ≡ v
  pub word : final_word n ≡ None → without_flags w ≡ 0xFFFD
  pub flags : final_word n ≡ None → IsFlagged (reading_of_entries entries pairs) pairs n (0xFFFD ∷ []) w

-- w is the word of n
pub record IsWordBeside (ranges : List (ℕ × ℕ)) (kind : Kind) (entries : List EntryValue) (pairs : List Pair) (n w : ℕ)
    : Type 0 where
  pub replaced : is_in ranges n ≡ true → IsReplacedWord entries pairs n w
  pub packed : is_in ranges n ≡ false → IsPackedWord kind entries pairs n w

-- a composing loop may pass n without looking up its word
abbrev pub MayPass : List (ℕ × ℕ) → Kind → List EntryValue → List Pair → ℕ → Type 0
MayPass ranges kind entries pairs n = (is_in ranges n ≡ false) × IsBelowCap kind entries pairs n

-- the least character that may not be passed so, but at most the limit
pub record IsCapBeside (ranges : List (ℕ × ℕ)) (kind : Kind) (entries : List EntryValue) (pairs : List Pair) (cap : ℕ)
    : Type 0 where
  pub within : cap ≤ cap_limit
  pub before : (n : ℕ) → n < cap → MayPass ranges kind entries pairs n
  pub at : cap < cap_limit → ¬ MayPass ranges kind entries pairs cap

-- one kind of decomposition data
pub record PacksKindBeside (ranges : List (ℕ × ℕ)) (kind : Kind) (entries : List EntryValue) (pairs : List Pair)
    (d : Decompositions) : Type 0 where
  pub words : HasWords (IsWordBeside ranges kind entries pairs) d.table
  pub cap : IsCapBeside ranges kind entries pairs d.cap

-- all data: characters are replaced in those of the mapper alone
pub record PacksReplaced (ranges : List (ℕ × ℕ)) (entries : List EntryValue) (pairs : List Pair) (p : Packed)
    : Type 0 where
  pub canonical : PacksKindBeside [] Canonical entries pairs p.canonical
  pub compatibility : PacksKindBeside [] Compatibility entries pairs p.compatibility
  pub mapper : PacksKindBeside ranges Mapper entries pairs p.mapper
  pub tables : p.tables ≡ tables_of (canonical_lists entries)
  pub supplementary_tables : p.supplementary_tables ≡ tables_of (supplementary_lists entries)
  pub within : needed_items entries ≤ item_limit
  pub compositions : p.compositions ≡ pairs
  pub supplement : PacksSteps entries p.supplement

-- the two ends of a range
abbrev pub ends : ℕ × ℕ → List ℕ
ends r = r.0 ∷ r.1 ∷ []

-- the ends of the ranges are listed
abbrev pub HasEnds : List (ℕ × ℕ) → List ℕ → Type 0
HasEnds ranges breakpoints = All (λ r. Contains breakpoints r.0 × Contains breakpoints r.1) ranges
