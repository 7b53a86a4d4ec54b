-- The words of the supplement: one step of decomposition, if the word of canonical data doesn't determine it.
use Rattle.std.specs.Prelude.{◌≡◌, ℕ, ◌+◌, ◌*◌, Bool, false, not, ◌&&◌, ◌==◌, nat_lt, nat_le, List, [], ◌∷◌, length}
use Rattle.std.specs.Prelude.{take, filter_map, Option, Some, None, if◌then◌else◌}
use Rattle.std.specs.Int.{is_in_range}
use Rattle.normalizer_tables.specs.Data.{Supplement}
use Rattle.normalizer_tables.specs.Words.{is_class_form}
use Rattle.normalizer_tables.specs.declared.step.Step.{Step}
use Rattle.normalizer_tables.specs.declared.step.Step.TheVariants.{Default, Singleton, Expansion}
use Rattle.normalizer_packing.specs.declared.spelling.Spelling.TheVariants.{Final, Short, Listed}
use Rattle.normalizer_tables.specs.Entries.{EntryValue, class_in, entry_of}
use Rattle.normalizer_packing.specs.Spelling.{spelling}
use Rattle.normalizer_packing.specs.Stored.{first_come, items_of, place_of}
use Rattle.normalizer_packing.specs.TableWords.{HasWords}

-- the most items of the supplement's table, which holds lists of two: an even number up to 0xFFFF
abbrev pub step_limit : ℕ
step_limit = 0xFFFE

-- one step needs the supplement: for a word that spells two characters in a part of the Greek block, and for a longer
-- list in the tables than one step may have. One step of U+212B is known without it, whatever its list.
unfoldable pub asks_supplement : (ℕ → ℕ) → EntryValue → Bool
asks_supplement class e = elim (spelling class e.character (Some e.canonical)) [
  | Final w ↦ false
  | Short w ↦ not (is_class_form w) && ((length e.canonical == 2) && is_in_range 0x1F71 0x1FFB e.character)
  | Listed ↦ not (e.character == 0x212B) && nat_lt 2 (length e.canonical)
]

-- the step that needs the supplement
unfoldable pub asked_step : List EntryValue → EntryValue → Step
asked_step entries e = if asks_supplement (class_in entries) e then e.mapping else Default

-- two characters that a word of the supplement spells
unfoldable pub are_narrow : ℕ → ℕ → Bool
are_narrow a b = nat_le a 0xFFFF && nat_le b 0xFFFF

-- the step, if it is of two characters that only the table can hold
unfoldable pub stored_step : Step → Option (List ℕ)
stored_step Default = None
stored_step (Singleton a) = None
stored_step (Expansion a b) = if are_narrow a b then None else Some (a ∷ b ∷ [])

-- those that characters need, by rising character
unfoldable pub stored_steps : List EntryValue → List (List ℕ)
stored_steps entries = filter_map (λ e. stored_step (asked_step entries e)) entries

-- the same, equal ones once, in the order in which characters first need them
unfoldable pub step_lists : List EntryValue → List (List ℕ)
step_lists entries = first_come (stored_steps entries)

-- the word that points to a place, or none if two characters there are past what the supplement's table may have
abbrev pub word_of_place : ℕ → ℕ
word_of_place place = if nat_le (place + 2) step_limit then (place + 1) * 0x10000 else 0

-- the word of a step, if the table holds these lists
unfoldable pub word_of_step : List (List ℕ) → Step → ℕ
word_of_step lists Default = 0
word_of_step lists (Singleton a) = if nat_le a 0xFFFF then a else 0
word_of_step lists (Expansion a b) =
    if are_narrow a b then a + b * 0x10000 else word_of_place (place_of lists (a ∷ b ∷ []))

-- the step that the supplement has of a number
unfoldable pub step_in : List EntryValue → ℕ → Step
step_in entries n = elim (entry_of entries n) [ Some e ↦ asked_step entries e | None ↦ Default ]

-- a word for each step that is needed, and the table as far as it may have items: a step past it has no word
pub record PacksSteps (entries : List EntryValue) (s : Supplement) : Type 0 where
  pub words : HasWords (λ n w. w ≡ word_of_step (step_lists entries) (step_in entries n)) s.table
  pub items : s.scalars24 ≡ take step_limit (items_of false (step_lists entries))
