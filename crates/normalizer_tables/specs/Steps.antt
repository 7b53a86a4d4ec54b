-- One step of canonical decomposition: the canonical mapping of a character, applied once (The Unicode Standard,
-- section 3.7; D68 repeats it, and orders what comes of it).
use Rattle.std.specs.Prelude.{ℕ, ◌+◌, ◌-◌, ◌/◌, ◌%◌, ◌^◌, Bool, not, ◌&&◌, ◌==◌, nat_le, bit_and, List, [], ◌∷◌, length}
use Rattle.std.specs.Prelude.{Option, Some, None, option_and_then, if◌then◌else◌}
use Rattle.std.specs.Int.{is_in_range}
use Rattle.normalizer_tables.specs.declared.step.Step.{Step}
use Rattle.normalizer_tables.specs.declared.step.Step.TheVariants.{Default, Singleton, Expansion}
use Rattle.normalizer_tables.specs.declared.word.WordReading.{WordReading}
use Rattle.normalizer_tables.specs.declared.word.WordReading.TheVariants.{Itself, ClassForm, SpecialForm, TwoCharacters}
use Rattle.normalizer_tables.specs.declared.word.WordReading.TheVariants.{OneCharacter, Listed}
use Rattle.normalizer_tables.specs.Table.{word_at}
use Rattle.normalizer_tables.specs.Data.{Supplement}
use Rattle.normalizer_tables.specs.Hangul.{s_base, t_base, t_count, is_hangul_syllable, hangul_decomposition}
use Rattle.normalizer_tables.specs.Characters.{Characters, reading_of_word, as_text, items_at, list_read}

-- a mapping to one character, or to two
unfoldable pub step_to : List ℕ → Option Step
step_to (a ∷ []) = Some (Singleton a)
step_to (a ∷ b ∷ []) = Some (Expansion a b)
step_to x = None

-- the step of a mapping, if there is one
unfoldable pub step_by : Option (List ℕ) → Option Step
step_by mapping = option_and_then step_to mapping

-- an LV syllable maps to its leading consonant and vowel, an LVT syllable to the LV syllable and its trailing consonant
-- (section 3.12)
unfoldable pub hangul_mapping : ℕ → List ℕ
hangul_mapping c =
    let trailing = (c - s_base) % t_count in
    if trailing == 0 then hangul_decomposition c else (c - trailing) ∷ (t_base + trailing) ∷ []

-- what a word of the supplement names: the lead in its low 16 bits and the trail in its high 16, the lead alone, or, if
-- there is only the trail, the two characters at the places trail - 1 and trail of the supplement's list
unfoldable pub supplementary_mapping : List ℕ → ℕ → Option (List ℕ)
supplementary_mapping scalars w =
    let lead = bit_and w 0xFFFF in
    let trail = w / 2 ^ 16 in
    if not (lead == 0) && not (trail == 0) then as_text (lead ∷ trail ∷ [])
    else if not (lead == 0) then as_text (lead ∷ [])
    else if not (trail == 0) then items_at scalars (trail - 1) 2
    else None

-- the step that the supplement decides
unfoldable pub supplementary_step : Supplement → ℕ → Option Step
supplementary_step t n = step_by (supplementary_mapping t.scalars24 (word_at t.table n))

-- among these are the characters with oxia, which map to those with tonos
unfoldable pub may_have_oxia : ℕ → Bool
may_have_oxia n = is_in_range 0x1F71 0x1FFB n

-- a list of one or two members is the mapping itself, except for U+212B ANGSTROM SIGN, which maps to U+00C5
unfoldable pub listed_step : Supplement → ℕ → List ℕ → Option Step
listed_step t n x =
    if n == 0x212B then Some (Singleton 0x00C5)
    else if nat_le (length x) 2 then step_to x
    else supplementary_step t n

-- two characters are the mapping itself, except for characters with oxia
unfoldable pub two_characters_step : Characters → Supplement → ℕ → Option Step
two_characters_step s t n = if may_have_oxia n then supplementary_step t n else step_by (list_read s [] n)

-- by the reading of the word; no step if it doesn't read, or reads to the list of U+FDFA, which is no canonical mapping
unfoldable pub step_of_reading : Characters → Supplement → ℕ → WordReading → Option Step
step_of_reading s t n Itself = Some Default
step_of_reading s t n (ClassForm k) = Some Default
step_of_reading s t n (SpecialForm k) = step_by (list_read s [] n)
step_of_reading s t n (TwoCharacters a b) = two_characters_step s t n
step_of_reading s t n (OneCharacter a) = step_by (list_read s [] n)
step_of_reading s t n (Listed item low rest_are_marks) = option_and_then (listed_step t n) (list_read s [] n)
step_of_reading s t n _ = None

-- the step of a scalar value
unfoldable pub step_of : Characters → Supplement → ℕ → Option Step
step_of s t n =
    if is_hangul_syllable n then step_by (as_text (hangul_mapping n)) else step_of_reading s t n (reading_of_word s n)
