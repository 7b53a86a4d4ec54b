-- Reading a run of marks.
use Rattle.std.specs.Prelude.{◌≡◌, ℕ, ◌+◌, ◌≤◌, Bool, List, [], ◌∷◌, ◌++◌, Option, Some, None, drop}
use Rattle.std.specs.Prelude.{if◌then◌else◌}
use Rattle.normal_forms.specs.Decomposition.{expand}
use Rattle.normal_forms.specs.Reading.{Reading, is_starter}
use Rattle.normal_forms.specs.ShortRuns.{buffer_limit, leading_length}
use Rattle.normalizer_tables.specs.declared.characters.IgnoredCharacters.{IgnoredCharacters}
use Rattle.normalizer_tables.specs.Characters.{Characters, has_class_form}
use Rattle.normalizer_tables.specs.Readings.{reading_by}
use Rattle.normalizer_text.specs.DecodingSteps.{IsBoundary}
use Rattle.normalizer_text.specs.Encodings.{Encoding, first_in, decoded_in}
use Rattle.normalizer_iterators.specs.declared.waiting.WaitingList.{WaitingList}
use Rattle.normalizer_iterators.specs.LazyReading.{SuitsLazyReading}
use Rattle.normalizer_iterators.specs.WaitingList.{item_count, reordered_text, AgreesWith}

-- the first character, if it is a starter
unfoldable pub starter_of : Reading → List ℕ → Option ℕ
starter_of d [] = None
starter_of d (c ∷ x) = if is_starter d c then Some c else None

-- what comes after that
unfoldable pub after_starter : Reading → List ℕ → List ℕ
after_starter d [] = []
after_starter d (c ∷ x) = if is_starter d c then x else c ∷ x

-- there is room for the lists of the characters that continue at the front of x, by data that can be read lazily
abbrev pub HasRoomForMarks : Characters → IgnoredCharacters → WaitingList → List ℕ → Type 0
HasRoomForMarks s ignored waiting x =
    let d = reading_by s ignored [] in
    SuitsLazyReading (has_class_form s) d × (item_count waiting + leading_length (has_class_form s) d x ≤ buffer_limit)

-- what the units from a position up to a place decode to is buffered
pub record MarksReadTo (f : ℕ → Bool) (d : Reading) (e : Encoding) (units : List ℕ) (position : ℕ) (old : WaitingList)
    (place : ℕ) (now : WaitingList) : Type 0 where
  pub boundary : IsBoundary (first_in e) units place
  pub forward : position ≤ place
  pub agrees : AgreesWith d now
  pub front : List ℕ
  pub parts : decoded_in e (drop position units) ≡ front ++ decoded_in e (drop place units)
  pub text : (rest : List ℕ) → reordered_text d old (expand d front ++ rest) ≡ reordered_text d now rest
  pub room : SuitsLazyReading f d → item_count now + leading_length f d (decoded_in e (drop place units))
      ≡ item_count old + leading_length f d (decoded_in e (drop position units))
