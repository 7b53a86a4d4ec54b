-- What data must satisfy so that characters can be read lazily.
use Rattle.std.specs.Prelude.{◌≡◌, ℕ, ◌≤◌, Bool, false, List, [], ◌∷◌, length}
use Rattle.normal_forms.specs.Reading.{Reading, IsStarter}
use Rattle.normal_forms.specs.ShortRuns.{HasShortRuns}
use Rattle.normalizer_tables.specs.declared.characters.IgnoredCharacters.{IgnoredCharacters}
use Rattle.normalizer_tables.specs.Characters.{Characters, class_of, has_class_form}
use Rattle.normalizer_tables.specs.Readings.{reading_by}

-- the classes of the reading are those of the data
abbrev pub HasClassesFrom : Characters → Reading → Type 0
HasClassesFrom s d = (c : ℕ) → d.class c ≡ class_of s c

-- the most members that a list has
abbrev pub longest_list : ℕ
longest_list = 18

-- the list of a character without class form begins with a starter, if there is one, and no list is longer than any
-- that words name
pub record SuitsLazyReading (has_class_form : ℕ → Bool) (d : Reading) : Type 0 where
  pub starters : (c first : ℕ) (others : List ℕ) → has_class_form c ≡ false → d.list c ≡ first ∷ others
      → IsStarter d first
  pub short : (c : ℕ) → length (d.list c) ≤ longest_list

-- the data can be read lazily, and by them the text has short runs
abbrev pub HasShortLazyRuns : Characters → IgnoredCharacters → List ℕ → Type 0
HasShortLazyRuns s ignored x =
    let d = reading_by s ignored [] in SuitsLazyReading (has_class_form s) d × HasShortRuns (has_class_form s) d x
