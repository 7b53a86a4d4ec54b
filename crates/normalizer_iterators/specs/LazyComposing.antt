-- What data and pairs must satisfy so that characters can be composed lazily.
use Rattle.std.specs.Prelude.{◌≡◌, ◌≢◌, ℕ, Bool, true, false, List, [], ◌∷◌, Some}
use Rattle.std.specs.Char.{IsScalar}
use Rattle.normal_forms.specs.Reading.{Reading, IsStarter}
use Rattle.normal_forms.specs.declared.Form.TheVariants.{Composing}
use Rattle.normal_forms.specs.Forms.{IsNormalized}
use Rattle.normal_forms.specs.Hypotheses.{HasFaithfulResults, HasStarterResults}
use Rattle.normal_forms.specs.ShortRuns.{continues}
use Rattle.normalizer_tables.specs.declared.characters.IgnoredCharacters.{IgnoredCharacters}
use Rattle.normalizer_tables.specs.declared.condition.Bounds.{Bounds}
use Rattle.normalizer_tables.specs.Characters.{Characters, has_class_form}
use Rattle.normalizer_tables.specs.conditions.PairConditions.{is_composing_passthrough}
use Rattle.normalizer_tables.specs.Pairs.{Pair}
use Rattle.normalizer_tables.specs.Readings.{reading_by}
use Rattle.normalizer_tables.specs.declared.characters.IgnoredCharacters.TheVariants.{Dropped}

-- a composing loop passes c
pub record IsComposingPassthrough (s : Characters) (b : Bounds) (c : ℕ) : Type 0 where
  pub scalar : IsScalar c
  pub passed : is_composing_passthrough s b c ≡ true

-- c is normalized and does not continue what comes before it, and its list begins with a starter that is second in no
-- pair
pub record IsNormalizedApart (has_class_form : ℕ → Bool) (d : Reading) (c : ℕ) : Type 0 where
  pub form : IsNormalized d Composing (c ∷ [])
  pub at_boundary : has_class_form c ≡ false
  pub are_nonempty : d.list c ≢ []
  pub safely : (first : ℕ) (others : List ℕ) → d.list c ≡ first ∷ others → IsStarter d first
      × ((a r : ℕ) → d.pair a first ≢ Some r)

-- the same over data and pairs
abbrev pub IsNormalizedApartIn : Characters → List Pair → IgnoredCharacters → ℕ → Type 0
IsNormalizedApartIn s pairs ignored = IsNormalizedApart (has_class_form s) (reading_by s ignored pairs)

-- no character that is passed continues what comes before it
pub record PassthroughHasBoundaries (s : Characters) (b : Bounds) (ignored : IgnoredCharacters) : Type 0 where
  pub at_boundary : (c : ℕ) → IsComposingPassthrough s b c →
      continues (has_class_form s) (reading_by s ignored []) c ≡ false

-- what pairs compose to are starters, what Hangul composes to has the lists of its parts, and each character that is
-- passed is normalized apart
pub record SuitsLazyComposing (s : Characters) (b : Bounds) (pairs : List Pair) : Type 0 where
  pub starters : HasStarterResults (reading_by s Dropped pairs)
  pub hangul : (ignored : IgnoredCharacters) → HasFaithfulResults (reading_by s ignored [])
  pub apart : (ignored : IgnoredCharacters) (c : ℕ) → IsComposingPassthrough s b c →
      IsNormalizedApartIn s pairs ignored c
