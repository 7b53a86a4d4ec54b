-- What a normalizer's data are to its calls.
use Rattle.std.specs.Prelude.{◌≡◌, ◌<◌, ◌||◌, ◌++◌, ℕ, nat_lt, not, true, All, List, []}
use Rattle.std.specs.Char.{IsScalar}
use Rattle.normal_forms.specs.Order.{order}
use Rattle.normal_forms.specs.declared.Form.TheVariants.{Decomposing, Composing}
use Rattle.normalizer_tables.specs.declared.condition.Bounds.{Bounds}
use Rattle.normalizer_passing.specs.PassBytes.{byte_of}
use Rattle.normalizer_tables.specs.PassingWords.{IsComposingByte}
use Rattle.normalizer_check.specs.RequiredConditions.{SuitsTexts}
use Rattle.normalizer_tables.specs.Characters.{Characters, has_class_form, list_of, word_of}
use Rattle.normalizer_tables.specs.Pairs.{Pair}
use Rattle.normalizer_tables.specs.conditions.PairConditions.{is_taken_as_boundary}
use Rattle.normalizer_tables.specs.Readings.{reading_by}
use Rattle.normalizer_tables.specs.Passthrough.{IsPassthroughBelow}
use Rattle.normalizer_tables.specs.declared.characters.IgnoredCharacters.TheVariants.{Dropped}
use Rattle.normalizer_iterators.specs.LazyComposing.{SuitsLazyComposing}
use Rattle.normalizer_iterators.specs.LazyReading.{SuitsLazyReading}
use Rattle.normalizer_calls.specs.BoundaryBefore.{HasBoundaryBefore}

-- text may be decomposed by them character by character, characters below the bound or without class form have a boundary
-- before them, those below the bound are passthrough, lists are in canonical order, and the laws of the decomposing form
-- hold
pub record ServesDecomposing (s : Characters) (b : Bounds) : Type 0 where
  pub reading : SuitsLazyReading (has_class_form s) (reading_by s Dropped [])
  pub beginnings : (c : ℕ) → IsScalar c → (nat_lt c b.decomposition || not (has_class_form s c)) ≡ true
      → HasBoundaryBefore (reading_by s Dropped []) Decomposing c
  pub passthrough : IsPassthroughBelow s b.decomposition
  pub ordered : (c : ℕ) → IsScalar c → order (reading_by s Dropped []) ((reading_by s Dropped []).list c)
      ≡ (reading_by s Dropped []).list c
  pub laws : SuitsTexts (reading_by s Dropped []) Decomposing

-- text may be decomposed and composed by them character by character, characters below the bound of decomposing are
-- passthrough, lists are in canonical order, characters that are taken as boundaries have one before them (condition
-- 13), what pairs compose to has their lists (condition 14), and the laws of both forms hold
pub record ServesComposing (s : Characters) (b : Bounds) (pairs : List Pair) : Type 0 where
  pub reading : SuitsLazyReading (has_class_form s) (reading_by s Dropped [])
  pub composing : SuitsLazyComposing s b pairs
  pub beginnings : (c : ℕ) → IsScalar c → is_taken_as_boundary s b c ≡ true
      → HasBoundaryBefore (reading_by s Dropped pairs) Composing c
  pub passthrough : IsPassthroughBelow s b.decomposition
  pub ordered : (c : ℕ) → IsScalar c → order (reading_by s Dropped []) ((reading_by s Dropped []).list c)
      ≡ (reading_by s Dropped []).list c
  pub results : All (λ p. list_of s [] p.2
      ≡ order (reading_by s Dropped []) (list_of s [] p.1 ++ list_of s [] p.0)) pairs
  pub laws : SuitsTexts (reading_by s Dropped pairs) Composing

-- the bytes say with which class characters pass where text is composed
abbrev pub AreComposingBytes : Characters → List Pair → List ℕ → Type 0
AreComposingBytes s pairs bytes =
    (n : ℕ) → 0 < byte_of bytes n → IsComposingByte pairs n (word_of s n) (byte_of bytes n)
