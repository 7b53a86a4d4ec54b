-- The mapper's data that a constructor accepts serve its calls.
use Rattle.std.proofs.Common.{◌≡◌, ℕ, ◌≤◌, List, [], ◌∷◌, length, subst, arith}
use Rattle.normal_forms.specs.Boundary.{BeginsWithStarter}
use Rattle.normal_forms.specs.Reading.{Reading, IsStarter}
use Rattle.normalizer_tables.specs.declared.condition.Bounds.{Bounds}
use Rattle.normalizer_tables.specs.Characters.{Characters, has_class_form, list_of}
use Rattle.normalizer_tables.specs.declared.characters.IgnoredCharacters.{IgnoredCharacters}
use Rattle.normalizer_tables.specs.declared.characters.IgnoredCharacters.TheVariants.{Dropped, Replaced}
use Rattle.normalizer_tables.specs.Ignored.{ignored_list}
use Rattle.normalizer_tables.specs.Pairs.{Pair, pair_of}
use Rattle.normalizer_tables.specs.conditions.SoundData.{IsSoundData}
use Rattle.normalizer_tables.specs.Readings.{reading_by}
use Rattle.normalizer_check.proofs.conditions.AcceptedLaws.{IsSoundData-accepted, IsPassthroughBelow-accepted, SuitsMapper-accepted}
use Rattle.normalizer_tables.proofs.lists.ListLengths.{length-list_of}
use Rattle.normalizer_check.proofs.conditions.LoadedLemmas.{parts_met}
use Rattle.normalizer_tables.proofs.lists.SoundLists.{BeginsWithStarter-list_of}
use Rattle.normalizer_iterators.specs.LazyReading.{SuitsLazyReading}
use Rattle.icu_normalizer.specs.Acceptance.{bounds_of}
use Rattle.icu_normalizer.specs.ComposingAcceptance.{SuitsComposing}
use Rattle.icu_normalizer.specs.Uts46.{ServesMapper}
use Rattle.icu_normalizer.proofs.acceptance.SoundPairs.{SuitsLazyComposing-met}

ignored_short : (i : IgnoredCharacters) → length (ignored_list i) ≤ 18
ignored_short Dropped = omega arith
ignored_short Replaced = omega arith

first_is_starter : (d : Reading) (x : List ℕ) (first : ℕ) (others : List ℕ) → x ≡ first ∷ others → BeginsWithStarter d x → IsStarter d first
first_is_starter d x first others e h = subst (BeginsWithStarter d) e h

-- however ignored characters are treated
SuitsLazyReading-either : (s : Characters) (b : Bounds) → IsSoundData s b → (i : IgnoredCharacters) → SuitsLazyReading (has_class_form s) (reading_by s i [])
SuitsLazyReading-either s b sound i = record {
  starters = λ c first others other e.
      first_is_starter (reading_by s i []) (list_of s (ignored_list i) c) first others e (BeginsWithStarter-list_of s b sound i (pair_of []) c other);
  short = λ c. length-list_of s (ignored_list i) c (ignored_short i);
}

pub ServesMapper-met : (s : Characters) (pairs : List Pair) → SuitsComposing (s, pairs) → ServesMapper (s, pairs) (bounds_of s.decompositions)
ServesMapper-met s pairs met =
    let b = bounds_of s.decompositions in
    let parts = parts_met s pairs met in
    record {
      reading = SuitsLazyReading-either s b (IsSoundData-accepted s b parts.0);
      composing = SuitsLazyComposing-met s pairs parts.0 parts.1;
      passthrough = IsPassthroughBelow-accepted s b parts.0;
      laws = SuitsMapper-accepted s b pairs parts.0 parts.1;
    }
