-- Canonical data that a caller vouches for serve the calls.
use Rattle.std.proofs.Common.{◌≡◌, ℕ, [], None, refl}
use Rattle.std.specs.Char.{IsScalar}
use Rattle.normal_forms.specs.Order.{order}
use Rattle.normalizer_tables.specs.declared.condition.Condition.TheVariants.{Order}
use Rattle.normalizer_tables.specs.conditions.Conditions.{IsMet, says}
use Rattle.normalizer_tables.specs.conditions.Loaded.{characters_loaded}
use Rattle.normalizer_tables.specs.declared.condition.Bounds.{Bounds}
use Rattle.normalizer_tables.specs.Characters.{Characters, characters_from}
use Rattle.normalizer_tables.specs.Data.{Decompositions, Lists}
use Rattle.normalizer_tables.specs.conditions.NfdData.{IsSoundNfdData, nfd_bounds, nfd_conditions, nfd_loaded}
use Rattle.normalizer_tables.specs.Readings.{reading_by}
use Rattle.normalizer_tables.specs.declared.characters.IgnoredCharacters.TheVariants.{Dropped}
use Rattle.normalizer_tables.proofs.conditions.ListedConditions.{met}
use Rattle.normalizer_check.proofs.conditions.AcceptedLaws.{SuitsTexts-handed_in}
use Rattle.normalizer_tables.proofs.words.PassthroughBound.{IsPassthroughBelow-handed_in}
use Rattle.normalizer_calls.specs.Serving.{ServesDecomposing}
use Rattle.normalizer_calls.proofs.passthrough.PassthroughLemmas.{HasBoundaryBefore-decomposed}
use Rattle.normalizer_iterators.proofs.reads.ReadsOfSoundData.{SuitsLazyReading-nfd}

-- the list of a character is in canonical order: condition 9
pub list_ordered : (s : Characters) (b : Bounds) → IsMet (characters_loaded s b) Order → (c : ℕ) → IsScalar c → order (reading_by s Dropped []) ((reading_by s Dropped []).list c) ≡ (reading_by s Dropped []).list c
unfolding says
list_ordered s b holds c scalar = (holds.1 c scalar).ordered

pub ServesDecomposing-handed_in : (decompositions : Decompositions) (tables : Lists) → IsSoundNfdData decompositions tables → ServesDecomposing (characters_from decompositions tables None) nfd_bounds
ServesDecomposing-handed_in decompositions tables sound = record {
  reading = SuitsLazyReading-nfd decompositions tables sound;
  beginnings = HasBoundaryBefore-decomposed (characters_from decompositions tables None) nfd_bounds (SuitsLazyReading-nfd decompositions tables sound)
      (IsPassthroughBelow-handed_in decompositions tables sound) (SuitsTexts-handed_in decompositions tables sound);
  passthrough = IsPassthroughBelow-handed_in decompositions tables sound;
  ordered = list_ordered (characters_from decompositions tables None) nfd_bounds (met (nfd_loaded decompositions tables) nfd_conditions Order sound refl);
  laws = SuitsTexts-handed_in decompositions tables sound;
}
