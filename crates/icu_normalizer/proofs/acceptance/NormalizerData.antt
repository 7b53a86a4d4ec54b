-- Data that a constructor accepts serve the calls.
use Rattle.std.proofs.Common.{◌≡◌, ◌++◌, List, [], false, refl, subst}
use Rattle.std.specs.Prelude.{All}
use Rattle.normal_forms.specs.Order.{order}
use Rattle.normal_forms.specs.declared.Form.TheVariants.{Composing}
use Rattle.normalizer_tables.specs.declared.condition.Condition.TheVariants.{Order, Results}
use Rattle.normalizer_check.specs.RequiredConditions.{AreAcceptedPairs, decomposing_conditions, pair_conditions}
use Rattle.normalizer_tables.specs.conditions.Conditions.{IsMet, says}
use Rattle.normalizer_tables.specs.conditions.Loaded.{characters_alone, pairs_loaded}
use Rattle.normalizer_tables.specs.conditions.PairConditions.{HasOrderedLists}
use Rattle.normalizer_tables.specs.declared.condition.Bounds.{Bounds}
use Rattle.normalizer_tables.specs.Characters.{Characters, list_of}
use Rattle.normalizer_tables.specs.Pairs.{Pair}
use Rattle.normalizer_tables.specs.Readings.{reading_by}
use Rattle.normalizer_tables.specs.declared.characters.IgnoredCharacters.TheVariants.{Dropped}
use Rattle.normalizer_tables.proofs.conditions.ListedConditions.{met}
use Rattle.normalizer_check.proofs.conditions.LoadedLemmas.{parts_met}
use Rattle.normalizer_check.proofs.conditions.AcceptedLaws.{SuitsTexts-accepted, SuitsTexts-accepted_pairs}
use Rattle.normalizer_check.proofs.conditions.AcceptedLaws.{IsPassthroughBelow-accepted}
use Rattle.icu_normalizer.specs.Acceptance.{bounds_of, SuitsDecomposing}
use Rattle.icu_normalizer.specs.ComposingAcceptance.{SuitsComposing}
use Rattle.normalizer_calls.specs.Serving.{ServesDecomposing, ServesComposing}
use Rattle.normalizer_calls.proofs.HandedInData.{list_ordered}
use Rattle.normalizer_calls.proofs.passthrough.PassthroughLemmas.{HasBoundaryBefore-decomposed, HasBoundaryBefore-taken}
use Rattle.icu_normalizer.proofs.acceptance.SoundPairs.{SuitsLazyComposing-met}
use Rattle.normalizer_iterators.proofs.reads.ReadsOfSoundData.{SuitsLazyReading-sound}

-- the list of what a pair composes to is the lists of the pair, in canonical order: condition 14
results_ordered : (s : Characters) (b : Bounds) (pairs : List Pair) → s.is_mapper ≡ false → AreAcceptedPairs s b pairs
    → All (λ p. list_of s [] p.2 ≡ order (reading_by s Dropped []) (list_of s [] p.1 ++ list_of s [] p.0)) pairs
unfolding says HasOrderedLists
results_ordered s b pairs plain accepted =
    let conditions : All (IsMet (pairs_loaded s b pairs)) (pair_conditions false) = subst (λ m. All (IsMet (pairs_loaded s b pairs)) (pair_conditions m)) plain accepted in
    (met (pairs_loaded s b pairs) (pair_conditions false) Results conditions refl).0

pub ServesDecomposing-met : (s : Characters) → s.is_mapper ≡ false → SuitsDecomposing s → ServesDecomposing s (bounds_of s.decompositions)
ServesDecomposing-met s plain accepted =
    let in_order = met (characters_alone s) decomposing_conditions Order accepted refl in
    record {
      reading = SuitsLazyReading-sound s _ in_order;
      beginnings = HasBoundaryBefore-decomposed s (bounds_of s.decompositions) (SuitsLazyReading-sound s _ in_order) (IsPassthroughBelow-accepted s (bounds_of s.decompositions) accepted)
          (SuitsTexts-accepted s (bounds_of s.decompositions) plain accepted);
      passthrough = IsPassthroughBelow-accepted s (bounds_of s.decompositions) accepted;
      ordered = list_ordered s (bounds_of s.decompositions) in_order;
      laws = SuitsTexts-accepted s (bounds_of s.decompositions) plain accepted;
    }

pub ServesComposing-met : (s : Characters) (pairs : List Pair) → s.is_mapper ≡ false → SuitsComposing (s, pairs) → ServesComposing s (bounds_of s.decompositions) pairs
ServesComposing-met s pairs plain accepted =
    let parts = parts_met s pairs accepted in
    let in_order = met (characters_alone s) decomposing_conditions Order parts.0 refl in
    record {
      reading = SuitsLazyReading-sound s _ in_order;
      composing = SuitsLazyComposing-met s pairs parts.0 parts.1;
      beginnings = HasBoundaryBefore-taken s (bounds_of s.decompositions) pairs (SuitsLazyComposing-met s pairs parts.0 parts.1).starters parts.1;
      passthrough = IsPassthroughBelow-accepted s (bounds_of s.decompositions) parts.0;
      ordered = list_ordered s (bounds_of s.decompositions) in_order;
      results = results_ordered s (bounds_of s.decompositions) pairs plain parts.1;
      laws = SuitsTexts-accepted_pairs s (bounds_of s.decompositions) pairs parts.0 plain parts.1 Composing;
    }
