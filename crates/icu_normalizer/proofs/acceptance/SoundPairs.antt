-- Data and pairs that meet the written conditions may be composed.
use Rattle.std.proofs.Common.{◌≡◌, ℕ, [], ◌∷◌, List, refl, subst, Some}
use Rattle.std.proofs.Math.Nat.{min-le_right}
use Rattle.std.proofs.lemmas.List.Elements.{All-nil}
use Rattle.normal_forms.specs.Boundary.{BeginsAtBoundary}
use Rattle.normal_forms.specs.Reading.{Reading, IsStarter}
use Rattle.normalizer_tables.specs.declared.condition.Condition.TheVariants.{Hangul, Words, Order, Pairs, RoundTrip, SafeBeginning}
use Rattle.normalizer_check.specs.RequiredConditions.{AreAcceptedPairs, decomposing_conditions, IsAccepted, pair_conditions}
use Rattle.normalizer_tables.specs.conditions.Loaded.{characters_loaded, pairs_loaded}
use Rattle.normalizer_tables.specs.Characters.{Characters, list_of}
use Rattle.normalizer_tables.specs.Ignored.{ignored_list}
use Rattle.normalizer_tables.specs.conditions.PairConditions.{HasOrderedLists}
use Rattle.normalizer_tables.specs.Pairs.{Pair}
use Rattle.normalizer_tables.specs.Readings.{reading_by}
use Rattle.normalizer_tables.proofs.conditions.ListedConditions.{met}
use Rattle.normalizer_check.proofs.composites.PairLaws.{HasFaithfulResults-reading_of, HasStarterResults-reading_of, IsNormalized-passed, BeginsAtBoundary-passed, are_nonempty-passed}
use Rattle.icu_normalizer.specs.Acceptance.{bounds_of}
use Rattle.normalizer_iterators.specs.LazyComposing.{SuitsLazyComposing}
use Rattle.normalizer_iterators.proofs.passthrough.PassthroughClasses.{no_class_form-passed}

first_apart : (d : Reading) (x : List ℕ) (first : ℕ) (others : List ℕ) → x ≡ first ∷ others → BeginsAtBoundary d x → IsStarter d first × ((a r : ℕ) → d.pair a first ≡ Some r → ⊥)
first_apart d x first others e h = let begins = subst (BeginsAtBoundary d) e h in (begins.0, λ a r joins. cc (begins.1 a, joins))

pub SuitsLazyComposing-met : (s : Characters) (pairs : List Pair) → IsAccepted s (bounds_of s.decompositions) → AreAcceptedPairs s (bounds_of s.decompositions) pairs →
    SuitsLazyComposing s (bounds_of s.decompositions) pairs
SuitsLazyComposing-met s pairs accepted accepted_pairs =
    let b = bounds_of s.decompositions in
    let holds = met (characters_loaded s b) decomposing_conditions in
    let pairs_hold = met (pairs_loaded s b pairs) (pair_conditions s.is_mapper) in
    let trips = pairs_hold RoundTrip accepted_pairs refl in
    let begins = pairs_hold SafeBeginning accepted_pairs refl in
    record {
      starters = HasStarterResults-reading_of s b (holds Hangul accepted refl) pairs (pairs_hold Pairs accepted_pairs refl) [];
      hangul = λ ignored. HasFaithfulResults-reading_of s b (holds Hangul accepted refl) [] (ignored_list ignored) (All-nil (HasOrderedLists s (ignored_list ignored)));
      apart = λ ignored c h. record {
        form = IsNormalized-passed s b pairs (holds Order accepted refl) trips (ignored_list ignored) c h.scalar h.passed;
        at_boundary =
            no_class_form-passed s c h.scalar b (min-le_right s.decompositions.cap 0x0300) pairs (holds Words accepted refl) (are_nonempty-passed s b pairs begins [] c h.scalar h.passed)
            (BeginsAtBoundary-passed s b pairs begins [] c h.scalar h.passed) h.passed;
        are_nonempty = are_nonempty-passed s b pairs begins (ignored_list ignored) c h.scalar h.passed;
        safely =
            λ first others e. first_apart (reading_by s ignored pairs) (list_of s (ignored_list ignored) c) first others e
            (BeginsAtBoundary-passed s b pairs begins (ignored_list ignored) c h.scalar h.passed);
      };
    }
