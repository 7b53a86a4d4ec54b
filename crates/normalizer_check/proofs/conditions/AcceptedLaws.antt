-- Accepted data satisfy the hypotheses of the laws of the normal forms, and what less demanding users require.
use Rattle.std.proofs.Common.{◌≡◌, ℕ, true, false, List, [], ◌∷◌, ◌++◌, length, length-append, All, Option, None, inl, inr, refl, sym, ap, subst, ◌∙◌, arith}
use Rattle.std.specs.Char.{IsScalar}
use lib.Utf8.{scalar}
use Rattle.std.proofs.lemmas.List.{nil_from_length}
use Rattle.std.proofs.lemmas.Bool.{cases_Bool}
use Rattle.normal_forms.specs.Order.{order}
use Rattle.normal_forms.specs.declared.Form.{Form}
use Rattle.normal_forms.specs.declared.Form.TheVariants.{Decomposing, Composing}
use Rattle.normal_forms.specs.Hypotheses.{HasFullLists, HasStarterResults, HasFaithfulResults, HasNonemptyLists, HasTextLists, HasScalarResults, SuitsForm}
use Rattle.normal_forms.proofs.ordering.OrderLemmas.{length-order}
use Rattle.normalizer_tables.specs.declared.condition.Condition.TheVariants as condition
use Rattle.normalizer_check.specs.RequiredConditions.{AreAcceptedPairs, class_conditions, decomposing_conditions, IsAccepted, pair_conditions, SuitsMapper, SuitsTexts}
use Rattle.normalizer_tables.specs.conditions.Conditions.{IsMet, says}
use Rattle.normalizer_tables.specs.conditions.Loaded.{characters_loaded, classes_loaded, pairs_loaded}
use Rattle.normalizer_tables.specs.Characters.{Characters, characters_from, word_of}
use Rattle.normalizer_tables.specs.Data.{Decompositions, Lists}
use Rattle.normalizer_tables.specs.Ignored.{ignored_list}
use Rattle.normalizer_tables.specs.declared.characters.IgnoredCharacters.{IgnoredCharacters}
use Rattle.normalizer_tables.specs.declared.characters.IgnoredCharacters.TheVariants.{Dropped}
use Rattle.normalizer_tables.specs.conditions.NfdData.{IsSoundNfdData, nfd_bounds, nfd_conditions, nfd_loaded}
use Rattle.normalizer_tables.specs.Pairs.{Pair, pair_of}
use Rattle.normalizer_tables.specs.declared.condition.Bounds.{Bounds}
use Rattle.normalizer_tables.specs.conditions.SoundData.{IsSoundData}
use Rattle.normalizer_tables.specs.Readings.{reading_by, reading_of}
use Rattle.normalizer_tables.specs.Passthrough.{IsPassthroughBelow}
use Rattle.normalizer_tables.specs.Words.{is_class_form, is_ordinary_class_form, is_special_class_form}
use Rattle.std.proofs.lemmas.List.Elements.{All-cons, All-nil}
use Rattle.normalizer_tables.proofs.words.CharacterLemmas.{list_of-default}
use Rattle.normalizer_tables.proofs.conditions.ConditionLemmas.{syllable-scalar}
use Rattle.normalizer_tables.proofs.conditions.ListedConditions.{met}
use Rattle.normalizer_tables.proofs.lists.NonemptyLists.{HasNonemptyLists-reading_of}
use Rattle.normalizer_check.proofs.composites.PairLaws.{composed-syllable, pair_of-some, HasFaithfulResults-condition, HasStarterResults-reading_of}
use Rattle.normalizer_tables.proofs.composites.PairLemmas.{All-listed_result}
use Rattle.normalizer_tables.proofs.lists.SoundLists.{list_read-elsewhere, HasFullLists-sound, IsText-list_of}
use Rattle.normalizer_tables.proofs.words.PassthroughBound.{IsPassthroughBelow-conditions}

-- ---- sound data

pub IsSoundData-accepted : (s : Characters) (b : Bounds) → IsAccepted s b → IsSoundData s b
IsSoundData-accepted s b accepted =
    let holds = met (characters_loaded s b) decomposing_conditions in
    record {
      replacement = holds condition.ReplacementCharacter accepted refl;
      words = holds condition.Words accepted refl;
      members = holds condition.Members accepted refl;
      order = holds condition.Order accepted refl;
    }

pub IsSoundData-handed_in : (decompositions : Decompositions) (tables : Lists) → IsSoundNfdData decompositions tables → IsSoundData (characters_from decompositions tables None) nfd_bounds
IsSoundData-handed_in decompositions tables accepted =
    let holds = met (nfd_loaded decompositions tables) nfd_conditions in
    record {
      replacement = holds condition.ReplacementCharacter accepted refl;
      words = holds condition.Words accepted refl;
      members = holds condition.Members accepted refl;
      order = holds condition.Order accepted refl;
    }

HasTextLists-sound : (s : Characters) (b : Bounds) → IsSoundData s b → (i : IgnoredCharacters) (pairing : ℕ → ℕ → Option ℕ) → HasTextLists (reading_of s (ignored_list i) pairing)
HasTextLists-sound s b sound i pairing = record { texts = IsText-list_of s b sound i }

-- ---- what characters compose to

-- if a composite has the lists of its parts, and no list is empty, it is a character, since other numbers are their own
-- lists
HasScalarResults-faithful : (s : Characters) (pairs : List Pair) → HasFaithfulResults (reading_by s Dropped pairs) → HasNonemptyLists (reading_by s Dropped pairs)
    → HasScalarResults (reading_by s Dropped pairs)
HasScalarResults-faithful s pairs faithful are_nonempty = record {
  scalars = λ a c r first second joins. elim (cases_Bool (scalar r)) as (λ _. scalar r ≡ true) [
    | inl is ↦ is
    | inr other ↦
        let d = reading_by s Dropped pairs in
        let alone : r ∷ [] ≡ order d (d.list a ++ d.list c) = sym (list_of-default s [] r (list_read-elsewhere s [] r other)) ∙ faithful.results a c r joins in
        grind (arith, nil_from_length, length-order d (d.list a ++ d.list c), length-append (d.list a) (d.list c), ap length alone, are_nonempty.are_nonempty a, are_nonempty.are_nonempty c)
  ];
}

pub scalar_results : (s : Characters) (ignored : List ℕ) (pairs : List Pair) → All (λ p. IsScalar p.2) pairs → HasScalarResults (reading_of s ignored (pair_of pairs))
scalar_results s ignored pairs scalars = record {
  scalars = λ a c r first second joins. elim (pair_of-some pairs a c r joins) as (λ _. scalar r ≡ true) [
    | inl by_hangul ↦ syllable-scalar r (composed-syllable a c r by_hangul)
    | inr as_listed ↦ All-listed_result (λ p. IsScalar p.2) pairs a c r scalars as_listed
  ];
}

-- ---- accepted data

SuitsTexts-sound : (s : Characters) (b : Bounds) → s.is_mapper ≡ false → IsSoundData s b → (pairs : List Pair) (form : Form)
    → (HasFullLists (reading_by s Dropped pairs) → SuitsForm (reading_by s Dropped pairs) form) → HasScalarResults (reading_by s Dropped pairs) → SuitsTexts (reading_by s Dropped pairs) form
SuitsTexts-sound s b plain sound pairs form suits scalar = record {
  laws = suits (HasFullLists-sound s b sound Dropped (pair_of pairs));
  are_nonempty = HasNonemptyLists-reading_of s Dropped (pair_of pairs) (inl plain);
  texts = HasTextLists-sound s b sound Dropped (pair_of pairs);
  scalars = scalar;
}

decomposing : (s : Characters) (b : Bounds) → s.is_mapper ≡ false → IsSoundData s b → SuitsTexts (reading_by s Dropped []) Decomposing
decomposing s b plain sound =
    SuitsTexts-sound s b plain sound [] Decomposing (λ full. full) (scalar_results s [] [] (All-nil (λ (p : Pair). IsScalar p.2)))

pub SuitsTexts-accepted : (s : Characters) (b : Bounds) → s.is_mapper ≡ false → IsAccepted s b → SuitsTexts (reading_by s Dropped []) Decomposing
SuitsTexts-accepted s b plain accepted = decomposing s b plain (IsSoundData-accepted s b accepted)

pub SuitsTexts-handed_in : (decompositions : Decompositions) (tables : Lists) → IsSoundNfdData decompositions tables
    → SuitsTexts (reading_by (characters_from decompositions tables None) Dropped []) Decomposing
SuitsTexts-handed_in decompositions tables accepted = decomposing _ nfd_bounds refl (IsSoundData-handed_in decompositions tables accepted)

module _ (s : Characters) (b : Bounds) (pairs : List Pair) (accepted : IsAccepted s b) where
  starters-accepted : AreAcceptedPairs s b pairs → (ignored : List ℕ) → HasStarterResults (reading_of s ignored (pair_of pairs))
  starters-accepted accepted_pairs ignored =
      HasStarterResults-reading_of s b (met (characters_loaded s b) decomposing_conditions condition.Hangul accepted refl) pairs (met (pairs_loaded s b pairs) (pair_conditions s.is_mapper) condition.Pairs accepted_pairs refl) ignored

  pub SuitsMapper-accepted : AreAcceptedPairs s b pairs → (i : IgnoredCharacters) → SuitsMapper (reading_by s i pairs)
  SuitsMapper-accepted accepted_pairs i = record {
    full = HasFullLists-sound s b (IsSoundData-accepted s b accepted) i (pair_of pairs);
    starters = starters-accepted accepted_pairs (ignored_list i);
    texts = HasTextLists-sound s b (IsSoundData-accepted s b accepted) i (pair_of pairs);
  }

  module _ (plain : s.is_mapper ≡ false) (accepted_pairs : AreAcceptedPairs s b pairs) where
    faithful-accepted : HasFaithfulResults (reading_by s Dropped pairs)
    faithful-accepted =
        let all : All (IsMet (pairs_loaded s b pairs)) (pair_conditions false) = subst (λ m. All (IsMet (pairs_loaded s b pairs)) (pair_conditions m)) plain accepted_pairs in
        HasFaithfulResults-condition s b (met (characters_loaded s b) decomposing_conditions condition.Hangul accepted refl) pairs (met (pairs_loaded s b pairs) (pair_conditions false) condition.Results all refl)

    suits : (form : Form) → HasFullLists (reading_by s Dropped pairs) → SuitsForm (reading_by s Dropped pairs) form
    suits Decomposing full = full
    suits Composing full = (full, starters-accepted accepted_pairs [], faithful-accepted)

    pub SuitsTexts-accepted_pairs : (form : Form) → SuitsTexts (reading_by s Dropped pairs) form
    SuitsTexts-accepted_pairs form = SuitsTexts-sound s b plain (IsSoundData-accepted s b accepted) pairs form (suits form)
        (HasScalarResults-faithful s pairs faithful-accepted (HasNonemptyLists-reading_of s Dropped (pair_of pairs) (inl plain)))

pub IsPassthroughBelow-accepted : (s : Characters) (b : Bounds) → IsAccepted s b → IsPassthroughBelow s b.decomposition
IsPassthroughBelow-accepted s b accepted = IsPassthroughBelow-conditions s b (met (characters_loaded s b) decomposing_conditions condition.Words accepted refl) (met (characters_loaded s b) decomposing_conditions condition.Passthrough accepted refl)

-- what is required for classes alone is part of what is required of whole data
pub class_conditions-met : (s : Characters) (b : Bounds) → IsMet (characters_loaded s b) condition.Surrogates → IsMet (characters_loaded s b) condition.PastTheEnd →
    IsMet (characters_loaded s b) condition.Words → All (IsMet (classes_loaded s.decompositions)) class_conditions
unfolding says word_of is_class_form is_ordinary_class_form is_special_class_form
class_conditions-met s b surrogates past words =
    let P = IsMet (classes_loaded s.decompositions) in
    All-cons P condition.SurrogateClasses (condition.PastTheEnd ∷ condition.WordClasses ∷ []) (λ n is. ap is_class_form (surrogates.0 n is), λ n is. tt)
    (All-cons P condition.PastTheEnd (condition.WordClasses ∷ []) past (All-cons P condition.WordClasses [] (tt, λ n is. (words.1 n is).class) (All-nil P)))
