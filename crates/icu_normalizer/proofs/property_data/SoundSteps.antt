-- Data that meet the conditions on steps have steps that agree with the lists of characters.
use Rattle.std.proofs.Common.{◌≡◌, ◌≢◌, ℕ, Bool, true, false, IsSomeAnd, [], ◌∷◌, Some, None, refl, sym, subst, ◌∙◌}
use Rattle.std.specs.Char.{IsScalar}
use lib.Utf8.{scalar}
use Rattle.normal_forms.specs.Order.{insert, order}
use Rattle.normal_forms.specs.Reading.{Reading}
use Rattle.normalizer_tables.specs.declared.condition.Condition.TheVariants.{Hangul, Order, Steps}
use Rattle.normalizer_tables.specs.declared.step.Step.{Step}
use Rattle.normalizer_tables.specs.declared.step.Step.TheVariants.{Default, Singleton, Expansion}
use Rattle.normalizer_tables.specs.Characters.{Characters, list_of}
use Rattle.normalizer_tables.specs.conditions.Conditions.{IsMet, says}
use Rattle.normalizer_tables.specs.conditions.Loaded.{characters_loaded, nfd_bounds}
use Rattle.normalizer_tables.specs.conditions.StepConditions.{HasSoundStep, IsInOrder, IsSoundStep}
use Rattle.normalizer_tables.specs.Data.{Supplement}
use Rattle.normalizer_tables.specs.Hangul.{is_hangul_syllable}
use Rattle.normalizer_tables.specs.declared.condition.Bounds.{Bounds}
use Rattle.normalizer_tables.specs.Steps.{step_of}
use Rattle.normalizer_tables.specs.Readings.{reading_by}
use Rattle.normalizer_tables.specs.declared.characters.IgnoredCharacters.TheVariants.{Dropped}
use Rattle.normalizer_tables.proofs.words.CharacterLemmas.{list_of-default}
use Rattle.normalizer_tables.proofs.lists.SoundLists.{list_read-elsewhere}
use Rattle.normalizer_tables.proofs.conditions.ListedConditions.{met}
use Rattle.normalizer_check.specs.RequiredConditions.{step_conditions}
use Rattle.icu_normalizer.specs.StepData.{StepData, steps_loaded, SuitsSteps}
use Rattle.icu_normalizer.specs.StepMeaning.{HasSteps, MeansInLists}
use Rattle.icu_normalizer.proofs.property_data.HangulSteps.{IsHangulMapping, has_mapping, list_of-hangul, list_of-hangul_apart, step_of-hangul}

order-one : (d : Reading) (c : ℕ) → order d (c ∷ []) ≡ c ∷ []
unfolding order insert
order-one d c = refl

module _ (s : Characters) (t : Supplement) (b : Bounds) where
  module _ (in_order : IsMet (characters_loaded s b) Order) where
    by_kind : (n : ℕ) (is_scalar : Bool) → scalar n ≡ is_scalar → order (reading_by s Dropped []) (list_of s [] n) ≡ list_of s [] n
    unfolding says
    by_kind n true h = (in_order.1 n h).ordered
    by_kind n false h = rw (list_of-default s [] n (list_read-elsewhere s [] n h)) (order-one (reading_by s Dropped []) n)

    ordered : (n : ℕ) → order (reading_by s Dropped []) (list_of s [] n) ≡ list_of s [] n
    ordered n = by_kind n (scalar n) refl

    -- what condition 16 says of a step
    MeansInLists-sound : (n : ℕ) (step : Step) → IsSoundStep s n step → MeansInLists s n step
    unfolding IsSoundStep IsInOrder
    MeansInLists-sound n Default h = record { default = (λ _. h, λ _. refl); singleton = λ a e. cc; expansion = λ a c e. cc }
    MeansInLists-sound n (Singleton a) h = record {
      default = (λ e. cc, λ e. absurd (h.0 e));
      singleton = λ c e. h.1 ∙ ordered a ∙ (let same : a ≡ c = cc in rw same refl);
      expansion = λ c k e. cc;
    }
    MeansInLists-sound n (Expansion a c) h = record {
      default = (λ e. cc, λ e. absurd (h.0 e));
      singleton = λ k e. cc;
      expansion = λ k m e. h.1 ∙ (let first : a ≡ k = cc in let second : c ≡ m = cc in rw (first, second) refl);
    }

  -- the step of a Hangul syllable
  MeansInLists-hangul : IsMet (characters_loaded s b) Hangul → (n a c : ℕ) → is_hangul_syllable n ≡ true → IsHangulMapping n a c → (step : Step) → Some (Expansion a c) ≡ Some step → MeansInLists s n step
  MeansInLists-hangul hangul n a c syllable h Default e = cc
  MeansInLists-hangul hangul n a c syllable h (Singleton k) e = cc
  MeansInLists-hangul hangul n a c syllable h (Expansion k m) e = record {
    default = (λ f. cc, λ f. absurd (list_of-hangul_apart s b hangul n syllable f));
    singleton = λ x f. cc;
    expansion = λ x y f.
        let first : a ≡ x = cc in
        let second : c ≡ y = cc in
        list_of-hangul s b hangul n a c h ∙ rw (first, second) refl;
  }

  module _ (hangul : IsMet (characters_loaded s b) Hangul) (in_order : IsMet (characters_loaded s b) Order) (sound : (n : ℕ) → IsScalar n → HasSoundStep s t n) (n : ℕ) (of_character : IsScalar n) where
    given : (syllable : Bool) → is_hangul_syllable n ≡ syllable → step_of s t n ≢ None
    unfolding HasSoundStep
    given true h none =
        let m = has_mapping n h in
        let some = step_of-hangul s t n m.0 m.1 h m.2 in cc
    given false h none = subst (λ o. IsSomeAnd o (IsSoundStep s n)) none (sound n of_character h)

    means : (syllable : Bool) → is_hangul_syllable n ≡ syllable → (step : Step) → step_of s t n ≡ Some step → MeansInLists s n step
    unfolding HasSoundStep
    means true h step e =
        let m = has_mapping n h in
        MeansInLists-hangul hangul n m.0 m.1 h m.2 step (sym (step_of-hangul s t n m.0 m.1 h m.2) ∙ e)
    means false h step e = MeansInLists-sound in_order n step (subst (λ o. IsSomeAnd o (IsSoundStep s n)) e (sound n of_character h))

pub HasSteps-met : (h : StepData) → SuitsSteps h → HasSteps h.0 h.1
unfolding says
HasSteps-met h suits =
    let holds = met (steps_loaded h) step_conditions in
    let hangul = holds Hangul suits refl in
    let in_order = holds Order suits refl in
    let sound = (holds Steps suits refl).1 in
    record {
      given = λ n of_character. given h.0 h.1 nfd_bounds hangul in_order sound n of_character (is_hangul_syllable n) refl;
      means = λ n of_character step e. means h.0 h.1 nfd_bounds hangul in_order sound n of_character (is_hangul_syllable n) refl step e;
    }
