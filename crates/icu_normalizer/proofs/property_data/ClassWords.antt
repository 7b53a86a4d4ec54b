-- The class of any number is that of its word alone: what is no scalar value has no class form.
use Rattle.std.proofs.Common.{◌≡◌, ℕ, ◌≤◌, inl, inr, Bool, true, false, refl, ap, ◌∙◌}
use lib.Utf8.{scalar}
use Rattle.normalizer_tables.specs.Characters.{class_of, word_of}
use Rattle.normalizer_tables.specs.conditions.Conditions.{says}
use Rattle.normalizer_tables.specs.declared.condition.Condition.TheVariants.{SurrogateClasses, PastTheEnd}
use Rattle.normalizer_tables.specs.Data.{Decompositions}
use Rattle.normalizer_tables.specs.Table.{word_at, code_points}
use Rattle.normalizer_tables.specs.Words.{class_of_word, is_class_form}
use Rattle.normalizer_tables.proofs.conditions.ConditionLemmas.{no_scalar}
use Rattle.normalizer_tables.proofs.conditions.ListedConditions.{met}
use Rattle.normalizer_check.specs.RequiredConditions.{class_conditions}
use Rattle.normalizer_tables.specs.conditions.Loaded.{classes_loaded}
use Rattle.icu_normalizer.specs.ClassData.{combining_class, HasNoClassesElsewhere, SuitsClasses}

no_class : (w : ℕ) → is_class_form w ≡ false → class_of_word w ≡ 0
unfolding class_of_word
no_class w h = rw h refl

module _ (d : Decompositions) (classes : HasNoClassesElsewhere d) (n w : ℕ) (word : w ≡ word_at d.table n) (past : code_points ≤ n → w ≡ d.table.past) where
  elsewhere : scalar n ≡ false → is_class_form w ≡ false
  elsewhere h = elim (no_scalar n h) [
    | inl surrogate ↦ ap is_class_form word ∙ classes.surrogates n surrogate
    | inr above ↦ ap is_class_form (past above) ∙ classes.past
  ]

  by_kind : (is_scalar : Bool) → scalar n ≡ is_scalar → class_of_word w ≡ combining_class d n
  unfolding class_of word_of
  by_kind true h = rw h (ap class_of_word word)
  by_kind false h = rw h (no_class w (elsewhere h))

  pub combining_class-word : class_of_word w ≡ combining_class d n
  combining_class-word = by_kind (scalar n) refl

-- data that meet the conditions on classes
pub HasNoClassesElsewhere-met : (d : Decompositions) → SuitsClasses d → HasNoClassesElsewhere d
unfolding says word_of
HasNoClassesElsewhere-met d accepted =
    let holds = met (classes_loaded d) class_conditions in record { surrogates = (holds SurrogateClasses accepted refl).0; past = (holds PastTheEnd accepted refl).0 }
