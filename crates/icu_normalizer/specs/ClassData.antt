-- Data from which classes are read.
use Rattle.std.specs.Prelude.{◌≡◌, ℕ, false, true, None, All}
use Rattle.normalizer_tables.specs.declared.provider.DataError.{DataError}
use Rattle.normalizer_tables.specs.declared.provider.DataMarkerInfo.{DataMarkerInfo}
use Rattle.normalizer_check.specs.RequiredConditions.{class_conditions}
use Rattle.normalizer_tables.specs.conditions.CharacterConditions.{is_surrogate}
use Rattle.normalizer_tables.specs.Characters.{class_of, characters_from}
use Rattle.normalizer_tables.specs.conditions.Conditions.{IsMet}
use Rattle.normalizer_tables.specs.Data.{Decompositions, lists_or_none}
use Rattle.normalizer_tables.specs.conditions.Loaded.{classes_loaded}
use Rattle.normalizer_check.specs.Refusals.{RefusesFirstFailing}
use Rattle.normalizer_tables.specs.Table.{word_at}
use Rattle.normalizer_tables.specs.Words.{is_class_form}

-- the class that data have of a number, 0 if it isn't a scalar value; it doesn't depend on the tables
abbrev pub combining_class : Decompositions → ℕ → ℕ
combining_class d n = class_of (characters_from d (lists_or_none None) None) n

-- no number without a character has a class form
pub record HasNoClassesElsewhere (d : Decompositions) : Type 0 where
  pub surrogates : (n : ℕ) → is_surrogate n ≡ true → is_class_form (word_at d.table n) ≡ false
  pub past : is_class_form d.table.past ≡ false

-- data that meet the conditions on classes
abbrev pub SuitsClasses : Decompositions → Type 0
SuitsClasses d = All (IsMet (classes_loaded d)) class_conditions

-- the error for the first of them that fails
abbrev pub RefusesClasses : DataMarkerInfo → Decompositions → DataError → Type 0
RefusesClasses kind d e = RefusesFirstFailing kind (classes_loaded d) class_conditions e
