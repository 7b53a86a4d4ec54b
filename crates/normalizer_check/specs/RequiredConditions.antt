-- Data that a constructor accepts, and what they are to the laws of the normal forms.
use Rattle.std.specs.Prelude.{List, All}
use Rattle.normal_forms.specs.Reading.{Reading}
use Rattle.normal_forms.specs.declared.Form.{Form}
use Rattle.normal_forms.specs.Hypotheses.{HasFullLists, HasNonemptyLists, HasScalarResults, HasStarterResults}
use Rattle.normal_forms.specs.Hypotheses.{HasTextLists, SuitsForm}
use Rattle.normalizer_tables.specs.declared.condition.Bounds.{Bounds}
use Rattle.normalizer_tables.specs.Characters.{Characters}
use Rattle.normalizer_tables.specs.conditions.Conditions.{IsMet}
pub use Rattle.normalizer_tables.specs.conditions.Conditions.{class_conditions, composing_conditions}
pub use Rattle.normalizer_tables.specs.conditions.Conditions.{decomposing_conditions, pair_conditions, step_conditions}
use Rattle.normalizer_tables.specs.conditions.Loaded.{characters_loaded, pairs_loaded}
use Rattle.normalizer_tables.specs.Pairs.{Pair}

-- data that meet all conditions for decomposing text
abbrev pub IsAccepted : Characters → Bounds → Type 0
IsAccepted s b = All (IsMet (characters_loaded s b)) decomposing_conditions

-- pairs that meet, with the data, the conditions on both
abbrev pub AreAcceptedPairs : Characters → Bounds → List Pair → Type 0
AreAcceptedPairs s b pairs = All (IsMet (pairs_loaded s b pairs)) (pair_conditions s.is_mapper)

-- what the calls on text take of a reading: the laws of the form hold, no list is empty, and characters decompose and
-- compose to characters
pub record SuitsTexts (d : Reading) (form : Form) : Type 0 where
  pub laws : SuitsForm d form
  pub are_nonempty : HasNonemptyLists d
  pub texts : HasTextLists d
  pub scalars : HasScalarResults d

-- what a mapper takes of a reading: some of its lists may be empty, and what pairs join to may have other lists
pub record SuitsMapper (d : Reading) : Type 0 where
  pub full : HasFullLists d
  pub starters : HasStarterResults d
  pub texts : HasTextLists d
