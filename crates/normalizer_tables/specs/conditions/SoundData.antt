-- Data of which the laws of the normal forms may be used.
pub use Rattle.normalizer_tables.specs.declared.condition.Bounds.{Bounds}
use Rattle.normalizer_tables.specs.declared.condition.Condition.TheVariants.{ReplacementCharacter, Words, Members}
use Rattle.normalizer_tables.specs.declared.condition.Condition.TheVariants.{Order}
use Rattle.normalizer_tables.specs.Characters.{Characters}
use Rattle.normalizer_tables.specs.conditions.Conditions.{IsMet}
use Rattle.normalizer_tables.specs.conditions.Loaded.{characters_loaded}

-- U+FFFD reads to itself, every word reads, members read to themselves, and lists are in order: conditions 3 and 7 to 9
pub record IsSoundData (s : Characters) (b : Bounds) : Type 0 where
  pub replacement : IsMet (characters_loaded s b) ReplacementCharacter
  pub words : IsMet (characters_loaded s b) Words
  pub members : IsMet (characters_loaded s b) Members
  pub order : IsMet (characters_loaded s b) Order
