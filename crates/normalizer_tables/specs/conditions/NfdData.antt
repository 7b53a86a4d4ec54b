-- Canonical data that a caller may pass in unchecked.
use Rattle.std.specs.Prelude.{None, All}
use Rattle.normalizer_tables.specs.Characters.{characters_from}
use Rattle.normalizer_tables.specs.Data.{Decompositions, Lists}
use Rattle.normalizer_tables.specs.conditions.Conditions.{IsMet}
pub use Rattle.normalizer_tables.specs.conditions.Conditions.{nfd_conditions}
use Rattle.normalizer_tables.specs.conditions.Loaded.{Loaded, characters_loaded}
pub use Rattle.normalizer_tables.specs.conditions.Loaded.{nfd_bounds}

-- they alone, with the greatest bounds
abbrev pub nfd_loaded : Decompositions → Lists → Loaded
nfd_loaded decompositions tables = characters_loaded (characters_from decompositions tables None) nfd_bounds

-- conditions 1, 3 to 9, and 10 at the bound 0xC0
abbrev pub IsSoundNfdData : Decompositions → Lists → Type 0
IsSoundNfdData decompositions tables = All (IsMet (nfd_loaded decompositions tables)) nfd_conditions
