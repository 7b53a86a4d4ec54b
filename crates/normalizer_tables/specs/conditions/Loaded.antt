-- All that a constructor may load.
use Rattle.std.specs.Prelude.{ℕ, List, Option, Some, None, min}
use Rattle.normalizer_tables.specs.declared.condition.Bounds.{Bounds}
use Rattle.normalizer_tables.specs.Characters.{Characters, characters_from}
use Rattle.normalizer_tables.specs.Data.{Decompositions, Supplement, lists_or_none}
use Rattle.normalizer_tables.specs.Pairs.{Pair}

-- the words with their tables, the pairs and the supplement as far as they were loaded, and below which numbers
-- characters are passthrough
pub record Loaded : Type 0 where
  pub characters : Characters
  pub bounds : Bounds
  pub pairs : Option (List Pair)
  pub supplement : Option Supplement

-- the bounds of data with this cap
abbrev pub bounds_of_cap : ℕ → Bounds
bounds_of_cap cap = record { decomposition = min cap 0xC0; composition = min cap 0x0300 }

-- the greatest bounds, whatever the cap of the data is
abbrev pub nfd_bounds : Bounds
nfd_bounds = record { decomposition = 0xC0; composition = 0x0300 }

-- words with their tables and bounds alone, or with pairs too
abbrev pub characters_loaded : Characters → Bounds → Loaded
characters_loaded s b = record { characters = s; bounds = b; pairs = None; supplement = None }

abbrev pub pairs_loaded : Characters → Bounds → List Pair → Loaded
pairs_loaded s b pairs = record { characters = s; bounds = b; pairs = Some pairs; supplement = None }

-- the same with the bounds of the data's cap
abbrev pub characters_alone : Characters → Loaded
characters_alone s = characters_loaded s (bounds_of_cap s.decompositions.cap)

abbrev pub characters_and_pairs : Characters → List Pair → Loaded
characters_and_pairs s pairs = pairs_loaded s (bounds_of_cap s.decompositions.cap) pairs

-- words alone, of which only classes are read
abbrev pub classes_loaded : Decompositions → Loaded
classes_loaded d = characters_loaded (characters_from d (lists_or_none None) None) nfd_bounds
