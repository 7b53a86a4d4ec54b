-- What is loaded of built data if a constructor doesn't load all of one kind.
use Rattle.std.specs.Prelude.{None, Some}
use Rattle.normalizer_tables.specs.conditions.Loaded.{Loaded}
use Rattle.normalizer_tables.specs.conditions.NfdData.{nfd_bounds}
use Rattle.normalizer_packing.specs.declared.Packed.{Packed}
use Rattle.normalizer_tables.specs.declared.entry.Kind.TheVariants.{Canonical}
use Rattle.normalizer_packing.specs.ReadBack.{characters_of}

-- canonical data and the supplement, by which characters are decomposed one step
abbrev pub steps_loaded : Packed → Loaded
steps_loaded p = record {
  characters = characters_of p Canonical;
  bounds = nfd_bounds;
  pairs = None;
  supplement = Some p.supplement;
}
