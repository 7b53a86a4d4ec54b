-- What is returned to shapers for one step.
use Rattle.std.specs.Prelude.{ℕ, Option, Some, None}
use Rattle.normalizer_tables.specs.declared.step.Step.{Step}
use Rattle.normalizer_tables.specs.declared.step.Step.TheVariants.{Default, Singleton, Expansion}

-- the two characters of an expansion; the one of a singleton, with U+0000 after it; none if there is no mapping
abbrev pub shaper_mapping : Step → Option (ℕ × ℕ)
shaper_mapping Default = None
shaper_mapping (Singleton a) = Some (a, 0)
shaper_mapping (Expansion a b) = Some (a, b)
