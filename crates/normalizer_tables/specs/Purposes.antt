-- What decomposition data are for.
use Rattle.std.specs.Prelude.{Bool, true, false}
use Rattle.normalizer_tables.specs.declared.characters.Purpose.{Purpose}
use Rattle.normalizer_tables.specs.declared.characters.Purpose.TheVariants.{Forms, Mapping}

-- the data are the mapper's
abbrev pub is_mapping : Purpose → Bool
is_mapping Forms = false
is_mapping Mapping = true
