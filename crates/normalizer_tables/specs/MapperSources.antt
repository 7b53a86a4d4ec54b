-- Where entries have the mapper's lists.
use Rattle.std.specs.Prelude.{ℕ, List, Option, Some, None}
use Rattle.normalizer_tables.specs.declared.entry.MapperSource.{MapperSource}
use Rattle.normalizer_tables.specs.declared.entry.MapperSource.TheVariants.{Canonical, Ignored, Own}

-- the mapper's list, beside this canonical one, if this is what is after the other lists
abbrev pub mapped_from : List ℕ → List ℕ → MapperSource → Option (List ℕ)
mapped_from canonical own Canonical = Some canonical
mapped_from canonical own Ignored = None
mapped_from canonical own Own = Some own
