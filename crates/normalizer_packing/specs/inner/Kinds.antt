-- Data of all kinds.
use Rattle.std.specs.Prelude.{ℕ, List, []}
use Rattle.normalizer_tables.specs.Pairs.{Pair}
use Rattle.normalizer_tables.specs.declared.entry.Kind.TheVariants.{Canonical, Compatibility, Mapper}
use Rattle.normalizer_packing.specs.declared.packing.Kinds.{Kinds}
use Rattle.normalizer_tables.specs.Entries.{EntryValue}
use Rattle.normalizer_packing.specs.inner.Beside.{PacksKindBeside}

-- each packs the entries with the pairs, the mapper's with the ranges
pub record PackKinds (ranges : List (ℕ × ℕ)) (entries : List EntryValue) (pairs : List Pair) (k : Kinds) : Type 0 where
  pub canonical : PacksKindBeside [] Canonical entries pairs k.canonical
  pub compatibility : PacksKindBeside [] Compatibility entries pairs k.compatibility
  pub mapper : PacksKindBeside ranges Mapper entries pairs k.mapper
