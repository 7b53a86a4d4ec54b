-- The mapper's lists, as entries hold them.
use Rattle.std.specs.Prelude.{ℕ, List, Option, Some, None}
use Rattle.normalizer_tables.specs.declared.entry.MapperList.{MapperList}
use Rattle.normalizer_tables.specs.declared.entry.MapperList.TheVariants.{Canonical, Ignored, Own}
use Rattle.normalizer_tables.specs.declared.step.Step.{Step}
use Rattle.normalizer_tables.specs.Entries.{EntryValue}

-- the mapper's list, beside this canonical one; none if the mapper ignores the character
abbrev pub mapped_in : List ℕ → MapperList → Option (List ℕ)
mapped_in canonical Canonical = Some canonical
mapped_in canonical Ignored = None
mapped_in canonical (Own list) = Some list.items

-- the entry of a character with its class, its mapping and its lists
abbrev pub entry_with : ℕ → ℕ → Step → List ℕ → List ℕ → MapperList → EntryValue
entry_with character class mapping canonical compatibility mapper = record {
  character = character;
  class = class;
  canonical = canonical;
  compatibility = compatibility;
  mapper = mapped_in canonical mapper;
  mapping = mapping;
}
