-- How the lists of entries are spelled, kept beside them.
use Rattle.std.specs.Prelude.{◌≡◌, ℕ, List, All, map}
use Rattle.normalizer_tables.specs.declared.entry.Kind.{Kind}
use Rattle.normalizer_tables.specs.declared.entry.Kind.TheVariants.{Canonical, Compatibility, Mapper}
use Rattle.normalizer_tables.specs.Entries.{EntryValue, class_in, own_list}
use Rattle.normalizer_packing.specs.declared.spelled.Spellings.{Spellings}
use Rattle.normalizer_packing.specs.declared.spelling.Spelling.{Spelling}
use Rattle.normalizer_packing.specs.Spelling.{HasRoomForFlags, spelling}

-- how the list in one kind of data is spelled
abbrev pub spelled_in : Kind → Spellings → Spelling
spelled_in Canonical s = s.canonical
spelled_in Compatibility s = s.compatibility
spelled_in Mapper s = s.mapper

-- how the lists of an entry are spelled, by the classes of all characters
unfoldable pub spellings_of : (ℕ → ℕ) → EntryValue → Spellings
spellings_of class e = record {
  canonical = spelling class e.character (own_list Canonical e);
  compatibility = spelling class e.character (own_list Compatibility e);
  mapper = spelling class e.character (own_list Mapper e);
}

-- words without their flags leave the two high bits to them
pub record HaveRoomForFlags (s : Spellings) : Type 0 where
  pub canonical : HasRoomForFlags s.canonical
  pub compatibility : HasRoomForFlags s.compatibility
  pub mapper : HasRoomForFlags s.mapper

-- each list of each entry is spelled
pub record AreSpelled (entries : List EntryValue) (spellings : List Spellings) : Type 0 where
  pub each : spellings ≡ map (spellings_of (class_in entries)) entries
  pub room : All HaveRoomForFlags spellings
