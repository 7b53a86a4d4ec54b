-- The list of a character that the mapper ignores.
use Rattle.std.specs.Prelude.{ℕ, List, [], ◌∷◌}
pub use Rattle.normalizer_tables.specs.declared.characters.IgnoredCharacters.{IgnoredCharacters}
pub use Rattle.normalizer_tables.specs.declared.characters.IgnoredCharacters.TheVariants.{Dropped, Replaced}

-- no character, or U+FFFD
abbrev pub ignored_list : IgnoredCharacters → List ℕ
ignored_list Dropped = []
ignored_list Replaced = 0xFFFD ∷ []
