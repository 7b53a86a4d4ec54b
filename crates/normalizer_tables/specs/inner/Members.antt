-- The members of a list of characters, however it is stored.
use Rattle.std.specs.Prelude.{ℕ, Bool, true, List, [], ◌∷◌}
use Rattle.std.specs.List.{list_all}
use lib.Utf8.{scalar}
use Rattle.normalizer_tables.specs.declared.members.Shape.{Shape}
use Rattle.normalizer_tables.specs.declared.members.Shape.TheVariants.{Empty, One, Two, Three, Narrow, Wide}

abbrev pub members_of : Shape → List ℕ
members_of Empty = []
members_of (One a) = a ∷ []
members_of (Two a b) = a ∷ b ∷ []
members_of (Three a b c) = a ∷ b ∷ c ∷ []
members_of (Narrow units) = units.now
members_of (Wide scalars) = scalars.now

-- 16-bit numbers are those of characters
abbrev pub spells_characters : Shape → Bool
spells_characters (Narrow units) = list_all scalar units.now
spells_characters _ = true
