-- What is listed of a file that isn't as it is to be.
use Rattle.std.specs.Prelude.{ℕ, List, [], ◌∷◌, ◌++◌}
use Rattle.normalizer_command.specs.declared.command.LineEnd.{LineEnd}
use Rattle.normalizer_command.specs.declared.command.LineEnd.TheVariants.{LineFeed, Nul}
use Rattle.normalizer_command.specs.declared.command.Listing.{Listing}
use Rattle.normalizer_command.specs.declared.command.Listing.TheVariants.{Places, Names, Nothing}

abbrev pub byte_of : LineEnd → ℕ
byte_of LineFeed = 0x0A
byte_of Nul = 0

-- the lines of its places; its name, and what ends it; or nothing
abbrev pub listed : Listing → (name places : List ℕ) → List ℕ
listed Places name places = places
listed (Names end) name places = name ++ (byte_of end ∷ [])
listed Nothing name places = []
