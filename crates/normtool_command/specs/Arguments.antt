-- The words that the program is started with.
use Rattle.std.specs.Prelude.{◌≡◌, ℕ, List, [], ◌∷◌, codes}
use Rattle.normtool_command.specs.declared.arguments.RecordSet.{RecordSet}
use Rattle.normtool_command.specs.declared.arguments.RecordSet.TheVariants.{Rows, Nothing}
use Rattle.normtool_command.specs.declared.arguments.Command.{Command}
use Rattle.normtool_command.specs.declared.arguments.Command.TheVariants.{Write, Check, Locate, Map, Validate, Label}
use Rattle.icu_normalizer.specs.declared.any_normalizer.NormalForm.TheVariants.{Nfd, Nfc, Nfkd, Nfkc}

-- the word of a record set
abbrev pub NamesRecords : RecordSet → List ℕ → Type 0
NamesRecords Rows word = word ≡ codes "rows"
NamesRecords Nothing word = word ≡ codes "none"

-- the word of a command
abbrev pub NamesCommand : Command → List ℕ → Type 0
NamesCommand (Write Nfd) word = word ≡ codes "nfd"
NamesCommand (Write Nfc) word = word ≡ codes "nfc"
NamesCommand (Write Nfkd) word = word ≡ codes "nfkd"
NamesCommand (Write Nfkc) word = word ≡ codes "nfkc"
NamesCommand (Check Nfd) word = word ≡ codes "is-nfd"
NamesCommand (Check Nfc) word = word ≡ codes "is-nfc"
NamesCommand (Check Nfkd) word = word ≡ codes "is-nfkd"
NamesCommand (Check Nfkc) word = word ≡ codes "is-nfkc"
NamesCommand (Locate Nfd) word = word ≡ codes "where-nfd"
NamesCommand (Locate Nfc) word = word ≡ codes "where-nfc"
NamesCommand (Locate Nfkd) word = word ≡ codes "where-nfkd"
NamesCommand (Locate Nfkc) word = word ≡ codes "where-nfkc"
NamesCommand Map word = word ≡ codes "map"
NamesCommand Validate word = word ≡ codes "validate"
NamesCommand Label word = word ≡ codes "label"

-- two words: of a record set, and of a command
abbrev pub AsksFor : List (List ℕ) → RecordSet → Command → Type 0
AsksFor [] records command = ⊥
AsksFor (first ∷ []) records command = ⊥
AsksFor (first ∷ second ∷ []) records command = NamesRecords records first × NamesCommand command second
AsksFor (first ∷ second ∷ third ∷ more) records command = ⊥

-- words that name no record set and command
abbrev pub AskForNothing : List (List ℕ) → Type 0
AskForNothing words = (records : RecordSet) (command : Command) → AsksFor words records command → ⊥
