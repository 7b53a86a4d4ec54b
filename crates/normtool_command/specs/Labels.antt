-- The fields of a mapped text, and the lines of those that are valid: a rule of this program, on what the mapper does.
use Rattle.std.specs.Prelude.{◌≡◌, ◌↔◌, ◌==◌, ℕ, IsTrue, List, [], ◌∷◌, ◌++◌, All, filter, flat_map}
use Rattle.std.specs.List.{slice_split}
use Rattle.icu_normalizer.specs.Uts46.{MapperData}
use Rattle.icu_normalizer.specs.Mapping.{is_valid}
use Rattle.normalizer_io.specs.declared.outcome.Answer.{Answer}
use Rattle.normalizer_io.specs.declared.outcome.Answer.TheVariants.{Done}
use Rattle.normtool_command.specs.OffenceLines.{line_feed}

-- what is between the full stops of a text: one field more than there are full stops
abbrev pub fields : List ℕ → List (List ℕ)
fields x = slice_split (λ c. c == 0x2E) x

-- the fields that are valid, in order, each followed by a line feed
abbrev pub label_lines : MapperData → List (List ℕ) → List ℕ
label_lines h parts = flat_map (λ field. field ++ (line_feed ∷ [])) (filter (is_valid h) parts)

-- yes if all of the fields are valid, and the lines of those that are
pub record TellsLabels (h : MapperData) (parts : List (List ℕ)) (answer : Answer) (lines : List ℕ) : Type 0 where
  pub all : (answer ≡ Done) ↔ All (λ field. IsTrue (is_valid h field)) parts
  pub valid : lines ≡ label_lines h parts
