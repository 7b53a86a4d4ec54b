-- Iterators over the forms of what other iterators yield.
use Rattle.std.specs.Prelude.{ℕ, List, Option, Result}
use Rattle.normal_forms.specs.Reading.{Reading}
use Rattle.normalizer_tables.specs.Characters.{Characters, has_class_form}
use Rattle.normalizer_tables.specs.Pairs.{Pair}
use Rattle.normalizer_tables.specs.Readings.{reading_by}
use Rattle.normalizer_tables.specs.declared.characters.IgnoredCharacters.{IgnoredCharacters}
use Rattle.normalizer_iterators.specs.Items.{YieldsForm}
use Rattle.normalizer_iterators.specs.declared.error.NormalizeError.{NormalizeError}

module _ {I S : Type 0} (source_gives : I → Option ℕ → I → Type 0)
    (gives : S → Option (Result ℕ NormalizeError) → S → Type 0) where
  -- an iterator was made over a source: it yields the form of that, by data, pairs and how ignored characters read
  abbrev pub YieldsFormBy : Characters → IgnoredCharacters → List Pair → (Reading → List ℕ → List ℕ) → I
      → Result S NormalizeError → Type 0
  YieldsFormBy s ignored pairs form source made =
      YieldsForm source_gives gives (has_class_form s) (reading_by s ignored pairs) form source made
