-- What the written conditions say of canonical data and the supplement, by which characters are decomposed one step.
use Rattle.std.specs.Prelude.{◌≡◌, ◌≢◌, ℕ, false, List, [], ◌∷◌, ◌++◌, IsSomeAnd}
use Rattle.normal_forms.specs.Order.{order}
use Rattle.normalizer_tables.specs.declared.step.Step.{Step}
use Rattle.normalizer_tables.specs.declared.step.Step.TheVariants.{Default, Singleton, Expansion}
use Rattle.normalizer_tables.specs.declared.word.WordReading.TheVariants.{Fdfa}
use Rattle.normalizer_tables.specs.Data.{Supplement}
use Rattle.normalizer_tables.specs.Hangul.{is_hangul_syllable}
use Rattle.normalizer_tables.specs.Characters.{Characters, reading_of_word, list_of}
use Rattle.normalizer_tables.specs.Steps.{step_of}
use Rattle.normalizer_tables.specs.Readings.{reading_by}
use Rattle.normalizer_tables.specs.Ignored.{Dropped}

-- the list of n is not n alone, but these characters in canonical order
unfoldable pub IsInOrder : Characters → ℕ → List ℕ → Type 0
IsInOrder s n x = (list_of s [] n ≢ n ∷ []) × (list_of s [] n ≡ order (reading_by s Dropped []) x)

-- a step of n is `Default` if the list of n is n alone, and else that list is the ordered lists of its parts
unfoldable pub IsSoundStep : Characters → ℕ → Step → Type 0
IsSoundStep s n Default = list_of s [] n ≡ n ∷ []
IsSoundStep s n (Singleton a) = IsInOrder s n (list_of s [] a)
IsSoundStep s n (Expansion a b) = IsInOrder s n (list_of s [] a ++ list_of s [] b)

-- the word of n has not the form of U+FDFA. That of a Hangul syllable never has the form of U+FDFA; surrogates and the
-- numbers past the code points may not have it either.
unfoldable pub AvoidsFdfa : Characters → ℕ → Type 0
AvoidsFdfa s n = reading_of_word s n ≢ Fdfa

-- n has a sound step, if it isn't a Hangul syllable
unfoldable pub HasSoundStep : Characters → Supplement → ℕ → Type 0
HasSoundStep s t n = is_hangul_syllable n ≡ false → IsSomeAnd (step_of s t n) (IsSoundStep s n)
