-- How the check goes over the numbers, from one word that isn't 0 to the next, and what it checks of all others before.
use Rattle.std.specs.Prelude.{◌≡◌, ◌≢◌, ◌⊎◌, ℕ, ◌+◌, ◌-◌, ◌/◌, ◌<◌, ◌≤◌, nat_le, Bool, true, false, List, Some}
use Rattle.std.specs.Prelude.{length, slice_get}
use Rattle.std.specs.List.{AllWithin}
use Rattle.std.specs.Char.{IsScalar}
use Rattle.normalizer_tables.specs.declared.condition.Bounds.{Bounds}
use Rattle.normalizer_tables.specs.declared.condition.Condition.{Condition}
use Rattle.normalizer_tables.specs.declared.condition.Condition.TheVariants.{Words}
use Rattle.normalizer_tables.specs.Characters.{Characters, word_of}
use Rattle.normalizer_tables.specs.conditions.Conditions.{number_of, says}
use Rattle.normalizer_tables.specs.Hangul.{is_hangul_syllable, n_count, s_base}
use Rattle.normalizer_tables.specs.conditions.Loaded.{Loaded}
use Rattle.normalizer_tables.specs.conditions.PairConditions.{KeepsBoundary}
use Rattle.normalizer_tables.specs.Pairs.{Pair}
use Rattle.normalizer_tables.specs.Table.{code_points}
use Rattle.normalizer_tables.specs.Words.{is_disallowed, is_plain}

-- two syllables, the second not before the first, with the same leading consonant
pub record IsSyllableAfter (m n : ℕ) : Type 0 where
  pub first : is_hangul_syllable m ≡ true
  pub second : is_hangul_syllable n ≡ true
  pub behind : m ≤ n
  pub leading : (m - s_base) / n_count ≡ (n - s_base) / n_count

-- a character that has the word of a disallowed one, and so maps to another
pub record IsDisallowed (s : Characters) (n : ℕ) : Type 0 where
  pub character : IsScalar n
  pub other : (is_hangul_syllable n ≡ false) × (n ≢ 0xFFFD)
  pub word : is_disallowed (word_of s n) ≡ true

-- the characters after n and before `end` are syllables after it, and then Hangul is sound, or disallowed as it is
pub record IsEndOfEqualWords (s : Characters) (hangul_is_sound : Bool) (n end : ℕ) : Type 0 where
  pub above : n < end
  pub within : n ≤ code_points → end ≤ code_points + 1
  pub alike : (m : ℕ) → n < m → m < end → IsScalar m
      → ((hangul_is_sound ≡ true) × IsSyllableAfter n m) ⊎ (IsDisallowed s n × IsDisallowed s m)

-- a character has another word than 0, or nothing composes across its beginning if a composing loop relies on it
unfoldable pub KeepsPlainBoundary : Characters → Bounds → List Pair → ℕ → Type 0
KeepsPlainBoundary s b pairs n = IsScalar n → is_plain (word_of s n) ≡ true → KeepsBoundary s b pairs n

-- what is checked of a condition before that walk: what it says of all, and of the characters whose word is 0, flags
-- aside
abbrev pub IsMetBefore : Loaded → Condition → Type 0
IsMetBefore d c =
    (says d c).of_all × ((n : ℕ) → IsScalar n → is_plain (word_of d.characters n) ≡ true → (says d c).of_each n)

-- a condition may say something of each character: those below 7 say nothing
unfoldable pub is_asked_of_words : Condition → Bool
is_asked_of_words c = nat_le (number_of Words) (number_of c)

-- no condition before the place does
abbrev pub AreUnasked : List Condition → ℕ → Type 0
AreUnasked conditions place = AllWithin (λ c. is_asked_of_words c ≡ false) conditions 0 place

-- the place of the first condition that fails, or their number if none does
pub record IsPlaceOfFirstFailing (holds : Condition → Type 0) (conditions : List Condition) (place : ℕ) : Type 0 where
  pub within : place ≤ length conditions
  pub before : AllWithin holds conditions 0 place
  pub fails : (c : Condition) → slice_get conditions place ≡ Some c → ¬ holds c
