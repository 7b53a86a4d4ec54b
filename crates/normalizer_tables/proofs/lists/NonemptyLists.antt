-- No list that a word reads to is empty, but for the ignored marker.
use Rattle.std.proofs.Common.{◌≡◌, ◌≢◌, ℕ, ◌⊎◌, inl, inr, false, List, [], length, Option, ap, subst, arith}
use Rattle.normal_forms.specs.Hypotheses.{HasNonemptyLists}
use Rattle.normalizer_tables.specs.declared.word.WordReading.TheVariants.{Ignored}
use Rattle.normalizer_tables.specs.Words.{two_characters, listed_reading, read_low, read}
use Rattle.normalizer_tables.specs.Characters.{Characters, word_of, reading_of_word, list_of}
use Rattle.normalizer_tables.specs.Ignored.{IgnoredCharacters, Replaced, ignored_list}
use Rattle.normalizer_tables.proofs.lists.ListLengths.{list_of-few}
use Rattle.normalizer_tables.specs.Readings.{reading_of}

-- no word of data that aren't the mapper's is the ignored marker
read-unmarked : (n w : ℕ) → read n w false ≢ Ignored
unfolding read two_characters listed_reading read_low
read-unmarked n w e = grind arith

pub list_of-empty : (s : Characters) (ignored : List ℕ) (n : ℕ) → list_of s ignored n ≡ [] → (reading_of_word s n ≡ Ignored → ⊥) → ⊥
list_of-empty s ignored n e other = omega (arith, list_of-few 1 n (omega arith) s ignored (λ r. absurd (other r)), ap length e)

-- the list of an ignored character is empty only if it is dropped
pub HasNonemptyLists-reading_of : (s : Characters) (i : IgnoredCharacters) (pairing : ℕ → ℕ → Option ℕ) → (s.is_mapper ≡ false) ⊎ (i ≡ Replaced) →
    HasNonemptyLists (reading_of s (ignored_list i) pairing)
unfolding reading_of_word
HasNonemptyLists-reading_of s i pairing h = record {
  are_nonempty = λ c e. omega (
    arith,
    ap length e,
    list_of-few 1 c (omega arith) s (ignored_list i) (λ r. elim h [
      | inl other ↦ absurd (read-unmarked c (word_of s c) (subst (λ b. read c (word_of s c) b ≡ Ignored) other r))
      | inr replaced ↦ rw replaced (omega arith, omega arith)
    ]),
  );
}

-- what the law of inhabited lists says
pub ruleset inhabited_lists = (HasNonemptyLists-reading_of)
