-- What a plain word says of its character.
use Rattle.std.proofs.Common.{◌≡◌, ℕ, List, [], ◌∷◌, true, false, inl, inr}
use Rattle.std.proofs.lemmas.Bool.{cases_Bool}
use lib.Utf8.{scalar}
use Rattle.normalizer_tables.specs.declared.word.WordReading.TheVariants.{Itself}
use Rattle.normalizer_tables.specs.Characters.{Characters, word_of, reading_of_word, named_list, list_read, list_of, class_of, has_class_form}
use Rattle.normalizer_tables.specs.Passthrough.{IsPassthrough}
use Rattle.normalizer_tables.specs.Words.{is_plain, class_of_word}
use Rattle.normalizer_tables.proofs.words.CharacterLemmas.{list_read-scalar, list_of-reads, list_of-default, class_of-scalar}
use Rattle.normalizer_tables.proofs.conditions.ConditionLemmas.{read-plain, plain-no_class_form}

list-plain : (s : Characters) (ignored : List ℕ) (n : ℕ) → is_plain (word_of s n) ≡ true → list_of s ignored n ≡ n ∷ []
unfolding named_list reading_of_word list_read
list-plain s ignored n plain =
    elim (cases_Bool (scalar n)) [
      | inl h ↦ list_of-reads s ignored n (n ∷ []) (list_read-scalar s ignored n Itself h (read-plain n (word_of s n) s.is_mapper plain))
      | inr other ↦ list_of-default s ignored n (rw other)
    ]

class-plain : (s : Characters) (n : ℕ) → is_plain (word_of s n) ≡ true → class_of s n ≡ 0
unfolding class_of_word class_of
class-plain s n plain =
    elim (cases_Bool (scalar n)) [
      | inl h ↦ rw (class_of-scalar s n h, plain-no_class_form (word_of s n) plain)
      | inr other ↦ rw other
    ]

form-plain : (s : Characters) (n : ℕ) → is_plain (word_of s n) ≡ true → has_class_form s n ≡ false
unfolding has_class_form
form-plain s n plain = plain-no_class_form (word_of s n) plain

-- its character is its own list, a starter without class form
pub IsPassthrough-plain : (s : Characters) (n : ℕ) → is_plain (word_of s n) ≡ true → IsPassthrough s n
IsPassthrough-plain s n plain =
    record { itself = λ ignored. list-plain s ignored n plain; starter = class-plain s n plain; no_class_form = form-plain s n plain }
