-- The list and the class of a character.
use Rattle.std.proofs.Common.{◌≡◌, ℕ, true, All, List, [], ◌∷◌, Some, None, unwrap_or, ap}
use Rattle.std.specs.Char.{IsScalar}
use lib.Utf8.{scalar}
use Rattle.std.proofs.lemmas.List.Sums.{list_all-from_AllPass}
use Rattle.normalizer_tables.specs.declared.word.WordReading.{WordReading}
use Rattle.normalizer_tables.specs.Words.{class_of_word}
use Rattle.normalizer_tables.specs.Characters.{Characters, word_of, reading_of_word, as_text, named_list, list_read, list_of, class_of}

pub as_text-scalars : (x : List ℕ) → All IsScalar x → as_text x ≡ Some x
unfolding as_text
as_text-scalars x h = rw (list_all-from_AllPass scalar x h)

pub list_read-scalar : (s : Characters) (ignored : List ℕ) (n : ℕ) (r : WordReading) → scalar n ≡ true → reading_of_word s n ≡ r → list_read s ignored n ≡ named_list s ignored n r
unfolding list_read
list_read-scalar s ignored n r h e = rw (h, e)

pub class_of-scalar : (s : Characters) (n : ℕ) → scalar n ≡ true → class_of s n ≡ class_of_word (word_of s n)
unfolding class_of
class_of-scalar s n h = rw h

pub list_of-reads : (s : Characters) (ignored : List ℕ) (n : ℕ) (x : List ℕ) → list_read s ignored n ≡ Some x → list_of s ignored n ≡ x
unfolding list_of
list_of-reads s ignored n x e = ap (λ o. unwrap_or o (n ∷ [])) e

pub list_of-default : (s : Characters) (ignored : List ℕ) (n : ℕ) → list_read s ignored n ≡ None → list_of s ignored n ≡ n ∷ []
unfolding list_of
list_of-default s ignored n e = ap (λ o. unwrap_or o (n ∷ [])) e

-- what scalar values have
pub ruleset of_scalars = (list_read-scalar, class_of-scalar)
