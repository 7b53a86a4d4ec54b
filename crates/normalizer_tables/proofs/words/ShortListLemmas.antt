-- The words that spell one or two characters.
use Rattle.std.proofs.Common.{Some, ◌≡◌, ℕ, ◌<◌, ◌/◌, ◌^◌, ◌%◌, List, [], ◌∷◌, bit_and, arith, refl}
use Rattle.std.proofs.lemmas.Nat.{and_mask}
use Rattle.std.proofs.Math.Utf8.{low_scalar}
use Rattle.std.specs.Char.{IsScalar}
use Rattle.normalizer_tables.specs.declared.word.WordReading.TheVariants.{ClassForm, Itself, OneCharacter, TwoCharacters}
use Rattle.normalizer_tables.specs.Characters.{Characters, as_text, list_of, list_read, named_list, reading_of_word, word_of}
use Rattle.normalizer_tables.specs.Words.{read, read_low, two_characters, listed_reading}
use Rattle.normalizer_tables.proofs.syllables.SyllableJamo.{listed_syllables}

-- the two have 15 bits each
pub two_low : (s : Characters) (n a b : ℕ) → reading_of_word s n ≡ TwoCharacters a b → (a < 0x8000) × (b < 0x8000)
unfolding reading_of_word read read_low two_characters listed_reading
two_low s n a b e =
    let w = word_of s n in
    let first : bit_and w 0x7FFF ≡ w % 2 ^ 15 = and_mask w 15 in
    let second : bit_and (w / 2 ^ 15) 0x7FFF ≡ w / 2 ^ 15 % 2 ^ 15 = and_mask (w / 2 ^ 15) 15 in
    (grind arith, grind arith)

-- the list of a character whose word spells two
pub listed_pairs : (s : Characters) (ignored : List ℕ) (n a b : ℕ) → IsScalar n → reading_of_word s n ≡ TwoCharacters a b → list_of s ignored n ≡ a ∷ b ∷ []
unfolding list_of list_read named_list as_text
listed_pairs s ignored n a b valid e = let low = two_low s n a b e in rw (valid, e, low_scalar a (omega (arith, low.0)), low_scalar b (omega (arith, low.1))) refl

-- the list of a character whose word spells another one
pub listed_others : (s : Characters) (ignored x : List ℕ) (n a : ℕ) → IsScalar n → reading_of_word s n ≡ OneCharacter a → as_text (a ∷ []) ≡ Some x → list_of s ignored n ≡ x
unfolding list_of list_read named_list
listed_others s ignored x n a valid e one = rw (valid, e, one) refl

-- the list of a character that is its own
pub listed_itself : (s : Characters) (ignored : List ℕ) (n : ℕ) → IsScalar n → reading_of_word s n ≡ Itself → list_of s ignored n ≡ n ∷ []
unfolding list_of list_read named_list
listed_itself s ignored n valid e = rw (valid, e) refl

-- the same of a mark
pub listed_marks : (s : Characters) (ignored : List ℕ) (n k : ℕ) → IsScalar n → reading_of_word s n ≡ ClassForm k → list_of s ignored n ≡ n ∷ []
unfolding list_of list_read named_list
listed_marks s ignored n k valid e = rw (valid, e) refl

-- what the function that makes short lists cites
pub ruleset short_lists = (two_low, listed_pairs, listed_others, listed_itself, listed_marks, listed_syllables)
