-- The numbers in a word, and what its reading says.
use Rattle.std.proofs.Common.{◌≡◌, ℕ, ◌<◌, ◌/◌, ◌^◌, ◌*◌, ◌%◌, true, false, bit_and, arith}
use Rattle.std.proofs.lemmas.Bool.Decides.{nat_tests}
use Rattle.std.proofs.lemmas.Nat.{and_mask}
use Rattle.std.proofs.lemmas.Nat.Bits.{and_high}
use lib.Utf8.{scalar}
use Rattle.normalizer_tables.specs.declared.word.WordReading.TheVariants.{Itself, ClassForm, HangulSyllable}
use Rattle.normalizer_tables.specs.Hangul.{is_hangul_syllable}
use Rattle.normalizer_tables.specs.Characters.{Characters, class_of, reading_of_word}
use Rattle.normalizer_tables.specs.Words.{has_high_zeros, class_of_word, is_class_form, read, read_low, two_characters, listed_reading}
use Rattle.normalizer_tables.proofs.words.CharacterLemmas.{list_of-reads}
use Rattle.normalizer_tables.proofs.conditions.ConditionLemmas.{plain-no_class_form}
use Rattle.normalizer_tables.proofs.lists.NonemptyLists.{list_of-empty}

-- a word without high zeros points to an item
pub item_above_zero : (w : ℕ) → has_high_zeros w ≡ false → 0 < bit_and w 0x3FFFFFFF / 2 ^ 16
unfolding has_high_zeros
item_above_zero w h =
    let high : bit_and w 0x3FFF0000 ≡ (w / 2 ^ 16 % 2 ^ 14) * 2 ^ 16 = and_high w 14 16 in
    let low : bit_and w 0x3FFFFFFF ≡ w % 2 ^ 30 = and_mask w 30 in
    grind (arith, nat_tests)

-- a word reads as that of a Hangul syllable only if it is one's
pub read-hangul : (s : Characters) (n : ℕ) → reading_of_word s n ≡ HangulSyllable → is_hangul_syllable n ≡ true
unfolding reading_of_word read read_low two_characters listed_reading
read-hangul s n e = grind arith

-- a word that says that its character is its own list has the class
pub class_of-itself : (s : Characters) (n : ℕ) → reading_of_word s n ≡ Itself → scalar n ≡ true → 0 ≡ class_of s n
unfolding class_of reading_of_word read read_low two_characters listed_reading class_of_word is_class_form
class_of-itself s n e known = grind (arith, plain-no_class_form)

pub class_of-class_form : (s : Characters) (n k : ℕ) → reading_of_word s n ≡ ClassForm k → scalar n ≡ true → k ≡ class_of s n
unfolding class_of reading_of_word read read_low two_characters listed_reading class_of_word is_class_form
class_of-class_form s n k e known = grind arith

-- what the functions that read words cite
pub ruleset readings = (read-hangul, class_of-itself, class_of-class_form, list_of-empty, list_of-reads)
