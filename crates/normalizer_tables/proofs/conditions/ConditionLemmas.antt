-- What the parts of the conditions say.
use Rattle.std.proofs.Common.{◌≡◌, ◌≢◌, ◌≤◌, ◌⊎◌, ℕ, Bool, true, false, ◌==◌, [], ◌∷◌, All, Some, true≢false, bit_and, ap, sym, ◌∙◌, subst, arith}
use Rattle.std.specs.Char.{IsScalar}
use lib.Utf8.{scalar}
use Rattle.std.proofs.Math.Bool.{and-false}
use Rattle.std.proofs.lemmas.Bool.{or_parts}
use Rattle.std.proofs.lemmas.Bool.Decides.{nat_tests}
use Rattle.std.proofs.lemmas.List.Elements.{All-cons, All-nil}
use Rattle.std.proofs.lemmas.Nat.{and_assoc}
use Rattle.normal_forms.specs.Order.{order, insert}
use Rattle.normalizer_tables.specs.declared.word.WordReading.TheVariants.{Itself}
use Rattle.normalizer_tables.specs.conditions.CharacterConditions.{is_composing_jamo, is_surrogate, IsOrderedList, IsSoundClass, IsSoundWord, KeepsPromise, ReadsToItself}
use Rattle.normalizer_tables.specs.conditions.StepConditions.{HasSoundStep, IsSoundStep}
use Rattle.normalizer_tables.specs.Data.{Supplement}
use Rattle.normalizer_tables.specs.Table.{code_points}
use Rattle.normalizer_tables.specs.Steps.{step_of, step_of_reading}
use Rattle.normalizer_tables.specs.Hangul.{is_hangul_syllable}
use Rattle.normalizer_tables.specs.Words.{ignored_marker, is_plain, is_class_form, is_ordinary_class_form, is_special_class_form, class_of_word, read}
use Rattle.normalizer_tables.specs.Characters.{Characters, word_of, reading_of_word, named_list, list_read, list_of, class_of}
use Rattle.normalizer_tables.proofs.words.CharacterLemmas.{list_read-scalar, list_of-reads, class_of-scalar}

pub IsSoundClass-none : (n w : ℕ) → is_class_form w ≡ false → IsSoundClass n w
unfolding is_class_form
IsSoundClass-none n w e = (let none = or_parts _ _ e in record { ordinary = λ h. cc; special = λ h. absurd (true≢false (sym h ∙ none.1)) })

-- a word has but one of the class forms
pub one_class_form : (w : ℕ) → is_ordinary_class_form w ≡ true → is_special_class_form w ≡ true → ⊥
unfolding is_ordinary_class_form is_special_class_form
one_class_form w h k = grind (arith, nat_tests)

-- what a plain word says
plain-unmarked : (w : ℕ) → is_plain w ≡ true → w ≢ ignored_marker
unfolding is_plain
plain-unmarked w h e = (let plain = subst (λ n. is_plain n ≡ true) e h in cc)

pub read-plain : (n w : ℕ) (is_mapper : Bool) → is_plain w ≡ true → read n w is_mapper ≡ Itself
unfolding read
read-plain n w is_mapper h =
    let other = plain-unmarked w h in
    let unmarked : (w == ignored_marker) ≡ false = grind (arith, nat_tests) in
    rw (unmarked, and-false, h)

pub reading-plain : (s : Characters) (n : ℕ) → is_plain (word_of s n) ≡ true → reading_of_word s n ≡ Itself
unfolding reading_of_word
reading-plain s n plain = read-plain n (word_of s n) s.is_mapper plain

pub plain-no_class_form : (w : ℕ) → is_plain w ≡ true → is_class_form w ≡ false
unfolding is_plain is_class_form is_ordinary_class_form is_special_class_form
plain-no_class_form w h =
    let none : bit_and w 0x3FFFFFFF ≡ 0 = grind (arith, nat_tests) in
    let high : bit_and w 0x3FFFFF00 ≡ 0 = sym (and_assoc 0x3FFFFF00 w 0x3FFFFFFF) ∙ ap (λ v. bit_and v 0x3FFFFF00) none in
    rw high

pub list_read-plain : (s : Characters) (n : ℕ) → scalar n ≡ true → is_plain (word_of s n) ≡ true → list_read s [] n ≡ Some (n ∷ [])
unfolding named_list reading_of_word
list_read-plain s n h plain = list_read-scalar s [] n Itself h (read-plain n (word_of s n) s.is_mapper plain)

pub class_of-plain : (s : Characters) (n : ℕ) → scalar n ≡ true → is_plain (word_of s n) ≡ true → class_of s n ≡ 0
unfolding class_of_word
class_of-plain s n h plain = class_of-scalar s n h ∙ rw (plain-no_class_form (word_of s n) plain)

pub IsSoundWord-plain : (s : Characters) (n : ℕ) → scalar n ≡ true → is_plain (word_of s n) ≡ true → IsSoundWord s n
IsSoundWord-plain s n h plain = record {
  reads = rw (list_read-plain s n h plain);
  class = IsSoundClass-none n (word_of s n) (plain-no_class_form (word_of s n) plain);
  flagged = λ form. absurd (true≢false (sym form ∙ plain-no_class_form (word_of s n) plain));
  marker = λ q. plain-unmarked (word_of s n) plain;
}

-- what reads to itself reads in full
pub itself_reads_in_full : (s : Characters) (n : ℕ) → ReadsToItself s n → All (ReadsToItself s) (list_of s [] n)
unfolding ReadsToItself
itself_reads_in_full s n itself = rw (list_of-reads s [] n (n ∷ []) itself) (All-cons (ReadsToItself s) n [] itself (All-nil (ReadsToItself s)))

pub IsOrderedList-plain : (s : Characters) (n : ℕ) → scalar n ≡ true → is_plain (word_of s n) ≡ true → IsOrderedList s n
unfolding KeepsPromise reading_of_word order insert
IsOrderedList-plain s n h plain =
    let itself : list_of s [] n ≡ n ∷ [] = list_of-reads s [] n (n ∷ []) (list_read-plain s n h plain) in
    record {
      ordered = rw itself;
      first = λ q. rw itself (class_of-plain s n h plain);
      promise = rw (read-plain n (word_of s n) s.is_mapper plain) tt;
    }

-- a character with a plain word has no mapping
pub HasSoundStep-plain : (s : Characters) (t : Supplement) (n : ℕ) → IsScalar n → is_plain (word_of s n) ≡ true → HasSoundStep s t n
unfolding HasSoundStep IsSoundStep step_of step_of_reading reading_of_word
HasSoundStep-plain s t n h plain other = rw (other, read-plain n (word_of s n) s.is_mapper plain) (list_of-reads s [] n (n ∷ []) (list_read-plain s n h plain))

-- nothing is required of Hangul syllables
pub HasSoundStep-hangul : (s : Characters) (t : Supplement) (n : ℕ) → is_hangul_syllable n ≡ true → HasSoundStep s t n
unfolding HasSoundStep
HasSoundStep-hangul s t n hangul other = cc

-- a number that no character has is a surrogate, or lies past the code points
pub no_scalar : (n : ℕ) → scalar n ≡ false → (is_surrogate n ≡ true) ⊎ (code_points ≤ n)
unfolding is_surrogate code_points
no_scalar n h = grind (arith, nat_tests)

pub syllable-scalar : (n : ℕ) → is_hangul_syllable n ≡ true → scalar n ≡ true
unfolding is_hangul_syllable
syllable-scalar n h = grind (arith, nat_tests)

pub jamo_scalar : (n : ℕ) → is_composing_jamo n ≡ true → scalar n ≡ true
unfolding is_composing_jamo
jamo_scalar n h = grind (arith, nat_tests)

-- what a word that is 0, flags aside, says of its character
pub ruleset plain_words = (read-plain, list_read-plain)
