-- What a word reads to, by what it is without its flags, and what is known of the lists that words read to.
use Rattle.std.proofs.Common.{◌≡◌, ◌≢◌, ℕ, ◌+◌, ◌*◌, ◌/◌, ◌%◌, ◌^◌, ◌<◌, Bool, true, false, not, ◌&&◌, ◌==◌, nat_le, bit_and, if◌then◌else◌, ne_eqb, refl, ap, sym, ◌∙◌, arith}
use Rattle.std.proofs.Common.{◌-◌, List, [], ◌∷◌, Option, Some, None}
use Rattle.std.specs.Option.{option_map}
use Rattle.std.proofs.Math.Utf8.{low_scalar}
use Rattle.std.proofs.lemmas.Bool.{and_parts}
use Rattle.std.specs.Char.{IsScalar}
use Rattle.std.proofs.lemmas.Bool.Decides.{nat_tests}
use Rattle.std.proofs.lemmas.Nat.{and_mask}
use Rattle.std.proofs.lemmas.Nat.Bits.{and_high}
use Rattle.normalizer_tables.specs.declared.word.WordReading.{WordReading}
use Rattle.normalizer_tables.specs.declared.word.WordReading.TheVariants.{Ignored, Itself, ClassForm, SpecialForm, TwoCharacters, HangulSyllable, Fdfa, OneCharacter, Listed}
use Rattle.normalizer_tables.specs.conditions.Conditions.{item_limit}
use Rattle.normalizer_tables.specs.Characters.{as_text}
use Rattle.normalizer_tables.specs.Hangul.{hangul_decomposition, is_hangul_syllable, l_base, n_count, s_base, t_base, t_count, v_base}
use Rattle.normalizer_tables.specs.SpecialLists.{fixed_list_of}
use Rattle.normalizer_tables.proofs.syllables.HangulLemmas.{is_hangul_syllable-true}
use Rattle.normalizer_tables.specs.Words.{class_of_word, is_class_form, is_ordinary_class_form, is_special_class_form, low_byte, is_plain, has_high_zeros, has_low_zeros, listed_reading, read}
use Rattle.normalizer_tables.specs.Words.{read_low, two_characters}
use Rattle.normalizer_packing.specs.Flags.{without_flags}
use Rattle.normalizer_tables.specs.declared.entry.Kind.{Kind}
use Rattle.normalizer_tables.specs.declared.entry.Kind.TheVariants.{Mapper}
use Rattle.normalizer_tables.specs.Entries.{EntryValue, own_list}
use Rattle.normalizer_packing.specs.ReadBack.{is_mappers}
use Rattle.normalizer_packing.specs.Spelling.{has_fixed_list, have_classes, list_eq, spells_two}
use Rattle.normalizer_packing.specs.Stored.{HasLengthOfWord, low_length}
use Rattle.normalizer_packing.proofs.lists.TableLemmas.{same_list}

-- what w reads to as a word of n, its class, and whether it is a class form
pub record Reads (n w : ℕ) (is_mapper : Bool) (r : WordReading) (k : ℕ) (b : Bool) : Type 0 where
  pub reading : read n w is_mapper ≡ r
  pub class : class_of_word w ≡ k
  pub form : is_class_form w ≡ b

-- the bits of w that tests look at, if w without its flags is v
record HasBits (w v : ℕ) : Type 0 where
  whole : bit_and w 0x3FFFFFFF ≡ v
  above_byte : bit_and w 0x3FFFFF00 ≡ v / 2 ^ 8 * 2 ^ 8
  high : bit_and w 0x3FFF0000 ≡ v / 2 ^ 16 * 2 ^ 16
  above_length : bit_and w 0xFFE0 ≡ (v / 2 ^ 5 % 2 ^ 11) * 2 ^ 5
  byte : bit_and w 0xFF ≡ v % 2 ^ 8
  half : bit_and w 0xFFFF ≡ v % 2 ^ 16
  first : bit_and w 0x7FFF ≡ v % 2 ^ 15
  second : bit_and (w / 2 ^ 15) 0x7FFF ≡ v / 2 ^ 15
  length : bit_and w 0xF ≡ v % 2 ^ 4
  promise : bit_and w 0x10 ≡ (v / 2 ^ 4 % 2 ^ 1) * 2 ^ 4
  unmarked : v ≢ 0x3FFFFFFF → (w == 0xFFFFFFFF) ≡ false

bits : (w v : ℕ) → without_flags w ≡ v → HasBits w v
unfolding without_flags
bits w v rest = let low : w % 2 ^ 30 ≡ v = sym (and_mask w 30) ∙ rest in record {
  whole = rest;
  above_byte = and_high w 22 8 ∙ omega arith;
  high = and_high w 14 16 ∙ omega arith;
  above_length = and_high w 11 5 ∙ omega arith;
  byte = and_mask w 8 ∙ omega arith;
  half = and_mask w 16 ∙ omega arith;
  first = and_mask w 15 ∙ omega arith;
  second = and_mask (w / 2 ^ 15) 15 ∙ omega arith;
  length = and_mask w 4 ∙ omega arith;
  promise = and_high w 1 4 ∙ omega arith;
  unmarked = λ other. ne_eqb w 0xFFFFFFFF (λ (e : w ≡ 0xFFFFFFFF). other (omega arith));
}

-- the word 0 is of the character itself
pub reads_itself : (n w : ℕ) (m : Bool) → without_flags w ≡ 0 → Reads n w m Itself 0 false
unfolding read class_of_word is_class_form is_plain is_ordinary_class_form is_special_class_form
reads_itself n w m rest = let b = bits w 0 rest in record { reading = grind (arith, nat_tests); class = grind (arith, nat_tests); form = grind (arith, nat_tests) }

-- those that tell a class are of the character itself, or of its fixed list
pub reads_class : (special : Bool) (n w k : ℕ) (m : Bool) → k < 0x100 → without_flags w ≡ (if special then 0xD900 else 0xD800) + k → Reads n w m (if special then SpecialForm k else ClassForm k) k true
unfolding read class_of_word is_class_form is_plain is_ordinary_class_form is_special_class_form low_byte
reads_class special n w k m small rest =
    let b = bits w ((if special then 0xD900 else 0xD800) + k) rest in record { reading = grind (arith, nat_tests); class = grind (arith, nat_tests); form = grind (arith, nat_tests) }

-- the word 1 is of a Hangul syllable, or of U+FDFA and the characters with its list
pub reads_low : (n w : ℕ) (m : Bool) → without_flags w ≡ 1 → Reads n w m (if is_hangul_syllable n then HangulSyllable else Fdfa) 0 false
unfolding read read_low class_of_word is_class_form is_plain is_ordinary_class_form is_special_class_form has_high_zeros has_low_zeros
reads_low n w m rest = let b = bits w 1 rest in record { reading = grind (arith, nat_tests); class = grind (arith, nat_tests); form = grind (arith, nat_tests) }

pub reads_one : (n w a : ℕ) (m : Bool) → is_hangul_syllable n ≡ false → a ≢ 0 → (nat_le a 0xFFFF && not (a == 1)) ≡ true → IsScalar a → without_flags w ≡ a → Reads n w m (OneCharacter a) 0 false
unfolding read read_low class_of_word is_class_form is_plain is_ordinary_class_form is_special_class_form has_high_zeros has_low_zeros
reads_one n w a m other some both scalar rest = let b = bits w a rest in record { reading = grind (arith, nat_tests); class = grind (arith, nat_tests); form = grind (arith, nat_tests) }

-- the word that is the marker without its flags would spell the same character twice
pub reads_two : (class : ℕ → ℕ) (n w a b : ℕ) (m : Bool) → spells_two class n a b ≡ true → class a ≡ 0 → without_flags w ≡ a + b * 0x8000 → Reads n w m (TwoCharacters a b) 0 false
unfolding read two_characters class_of_word is_class_form is_plain is_ordinary_class_form is_special_class_form has_high_zeros has_low_zeros spells_two without_flags
reads_two class n w a b m spells starter rest =
    let first : a < 0x8000 = grind (arith, nat_tests) in
    let second : b < 0x8000 = grind (arith, nat_tests) in
    let mark : 0 < class b = grind (arith, nat_tests) in
    let own = bits (a + b * 0x8000) (a + b * 0x8000) (and_mask (a + b * 0x8000) 30 ∙ omega arith) in
    let seen = bits w (a + b * 0x8000) rest in
    let unlike : a + b * 0x8000 ≢ 0x3FFFFFFF = λ e. (let same : a ≡ b = omega arith in omega (arith, ap class same)) in
    record { reading = grind (arith, nat_tests); class = grind (arith, nat_tests); form = grind (arith, nat_tests) }

pub reads_listed : (n w item low : ℕ) (marks m : Bool) → item < item_limit → low < 0x10 → without_flags w ≡ (item + 1) * 0x10000 + ((if marks then 0x10 else 0) + low) →
    Reads n w m (Listed item low marks) 0 false
unfolding read listed_reading class_of_word is_class_form is_plain is_ordinary_class_form is_special_class_form has_high_zeros has_low_zeros
reads_listed n w item low marks m within short rest =
    let seen = bits w ((item + 1) * 0x10000 + ((if marks then 0x10 else 0) + low)) rest in
    record { reading = grind (arith, nat_tests); class = grind (arith, nat_tests); form = grind (arith, nat_tests) }

-- in the mapper's data
pub reads_ignored : (n w : ℕ) → w ≡ 0xFFFFFFFF → Reads n w true Ignored 0 false
unfolding read class_of_word is_class_form is_ordinary_class_form is_special_class_form
reads_ignored n w e = rw e (record { reading = refl; class = refl; form = refl })

pub no_fixed-empty : (class : ℕ → ℕ) (n : ℕ) → has_fixed_list class n [] ≡ false
unfolding has_fixed_list fixed_list_of
no_fixed-empty class n = grind (arith, nat_tests)

pub no_fixed-alone : (class : ℕ → ℕ) (n : ℕ) → has_fixed_list class n (n ∷ []) ≡ false
unfolding has_fixed_list fixed_list_of
no_fixed-alone class n = grind (arith, nat_tests)

pub no_fixed-hangul : (class : ℕ → ℕ) (n : ℕ) (x : List ℕ) → is_hangul_syllable n ≡ true → has_fixed_list class n x ≡ false
unfolding has_fixed_list fixed_list_of is_hangul_syllable
no_fixed-hangul class n x syllable = grind (arith, nat_tests)

-- the word of a character with its fixed list names that
pub fixed_named : (class : ℕ → ℕ) (n : ℕ) (x : List ℕ) → has_fixed_list class n x ≡ true → option_map (λ f. f.list) (fixed_list_of n) ≡ Some x
unfolding has_fixed_list
fixed_named class n x h = elim (fixed_list_of n) as (λ o. elim o [ Some f ↦ list_eq f.list x && ((f.class == class n) && have_classes class f.member_classes x) | None ↦ false ] ≡ true →
    option_map (λ f. f.list) o ≡ Some x) [ Some f ↦ λ g. ap Some (same_list f.list x (and_parts _ _ g).0) | None ↦ λ g. cc ] h

pub hangul_text : (n : ℕ) → is_hangul_syllable n ≡ true → as_text (hangul_decomposition n) ≡ Some (hangul_decomposition n)
unfolding as_text hangul_decomposition
hangul_text n syllable =
    let range = is_hangul_syllable-true n syllable in
    let l = low_scalar (l_base + (n - s_base) / n_count) (omega arith) in
    let v = low_scalar (v_base + (n - s_base) % n_count / t_count) (omega arith) in
    let t = low_scalar (t_base + (n - s_base) % t_count) (omega arith) in grind arith

-- a word can tell the length of a list in the tables
pub low_length-small : (x : List ℕ) → HasLengthOfWord x → low_length x < 0x10
unfolding HasLengthOfWord low_length
low_length-small x h = grind arith

-- a list is missing in the mapper's data alone
pub mapper_ignores : (kind : Kind) (n : ℕ) (o : Option EntryValue) → elim o as (λ _. Option (List ℕ)) [ Some e ↦ own_list kind e | None ↦ Some (n ∷ []) ] ≡ None → is_mappers kind ≡ true
mapper_ignores Mapper n o none = refl
mapper_ignores _ n None none = cc
mapper_ignores _ n (Some e) none = cc
