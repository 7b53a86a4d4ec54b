-- The bytes that are made of blocks of words.
use Rattle.std.proofs.Common.{◌≡◌, ℕ, ◌*◌, ◌/◌, ◌%◌, ◌^◌, ◌<◌, ◌==◌, All, Contains, true, inl, inr, List, [], length, get_or, bit_and, arith, ap, sym, ◌∙◌, Result, Ok, Err, IfOk}
use Rattle.std.proofs.lemmas.Bool.{cases_Bool}
use Rattle.std.proofs.lemmas.Bool.Decides.{nat_tests}
use Rattle.std.proofs.lemmas.Nat.Bits.{and_high}
use Rattle.std.proofs.lemmas.List.Elements.{All-contains, All-from_get_or}
use Rattle.normalizer_passing.specs.PassBytes.{byte_in, byte_of, AreNumbers}
use Rattle.normalizer_tables.specs.Pairs.{Pair, may_be_second}
use Rattle.normalizer_tables.specs.PassingWords.{has_no_flag, IsComposingByte}
use Rattle.normalizer_tables.specs.Table.{Block, Table, code_points, word_at}
use Rattle.normalizer_tables.specs.Words.{is_backward_combining, is_non_round_trip}
use Rattle.normalizer_tables.specs.inner.Blocks.{IsStored, block_at, stored_words}
use Rattle.normalizer_tables.specs.inner.PassingWords.{byte_without, AreBytesWithout, HasBytesWithout}
use Rattle.normalizer_tables.proofs.code_points.BlockLemmas.{block_at-stored, get_or-stored_words, length-numbers, place-within}

-- a word has no flag if none of the two bits is set
pub has_no_flag-bits : (w : ℕ) → (bit_and w 0xC0000000 == 0) ≡ has_no_flag w
unfolding has_no_flag is_non_round_trip is_backward_combining
has_no_flag-bits w =
    let both : bit_and w 0xC0000000 ≡ (w / 2 ^ 30 % 2 ^ 2) * 2 ^ 30 = and_high w 2 30 in
    let low : bit_and w 0x40000000 ≡ (w / 2 ^ 30 % 2 ^ 1) * 2 ^ 30 = and_high w 1 30 in
    let high : bit_and w 0x80000000 ≡ (w / 2 ^ 31 % 2 ^ 1) * 2 ^ 31 = and_high w 1 31 in
    grind (arith, nat_tests)

-- the bytes of the first blocks
pub record AreOfBlocks (bits : ℕ) (blocks : List Block) (n : ℕ) (kept : List (List ℕ)) : Type 0 where
  pub long : length kept ≡ n
  pub bytes : (i : ℕ) → i < n → AreBytesWithout bits (get_or blocks i []) (get_or kept i [])

-- so the numbers of blocks are those of their bytes
module _ (bits : ℕ) (blocks : List Block) (numbers : List ℕ) (kept : List (List ℕ)) (stored : IsStored blocks numbers (stored_words blocks numbers))
    (of_blocks : AreOfBlocks bits blocks (length blocks) kept) where
  pub AreNumbers-blocks : AreNumbers kept numbers
  AreNumbers-blocks = record {
    long = length-numbers blocks numbers (stored_words blocks numbers) stored;
    within = All-from_get_or (λ n. n < length kept) numbers 0 (λ k inside.
        let within = (block_at-stored blocks numbers (stored_words blocks numbers) stored k (let l = length-numbers blocks numbers (stored_words blocks numbers) stored in omega arith)).0 in
        omega (arith, within, of_blocks.long));
  }

  -- and the bytes those of all words
  pub byte_in-blocks : (above n : ℕ) → n < 0x110000 → byte_in kept numbers n ≡ byte_without bits (word_at (record { words = stored_words blocks numbers; past = above }) n)
  unfolding byte_in word_at block_at code_points
  byte_in-blocks above n low =
      let within = (block_at-stored blocks numbers (stored_words blocks numbers) stored (n / 64) (place-within n low)).0 in
      (of_blocks.bytes (get_or numbers (n / 64) 0) within).of_words (n % 64) (omega arith) ∙ ap (byte_without bits) (sym (get_or-stored_words blocks numbers n above low))

  pub HasBytesWithout-blocks : (above : ℕ) (bytes : List ℕ) → ((n : ℕ) → 0 < byte_of bytes n → (n < 0x110000) × (byte_of bytes n ≡ byte_in kept numbers n))
      → HasBytesWithout bits (record { words = stored_words blocks numbers; past = above }) bytes
  HasBytesWithout-blocks above bytes same n some = let is = same n some in is.1 ∙ byte_in-blocks above n is.0

-- a byte without the bits of flags, where no second passes
pub IsComposingByte-without : (t : Table) (pairs : List Pair) (bytes : List ℕ) → HasBytesWithout 0xC0000000 t bytes → (seconds : List ℕ) → ((n : ℕ) → may_be_second pairs n ≡ true → Contains seconds n) → All (λ n. byte_of bytes n ≡ 0) seconds → (n : ℕ) → 0 < byte_of bytes n
    → IsComposingByte pairs n (word_at t n) (byte_of bytes n)
unfolding byte_without
IsComposingByte-without t pairs bytes without seconds are stops n some =
    let is = without n some in record {
      starter = λ whole. grind (arith, nat_tests, has_no_flag-bits (word_at t n));
      form = λ other. grind (arith, nat_tests);
      class = λ other. grind (arith, nat_tests);
      no_second = λ other. elim (cases_Bool (may_be_second pairs n)) [
        | inl may ↦ absurd (omega (arith, All-contains (λ n. byte_of bytes n ≡ 0) seconds n stops (are n may)))
        | inr may_not ↦ may_not
      ];
    }

-- what holds of a value by two clauses
pub IfOk-both : {X Y : Type 0} (r : Result X Y) (P Q : X → Type 0) → IfOk r P → IfOk r Q → IfOk r (λ x. P x × Q x)
IfOk-both (Ok x) P Q first second = (first, second)
IfOk-both (Err e) P Q first second = tt
