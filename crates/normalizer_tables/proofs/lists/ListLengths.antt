-- Lists have 1 to 18 members, but for the ignored marker.
use Rattle.std.proofs.Common.{◌≡◌, ℕ, ◌+◌, ◌-◌, ◌≤◌, ◌<◌, Bool, List, [], ◌∷◌, length, Option, unwrap_or, ap, refl, length-take, length-drop, arith}
use lib.Utf8.{scalar}
use Rattle.std.proofs.lemmas.Bool.{cond_both}
use Rattle.std.proofs.lemmas.Nat.{and_le_r}
use Rattle.normalizer_tables.specs.declared.word.WordReading.{WordReading}
use Rattle.normalizer_tables.specs.declared.word.WordReading.TheVariants.{Ignored, Listed}
use Rattle.normalizer_tables.specs.Data.{Lists}
use Rattle.normalizer_tables.specs.Hangul.{hangul_decomposition}
use Rattle.normalizer_tables.specs.SpecialLists.{fixed_list_of, fdfa_list}
use Rattle.normalizer_tables.specs.Words.{two_characters, listed_reading, read_low, read}
use Rattle.normalizer_tables.specs.Characters.{Characters, word_of, reading_of_word, as_text, items_at, narrow_at, wide_at, placed_in, listed_in, listed_at, named_list, list_read, list_of}

-- a word names a length in the tables by four bits
abbrev low_of : WordReading → ℕ
low_of (Listed item low rest_are_marks) = low
low_of _ = 0

read-few : (n w : ℕ) (is_mapper : Bool) → low_of (read n w is_mapper) ≤ 15
unfolding read two_characters listed_reading read_low
read-few n w is_mapper = grind (arith, and_le_r w 0xF)

-- the list that is given, or that of the character alone
module _ (m n : ℕ) (one : m ≤ 1) where
  abbrev HasFew : Option (List ℕ) → Type 0
  HasFew o = (m ≤ length (unwrap_or o (n ∷ []))) × (length (unwrap_or o (n ∷ [])) ≤ 18)

  items_at-few : (table : List ℕ) (place k : ℕ) → 0 < k → k ≤ 18 → HasFew (items_at table place k)
  unfolding items_at
  items_at-few table place k h few = grind (arith, length-take {A = ℕ}, length-drop {A = ℕ})

  listed_in-few : (t : Lists) (low : ℕ) (after : ℕ → Option (List ℕ)) → low ≤ 15 → ((k : ℕ) → HasFew (after k)) → (item : ℕ) → HasFew (listed_in t low after item)
  unfolding listed_in placed_in narrow_at wide_at as_text
  listed_in-few t low after few h item =
      let narrow = items_at-few t.scalars16 item (low + 2) (omega arith) (omega arith) in
      let wide = items_at-few t.scalars24 (item - length t.scalars16) (low + 1) (omega arith) (omega arith) in
      let past = h (item - length t.scalars16 - length t.scalars24) in
      grind arith

  named_list-few : (s : Characters) (ignored : List ℕ) (r : WordReading) → (r ≡ Ignored → (m ≤ length ignored) × (length ignored ≤ 18)) → low_of r ≤ 15 → HasFew (named_list s ignored n r)
  unfolding named_list fdfa_list hangul_decomposition listed_at fixed_list_of as_text
  named_list-few s ignored Ignored h few = h refl
  named_list-few s ignored (Listed item low marks) h few = listed_in-few s.tables low _ few (listed_in-few s.supplementary low _ few (λ k. (omega arith, omega arith))) item
  named_list-few s ignored _ h few = grind arith

  pub list_of-few : (s : Characters) (ignored : List ℕ) → (reading_of_word s n ≡ Ignored → (m ≤ length ignored) × (length ignored ≤ 18)) →
      (m ≤ length (list_of s ignored n)) × (length (list_of s ignored n) ≤ 18)
  unfolding list_of list_read reading_of_word
  list_of-few s ignored h = cond_both (scalar n) _ _ HasFew (λ _. named_list-few s ignored _ h (read-few n (word_of s n) s.is_mapper)) (λ _. (omega arith, omega arith))

pub length-list_of : (s : Characters) (ignored : List ℕ) (n : ℕ) → length ignored ≤ 18 → length (list_of s ignored n) ≤ 18
length-list_of s ignored n short = (list_of-few 0 n (omega arith) s ignored (λ _. (omega arith, short))).1

-- two lists have at most 36 members together
pub two_lists-fit : (s : Characters) (a b : ℕ) (first second : List ℕ) (m n : ℕ) → first ≡ list_of s [] a → second ≡ list_of s [] b → m ≡ length first → n ≡ length second → m + n ≤ 36
two_lists-fit s a b first second m n of_first of_second is_m is_n =
    omega (arith, length-list_of s [] a (omega arith), length-list_of s [] b (omega arith), ap length of_first, ap length of_second)
