-- How characters pass, by their words: the bytes of the decomposing and of the composing forms.
use Rattle.std.specs.Prelude.{◌≡◌, ◌≢◌, ℕ, ◌&&◌, Bool, true, false, List, nat_lt, not, if◌then◌else◌}
use Rattle.normalizer_tables.specs.Pairs.{Pair, may_be_second}
use Rattle.normalizer_tables.specs.Words.{is_backward_combining, is_non_round_trip, is_ordinary_class_form, is_plain, low_byte}

-- a word has neither flag
unfoldable pub has_no_flag : ℕ → Bool
has_no_flag w = not (is_non_round_trip w) && not (is_backward_combining w)

-- in a decomposing form a starter passes if its word has nothing but flags, and a mark if it has the ordinary class form
unfoldable pub byte_of_word : ℕ → ℕ
byte_of_word w = if is_plain w then 255 else if is_ordinary_class_form w && nat_lt (low_byte w) 255 then low_byte w else 0

-- in a composing form a starter passes if its word has no flag, and a mark if it has the ordinary class form and is
-- second in no pair
pub record IsComposingByte (pairs : List Pair) (n w byte : ℕ) : Type 0 where
  pub starter : byte ≡ 255 → has_no_flag w ≡ true
  pub form : byte ≢ 255 → is_ordinary_class_form w ≡ true
  pub class : byte ≢ 255 → low_byte w ≡ byte
  pub no_second : byte ≢ 255 → may_be_second pairs n ≡ false
