-- How characters pass, as a byte for each code point: one that stops has 0, a mark that passes after a class that isn't
-- greater has its class, 1 to 254, and a starter that passes has 255.
use Rattle.std.specs.Prelude.{◌≡◌, ℕ, ◌+◌, ◌-◌, ◌*◌, ◌/◌, ◌%◌, ◌==◌, ◌<◌, ◌≤◌, ◌⊎◌, if◌then◌else◌}
use Rattle.std.specs.Prelude.{All, List, [], length, slice_index_or}

-- the byte of a number; 0 past the code points
unfoldable pub byte_of : List ℕ → ℕ → ℕ
byte_of bytes n = slice_index_or bytes n 0

-- the byte of a starter that passes
abbrev pub starter_byte : ℕ
starter_byte = 255

-- the least byte that passes after it
unfoldable pub least_after : ℕ → ℕ
least_after byte = if byte == 255 then 1 else byte

-- the byte of a number by blocks of 64, of which each place has the number of one that is kept
unfoldable pub byte_in : List (List ℕ) → List ℕ → ℕ → ℕ
byte_in kept numbers n = slice_index_or (slice_index_or kept (slice_index_or numbers (n / 64) 0) []) (n % 64) 0

-- each of the 17,408 blocks of 64 code points has the number of one that is kept
pub record AreNumbers (kept : List (List ℕ)) (numbers : List ℕ) : Type 0 where
  pub long : length numbers ≡ 17408
  pub within : All (λ number. number < length kept) numbers

-- the byte of a 16-bit unit where surrogates are known to be pairs: that of the character; of a high surrogate 255 if
-- the byte of each of the 1,024 characters that it begins is, and else 0; of a low surrogate 255
pub record IsByteOfUnit (bytes : List ℕ) (unit byte : ℕ) : Type 0 where
  pub single : (unit < 0xD800) ⊎ (0xDFFF < unit) → byte ≡ byte_of bytes unit
  pub high : 0xD800 ≤ unit → unit ≤ 0xDBFF → 0 < byte
      → (byte ≡ 255) × ((k : ℕ) → k < 1024 → byte_of bytes (0x10000 + (unit - 0xD800) * 1024 + k) ≡ 255)
  pub low : 0xDC00 ≤ unit → unit ≤ 0xDFFF → byte ≡ 255
