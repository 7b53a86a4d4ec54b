-- What is known of the rule of each encoding, and all else follows from.
use Rattle.std.specs.Prelude.{◌≡◌, ℕ, ◌<◌, ◌≤◌, true, false, List, [], ◌∷◌, ◌++◌, length, take, slice_index}
use Rattle.std.specs.Char.{IsScalar, encode_utf8}
use Rattle.std.specs.Char.Escape.{encode_utf16}
use Rattle.normalizer_text.specs.DecodingSteps.{read, replacement_step}
use Rattle.normalizer_text.specs.Encodings.{Encoding, first_in, encoded_in, trails_in, longest_step}

-- what decoding from the front follows from
pub record IsDecoding (e : Encoding) : Type 0 where
  -- a step takes some of the units, and its character is a scalar value
  pub some : (us : List ℕ) → 0 < length us → 0 < (first_in e us).width
  pub fits : (us : List ℕ) → 0 < length us → (first_in e us).width ≤ length us
  pub scalar : (us : List ℕ) → IsScalar (first_in e us).character
  -- an error reads as U+FFFD
  pub error : (us : List ℕ) → (first_in e us).is_error ≡ true → (first_in e us).character ≡ 0xFFFD
  -- it depends on the units that it takes alone, and on the end after them only if it is an error
  pub cut : (us : List ℕ) (n : ℕ) → 0 < length us → (first_in e us).width ≤ n → first_in e (take n us) ≡ first_in e us
  pub extends : (us more : List ℕ) → 0 < length us → (first_in e us).is_error ≡ false → first_in e (us ++ more) ≡ first_in e us

-- what decoding from the back follows from: a unit after the first one of a step is, if a step begins with it, one
-- error; and a step takes few units
pub record HasTrails (e : Encoding) : Type 0 where
  pub inside : (us : List ℕ) (k : ℕ) → 0 < k → k < (first_in e us).width → trails_in e (slice_index us k) ≡ true
  pub alone : (us : List ℕ) → 0 < length us → trails_in e (slice_index us 0) ≡ true → first_in e us ≡ replacement_step 1
  pub short : (us : List ℕ) → (first_in e us).width ≤ longest_step

-- the units of a character
abbrev pub encode_in : Encoding → ℕ → List ℕ
encode_in Encoding.Utf8 = encode_utf8
encode_in Encoding.Utf16 = encode_utf16

-- what encoding follows from: the encoding of a text is that of its characters, one after another, and each is read back
pub record IsEncoding (e : Encoding) : Type 0 where
  pub nil : encoded_in e [] ≡ []
  pub cons : (c : ℕ) (x : List ℕ) → encoded_in e (c ∷ x) ≡ encode_in e c ++ encoded_in e x
  pub some : (c : ℕ) → IsScalar c → 0 < length (encode_in e c)
  pub front : (c : ℕ) (more : List ℕ) → IsScalar c → first_in e (encode_in e c ++ more) ≡ read c (length (encode_in e c))
  pub back : (us : List ℕ) → 0 < length us → (first_in e us).is_error ≡ false → encode_in e (first_in e us).character ≡ take (first_in e us).width us
