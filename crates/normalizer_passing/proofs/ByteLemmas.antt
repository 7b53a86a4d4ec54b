-- The bytes of numbers, by blocks.
use Rattle.std.proofs.Common.{◌≡◌, ℕ, ◌+◌, ◌*◌, ◌/◌, ◌%◌, ◌<◌, All, List, [], length, get_or, arith, refl, ap, sym, ◌∙◌, zero-add, inl, inr}
use Rattle.std.proofs.Math.ListN.{get_or-eq_default}
use Rattle.std.proofs.lemmas.Bool.{cases_lt}
use Rattle.std.proofs.lemmas.List.{ext_get_or, get_or_read}
use Rattle.std.proofs.lemmas.List.Elements.{All-get_or}
use Rattle.std.proofs.lemmas.List.FromFn.{get_or-map-range_with_len, length-map-range_with_len}
use Rattle.normalizer_passing.specs.PassBytes.{byte_in, byte_of}
use Rattle.normalizer_passing.specs.inner.Kept.{all_bytes, byte_at, IsLonger}

pub length-all_bytes : (blocks : List (List ℕ)) (numbers : List ℕ) → length (all_bytes blocks numbers) ≡ 0x110000
unfolding all_bytes
length-all_bytes blocks numbers = length-map-range_with_len (byte_in blocks numbers) 0 0x110000

get_or-all : (blocks : List (List ℕ)) (numbers : List ℕ) (n : ℕ) → n < 0x110000 → get_or (all_bytes blocks numbers) n 0 ≡ byte_in blocks numbers n
unfolding all_bytes
get_or-all blocks numbers n low = get_or-map-range_with_len (byte_in blocks numbers) 0 0x110000 n n 0 low (zero-add n)

pub byte_of-all : (blocks : List (List ℕ)) (numbers : List ℕ) (n : ℕ) → n < 0x110000 → byte_of (all_bytes blocks numbers) n ≡ byte_in blocks numbers n
unfolding byte_of
byte_of-all = get_or-all

-- what has a byte is a code point
pub code_point : (blocks : List (List ℕ)) (numbers : List ℕ) (n : ℕ) → 0 < byte_of (all_bytes blocks numbers) n → n < 0x110000
unfolding byte_of
code_point blocks numbers n some = elim (cases_lt n 0x110000) [
  | inl low ↦ low
  | inr past ↦
      let none = get_or-eq_default (all_bytes blocks numbers) 0 {n = n} (omega (arith, length-all_bytes blocks numbers)) in
      absurd (omega (arith, none))
]

-- the byte at a place of a block
pub byte_in-at : (blocks : List (List ℕ)) (numbers : List ℕ) (block place : ℕ) → place < 64 → byte_in blocks numbers (64 * block + place) ≡ byte_at blocks (get_or numbers block 0) place
unfolding byte_in
byte_in-at blocks numbers block place below =
    let d : (64 * block + place) / 64 ≡ block = omega arith in
    let m : (64 * block + place) % 64 ≡ place = omega arith in
    rw (d, m) refl

-- two look-ups find it
pub looked_up : (blocks : List (List ℕ)) (numbers : List ℕ) (block place number : ℕ) (bytes : List ℕ) → All (λ k. k < length blocks) numbers → block < length numbers → place < 64
    → number ≡ get_or numbers block number → bytes ≡ get_or blocks number bytes → get_or bytes place 0 ≡ byte_in blocks numbers (64 * block + place)
looked_up blocks numbers block place number bytes within low below at found =
    let here = get_or_read numbers block number low at 0 in
    let inside = All-get_or (λ k. k < length blocks) numbers block 0 low within in
    let is = get_or_read blocks number bytes (omega (arith, here, inside)) found [] in
    ap (λ b. get_or b place 0) (is ∙ ap (λ k. get_or blocks k []) here) ∙ sym (byte_in-at blocks numbers block place below)

-- every place has the number of a block
pub number-within : (blocks : List (List ℕ)) (numbers : List ℕ) (place : ℕ) → 0 < length blocks → All (λ k. k < length blocks) numbers → get_or numbers place 0 < length blocks
number-within blocks numbers place some within = elim (cases_lt place (length numbers)) [
  | inl low ↦ All-get_or (λ k. k < length blocks) numbers place 0 low within
  | inr past ↦ omega (arith, get_or-eq_default numbers 0 {n = place} past)
]

-- added blocks change no byte
pub byte_in-longer : (old new : List (List ℕ)) (numbers : List ℕ) → 0 < length old → IsLonger old new → All (λ k. k < length old) numbers → (n : ℕ) → byte_in new numbers n ≡ byte_in old numbers n
unfolding byte_in
byte_in-longer old new numbers some more within n = ap (λ b. get_or b (n % 64) 0) (more.earlier (get_or numbers (n / 64) 0) (number-within old numbers (n / 64) some within))

pub all_bytes-longer : (old new : List (List ℕ)) (numbers : List ℕ) → 0 < length old → IsLonger old new → All (λ k. k < length old) numbers → all_bytes new numbers ≡ all_bytes old numbers
all_bytes-longer old new numbers some more within = ext_get_or 0 (all_bytes new numbers) (all_bytes old numbers) (length-all_bytes new numbers ∙ sym (length-all_bytes old numbers))
    (λ n below.
    let low : n < 0x110000 = omega (arith, length-all_bytes new numbers) in
    get_or-all new numbers n low ∙ byte_in-longer old new numbers some more within n ∙ sym (get_or-all old numbers n low))
