-- How the bytes of characters are kept: in blocks of 64, equal ones once. The first two are those in which all stops,
-- and in which all are starters that pass.
use Rattle.std.specs.Prelude.{◌≡◌, ℕ, ◌+◌, ◌*◌, ◌<◌, ◌≤◌, ◌⊎◌, All, List, [], length, map, slice_index_or}
use Rattle.std.specs.List.{range_with_len}
use Rattle.normalizer_passing.specs.PassBytes.{byte_in, AreNumbers, IsByteOfUnit}

-- the bytes of all code points
unfoldable pub all_bytes : List (List ℕ) → List ℕ → List ℕ
all_bytes blocks numbers = map (byte_in blocks numbers) (range_with_len 0 0x110000)

-- the byte at a place of a block
abbrev pub byte_at : List (List ℕ) → (number place : ℕ) → ℕ
byte_at blocks number place = slice_index_or (slice_index_or blocks number []) place 0

-- what passes by the bytes after does so by those before too, with the same byte
abbrev pub IsLess : (before after : ℕ → ℕ) → Type 0
IsLess before after = (n : ℕ) → 0 < after n → after n ≡ before n

-- the first two blocks, and no more than a byte can number
pub record AreBlocks (blocks : List (List ℕ)) : Type 0 where
  pub two : 2 ≤ length blocks
  pub most : length blocks ≤ 256
  pub stops : (place : ℕ) → byte_at blocks 0 place ≡ 0
  pub starters : (place : ℕ) → place < 64 → byte_at blocks 1 place ≡ 255

-- no surrogate passes
abbrev pub HasNoSurrogate : List (List ℕ) → List ℕ → Type 0
HasNoSurrogate blocks numbers = (n : ℕ) → 0xD800 ≤ n → n ≤ 0xDFFF → byte_in blocks numbers n ≡ 0

-- the byte of each 16-bit unit is at its place
pub record AreUnits (blocks : List (List ℕ)) (numbers units : List ℕ) : Type 0 where
  pub long : length units ≡ 1024
  pub within : All (λ number. number < length blocks) units
  pub bytes : (unit : ℕ) → unit < 0x10000 → IsByteOfUnit (all_bytes blocks numbers) unit (byte_in blocks units unit)

-- each place has the number of a block, no surrogate passes, and the bytes of units and low characters are theirs
pub record IsKept (blocks : List (List ℕ)) (numbers units : List ℕ) (low : ℕ) : Type 0 where
  pub numbered : AreNumbers blocks numbers
  pub surrogates : HasNoSurrogate blocks numbers
  pub of_units : AreUnits blocks numbers units
  pub below : (n : ℕ) → n < low → byte_in blocks numbers n ≡ 255

-- blocks may be added after those that are there
pub record IsLonger (old new : List (List ℕ)) : Type 0 where
  pub blocks : AreBlocks new
  pub longer : length old ≤ length new
  pub earlier : (k : ℕ) → k < length old → slice_index_or new k [] ≡ slice_index_or old k []

-- what passes by the block at a number does so by this one
pub record IsPut (old : List (List ℕ)) (block : List ℕ) (new : List (List ℕ)) (number : ℕ) : Type 0 where
  pub longer : IsLonger old new
  pub within : number < length new
  pub less : IsLess (λ place. slice_index_or block place 0) (byte_at new number)

-- the same of the first n of some blocks
pub record ArePut (more new : List (List ℕ)) (n : ℕ) (numbers : List ℕ) : Type 0 where
  pub blocks : AreBlocks new
  pub long : length numbers ≡ n
  pub each : (k : ℕ) → k < n → slice_index_or numbers k 0 < length new
  pub less : (k : ℕ) → k < n → IsLess (byte_at more k) (byte_at new (slice_index_or numbers k 0))

-- the places of surrogates have the block in which all stops, and the others the number of theirs
pub record AreAmong (places numbers : List ℕ) (n : ℕ) (among : List ℕ) : Type 0 where
  pub long : length among ≡ n
  pub surrogates : (place : ℕ) → place < n → 0x360 ≤ place → place ≤ 0x37F → slice_index_or among place 0 ≡ 0
  pub others : (place : ℕ) → place < n → (place < 0x360) ⊎ (0x37F < place)
      → slice_index_or among place 0 ≡ slice_index_or places (slice_index_or numbers place 0) 0

-- blocks of which places have the numbers, by which no more passes than before
pub record IsLessBy (before : ℕ → ℕ) (blocks : List (List ℕ)) (numbers : List ℕ) : Type 0 where
  pub numbered : AreNumbers blocks numbers
  pub less : IsLess before (byte_in blocks numbers)

-- 16 places have the block of starters
abbrev pub HasStarters : List ℕ → ℕ → Type 0
HasStarters numbers first = (k : ℕ) → k < 16 → slice_index_or numbers (first + k) 0 ≡ 1

-- a byte for each of 64 high surrogates: if it isn't 0, all that begins with it are starters that pass
unfoldable pub AreOfHigh : List ℕ → ℕ → List ℕ → Type 0
AreOfHigh numbers place block = (j : ℕ) → j < 64 → 0 < slice_index_or block j 0
    → (slice_index_or block j 0 ≡ 255) × HasStarters numbers (1024 + (64 * place + j) * 16)
