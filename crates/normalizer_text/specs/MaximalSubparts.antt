-- The first step of bytes, as the standard states it (The Unicode Standard, section 3.9: D92, and U+FFFD substitution
-- of maximal subparts).
use Rattle.std.specs.Prelude.{◌≡◌, ℕ, ◌<◌, ◌≤◌, ◌⊎◌, List, [], ◌∷◌, ◌++◌, length, take}
use Rattle.std.specs.List.{Contains}
use Rattle.normalizer_text.specs.declared.decoding_step.Step.{Step}
use Rattle.normalizer_text.specs.DecodingSteps.{read, replacement_step}
use Rattle.normalizer_text.specs.Utf8.{ByteRange, Row, well_formed_sequences, scalar_value}

-- the byte is within the range
abbrev pub IsWithin : ByteRange → ℕ → Type 0
IsWithin r b = (r.least ≤ b) × (b ≤ r.greatest)

-- the bytes are as many as the ranges, each within its own
abbrev pub AreWithin : List ByteRange → List ℕ → Type 0
AreWithin [] [] = Unit {0}
AreWithin (r ∷ rs) (b ∷ bs) = IsWithin r b × AreWithin rs bs
AreWithin _ _ = ⊥

-- the bytes are a sequence of a row of table 3-7
pub record IsWellFormedSequence (bytes : List ℕ) : Type 0 where
  pub row : Row
  pub listed : Contains well_formed_sequences row
  pub within : AreWithin (row.lead ∷ row.trail) bytes

-- a well-formed sequence begins with the bytes
abbrev pub BeginsSequence : List ℕ → Type 0
BeginsSequence bytes = (more : List ℕ) × IsWellFormedSequence (bytes ++ more)

-- the longest prefix that a well-formed sequence begins with, or else the first byte
pub record IsMaximalSubpart (bytes : List ℕ) (n : ℕ) : Type 0 where
  pub some : 0 < n
  pub within : n ≤ length bytes
  pub begins : (n ≡ 1) ⊎ BeginsSequence (take n bytes)
  pub longest : (m : ℕ) → m ≤ length bytes → BeginsSequence (take m bytes) → m ≤ n

-- the first step of the bytes is the character of a well-formed sequence, or if there is none, U+FFFD for the maximal
-- subpart
pub data IsStepOfUtf8 (bytes : List ℕ) : Step → Type 0 where
  sequence : (n : ℕ) → n ≤ length bytes → IsWellFormedSequence (take n bytes)
      → IsStepOfUtf8 bytes (read (scalar_value (take n bytes)) n)
  subpart : (n : ℕ) → ((m : ℕ) → IsWellFormedSequence (take m bytes) → ⊥) → IsMaximalSubpart bytes n
      → IsStepOfUtf8 bytes (replacement_step n)
