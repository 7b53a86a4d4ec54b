-- What the bytes that may follow a first byte are, as the decoder has them.
use Rattle.std.specs.Prelude.{◌≡◌, ℕ, ◌-◌, ◌≤◌, ◌==◌, List, [], ◌∷◌, length, replicate, take, if◌then◌else◌}
use Rattle.normalizer_text.specs.declared.utf8.Trail.{Trail}
use Rattle.normalizer_text.specs.Utf8.{ByteRange, range, continuation}
use Rattle.normalizer_text.specs.MaximalSubparts.{IsWellFormedSequence}

-- the places of the bytes after the first one
abbrev pub trail_ranges : Trail → List ByteRange
trail_ranges t = if t.length == 0 then [] else range t.least t.greatest ∷ replicate (t.length - 1) continuation

-- the bytes begin with a well-formed sequence
abbrev pub IsFirstSequence : (bytes sequence : List ℕ) → Type 0
IsFirstSequence bytes sequence = (sequence ≡ take (length sequence) bytes) × IsWellFormedSequence sequence

-- the two bytes begin a well-formed sequence of three
abbrev pub LeadsThree : ℕ → ℕ → Type 0
LeadsThree a b =
    (0xE0 ≤ a) × (a ≤ 0xEF) × (a ≡ 0xE0 → 0xA0 ≤ b) × (a ≡ 0xED → b ≤ 0x9F) × (0x80 ≤ b) × (b ≤ 0xBF)

-- the two bytes begin a well-formed sequence of four
abbrev pub LeadsFour : ℕ → ℕ → Type 0
LeadsFour a b =
    (0xF0 ≤ a) × (a ≤ 0xF4) × (a ≡ 0xF0 → 0x90 ≤ b) × (a ≡ 0xF4 → b ≤ 0x8F) × (0x80 ≤ b) × (b ≤ 0xBF)
