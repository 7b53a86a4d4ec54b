-- The well-formed UTF-8 sequences as bounds on each byte, for the arithmetic of decoding.
use Rattle.std.specs.Prelude.{◌≡◌, ℕ, ◌<◌, ◌≤◌, List, [], ◌∷◌}

-- the bytes are a sequence of table 3-7, as bounds on each
abbrev pub IsSequence : List ℕ → Type 0
IsSequence (a ∷ []) = a < 0x80
IsSequence (a ∷ b ∷ []) = (0xC2 ≤ a) × (a ≤ 0xDF) × (0x80 ≤ b) × (b ≤ 0xBF)
IsSequence (a ∷ b ∷ c ∷ []) = (0xE0 ≤ a) × (a ≤ 0xEF) × (a ≡ 0xE0 → 0xA0 ≤ b) × (a ≡ 0xED → b ≤ 0x9F)
    × (0x80 ≤ b) × (b ≤ 0xBF) × (0x80 ≤ c) × (c ≤ 0xBF)
IsSequence (a ∷ b ∷ c ∷ d ∷ []) = (0xF0 ≤ a) × (a ≤ 0xF4) × (a ≡ 0xF0 → 0x90 ≤ b) × (a ≡ 0xF4 → b ≤ 0x8F)
    × (0x80 ≤ b) × (b ≤ 0xBF) × (0x80 ≤ c) × (c ≤ 0xBF) × (0x80 ≤ d) × (d ≤ 0xBF)
IsSequence _ = ⊥
