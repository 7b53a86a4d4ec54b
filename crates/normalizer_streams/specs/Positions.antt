-- Lines and bytes in a line, from 1, as reports name them.
use Rattle.std.specs.Prelude.{◌≡◌, ℕ, ◌+◌, ◌-◌, ◌^◌, ◌==◌, not, List, count_by, length, min, reverse, take_while}
use Rattle.normalizer_streams.specs.declared.position.Position.{Position}

-- a number that is counted: no count passes 2^64 - 1
abbrev pub counted : ℕ → ℕ
counted n = min n (2 ^ 64 - 1)

-- the number of a line, from 1, after the bytes before a place: lines end with U+000A
abbrev pub line_after : List ℕ → ℕ
line_after front = count_by (λ b. b == 0x0A) front + 1

-- how many bytes of its line come before the place
abbrev pub bytes_before : List ℕ → ℕ
bytes_before front = length (take_while (λ b. not (b == 0x0A)) (reverse front))

-- the number of a byte in its line, from 1
abbrev pub byte_after : List ℕ → ℕ
byte_after front = bytes_before front + 1

-- the position after these bytes
pub record IsPositionAfter (front : List ℕ) (p : Position) : Type 0 where
  pub line : p.line ≡ counted (line_after front)
  pub byte : p.byte ≡ counted (byte_after front)
