-- The bounds of low characters.
use Rattle.std.specs.Prelude.{ℕ, ◌+◌, ◌/◌, min, nat_lt, if◌then◌else◌}

-- the byte below which bytes of well-formed UTF-8 are of characters below the bound: single bytes, and from the bound
-- U+00C0 on pairs too, of which each first byte has 64 characters
abbrev pub low_byte : ℕ → ℕ
low_byte bound = if nat_lt bound 0xC0 then min bound 0x80 else 0xC0 + min (bound / 64) 0x20
