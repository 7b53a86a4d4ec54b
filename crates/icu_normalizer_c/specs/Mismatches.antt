-- The first mismatch of an input, for C.
use Rattle.std.specs.Prelude.{true, false, Option, Some, None}
use Rattle.icu_normalizer.specs.Offence.{Offence}
use Rattle.icu_normalizer_c.specs.declared.mismatch.Mismatch.{Mismatch}

-- the numbers are 0 if there is none
abbrev pub mismatch_of : Option Offence → Mismatch
mismatch_of (Some o) = record { offset = o.place; found = o.found; expected = o.wanted; exists = true }
mismatch_of None = record { offset = 0; found = 0; expected = 0; exists = false }
