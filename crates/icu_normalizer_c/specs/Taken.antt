-- What a sink over a buffer has taken.
use Rattle.std.specs.Prelude.{ℕ, ◌-◌, ◌^◌, List, ◌∷◌, length, min}
use Rattle.icu_normalizer_c.specs.declared.sink.Buffer.{Buffer}

-- which buffer it is and how long, what that had at first, and all that was taken
abbrev pub taken_by : Buffer ℕ → List ℕ
taken_by b = b.units.ghost_name ∷ length b.units.now ∷ b.history.units

-- how many units were taken, or the greatest number of 64 bits if there were more
abbrev pub count_of : Buffer ℕ → ℕ
count_of b = min (length b.history.units - length b.units.now) (2 ^ 64 - 1)
