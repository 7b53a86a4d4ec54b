-- What a buffer has after units were written to its beginning.
use Rattle.std.specs.Prelude.{List, ◌++◌, length, take, drop}

-- the buffer with its front overwritten by the units, as far as there is room for them
abbrev pub overwritten : {X : Type 0} → (buffer units : List X) → List X
overwritten buffer units = take (length buffer) (units ++ drop (length units) buffer)
