-- What reaches a target.
use Rattle.std.specs.Prelude.{ℕ, List, take, Option}
use Rattle.std.specs.Io.KnownBytes.{Appends}

-- known bytes grow by a front of bs
abbrev pub AppendsFront : Option (List ℕ) → Option (List ℕ) → List ℕ → Type 0
AppendsFront old new bs = (n : ℕ) × Appends old new (take n bs)

-- No call on the way from one state of a device to another was refused: a later refusal is also one of before.
abbrev pub IsUnrefused : {D : Type 0} → (refusal : D → D → Type 0) → D → D → Type 0
IsUnrefused {D} refusal before after = (later : D) → refusal after later → refusal before later
