-- Calls of an iterator that leave fewer items.
use Rattle.std.proofs.Common.{ℕ, ◌<◌, Option, Some, None, OnSome}
use Rattle.std.specs.Iterator.{at_most, MakesProgress}

-- an item leaves fewer, so the calls make progress
pub MakesProgress-fewer : {S A : Type 0} (can : S → Type 0) (left : S → ℕ) (s : S) (r : Option A) (t : S) → can t → OnSome r (left t < left s) → MakesProgress can (λ v. at_most (left v)) s r t
MakesProgress-fewer can left s None t ready fewer = record { on = λ finite. tt; keeps = tt; rests = λ finite. tt }
MakesProgress-fewer can left s (Some x) t ready fewer = record { on = λ finite. (ready, tt, fewer); keeps = ready; rests = λ finite. tt }
