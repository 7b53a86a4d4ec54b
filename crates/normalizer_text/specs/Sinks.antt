-- What a call on a sink ensures: what the sink took, its fault relation, and what its refused calls leave.
use Rattle.std.specs.Prelude.{◌≡◌, ℕ, List, ◌++◌, Result, OnOk, OnErr, ⊤}

-- The result of writing some units to the sink. On success they were appended to what it took before, and any later
-- fault is also one since before the call. If it refused, there is a fault, and it leaves what it may.
pub record AnswersWrite {S A E : Type 0} (taken : S → List ℕ) (refused left : S → S → Type 0)
    (old : S) (units : List ℕ) (answer : Result A E) (new : S) : Type 0 where
  pub appends : OnOk answer (taken new ≡ taken old ++ units)
  pub ahead : OnOk answer ((later : S) → refused new later → refused old later)
  pub fault : OnErr answer (refused old new)
  pub leaves : OnErr answer (left old new)

-- the fault relation of a sink that keeps no count of its refusals: it always holds
abbrev pub AnyFault : {S : Type 0} → S → S → Type 0
AnyFault old new = ⊤

-- a refused call takes nothing
abbrev pub TakesNothing : {S : Type 0} → (S → List ℕ) → S → S → Type 0
TakesNothing taken old new = taken new ≡ taken old

-- the result of writing to a collection that grows, as a sink
abbrev pub AnswersGrowth : {S A E : Type 0} → (S → List ℕ) → S → List ℕ → Result A E → S → Type 0
AnswersGrowth taken old units answer new = AnswersWrite taken AnyFault (TakesNothing taken) old units answer new
