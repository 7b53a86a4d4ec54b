-- What a call on an output ensures, which may know besides what it refuses.
use Rattle.std.specs.Prelude.{◌≡◌, ℕ, List, [], Result, OnErr, ⊤}
use Rattle.normalizer_text.specs.declared.sink.SinkError.{SinkError}
use Rattle.normalizer_text.specs.Sinks.{AnswersWrite}

module _ {S : Type 0} (taken : S → List ℕ) (refused left : S → S → Type 0) (refuses : S → List ℕ → Type 0) where
  -- the result of writing some units to the output; if it refused them, this much is known
  pub record AnswersUnits (old : S) (units : List ℕ) (answer : Result ⊤ SinkError) (new : S) : Type 0 where
    pub written : AnswersWrite taken refused left old units answer new
    pub known : OnErr answer (refuses old units)

  -- the result of announcing an input of this many units to the output, which took none
  pub record AnswersHint (hinted : S → ℕ → Result ⊤ SinkError → S → Type 0)
      (old : S) (len : ℕ) (answer : Result ⊤ SinkError) (new : S) : Type 0 where
    pub units : AnswersUnits old [] answer new
    pub none : taken new ≡ taken old
    pub hint : hinted old len answer new

-- nothing is known of units that are refused
abbrev pub NothingKnown : {S : Type 0} → S → List ℕ → Type 0
NothingKnown old units = ⊤

-- a hint is not passed on
abbrev pub NoHint : {S : Type 0} → S → ℕ → Result ⊤ SinkError → S → Type 0
NoHint old len answer new = ⊤

-- the result of writing to a sink, as an output
abbrev pub SinkAnswers : {S : Type 0} → (S → List ℕ) → (S → S → Type 0) → (S → S → Type 0)
    → S → List ℕ → Result ⊤ SinkError → S → Type 0
SinkAnswers taken refused left old units answer new = AnswersUnits taken refused left NothingKnown old units answer new
