-- What holds after a text was written to a sink in an encoding, or only a beginning of it.
use Rattle.std.specs.Prelude.{◌≡◌, ℕ, List, ◌++◌, Result, ⊤, OnOk, OnErr, IsErrOf}
use Rattle.normal_forms.specs.ShortRuns.{HasShortRuns}
use Rattle.normalizer_text.specs.Encodings.{Encoding, encoded_in}
use Rattle.normalizer_text.specs.Sinks.{TakesNothing}
use Rattle.normalizer_text.specs.declared.sink.SinkError.{SinkError}
use Rattle.normalizer_iterators.specs.declared.error.NormalizeError.{NormalizeError}
use Rattle.normalizer_iterators.specs.declared.error.NormalizeError.TheVariants.{Memory, Sink}
use Rattle.normalizer_calls.specs.Forms.{MadeForm, form_of}

module _ {S : Type 0} (e : Encoding) (taken : S → List ℕ) where
  -- a beginning of the text, which ends between characters, was appended to what was taken before
  pub record TookBeginning (text : List ℕ) (old new : S) : Type 0 where
    pub front : List ℕ
    pub rest : List ℕ
    pub parts : text ≡ front ++ rest
    pub took : taken new ≡ taken old ++ encoded_in e front

  -- The normal form of the text x was written: it was appended to what was taken before, and any later fault of the
  -- sink is also one since before this call. `Sink` comes only with a fault of the sink, and `Memory` never if the text
  -- has short runs. After either a beginning of the form was taken, if refused calls take nothing.
  pub record WritesForm (refused left : S → S → Type 0) (m : MadeForm) (x : List ℕ) (old : S)
      (result : Result ⊤ NormalizeError) (new : S) : Type 0 where
    pub written : OnOk result (taken new ≡ taken old ++ encoded_in e (form_of m x))
    pub ahead : OnOk result ((later : S) → refused new later → refused old later)
    pub fault : IsErrOf result Sink → refused old new
    pub room : HasShortRuns m.has_class_form m.reading x → ¬ IsErrOf result Memory
    pub begun : OnErr result (((s t : S) → left s t → TakesNothing taken s t) → TookBeginning (form_of m x) old new)

-- the sink first received the number of units of the input; if it refused that, nothing else was done
pub record TellsLengthFirst {S : Type 0} (taken : S → List ℕ) (hinted : S → ℕ → Result ⊤ SinkError → S → Type 0)
    (len : ℕ) (old : S) (result : Result ⊤ NormalizeError) (new : S) : Type 0 where
  pub hint : Result ⊤ SinkError
  pub state : S
  pub first : hinted old len hint state
  pub stops : OnErr hint (IsErrOf result Sink × (new ≡ state) × (taken new ≡ taken old))
