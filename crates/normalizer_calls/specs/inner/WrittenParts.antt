-- What private contracts say that a text was written to an output, or only a beginning of it.
use Rattle.std.specs.Prelude.{◌≡◌, ℕ, ◌≤◌, ◌⊎◌, Bool, List, ◌++◌, length, take, ⊤}
use Rattle.std.specs.Prelude.{Result, Err, IfErr, IfOk, IsErrOf, OnOk}
use Rattle.normal_forms.specs.Reading.{Reading}
use Rattle.normal_forms.specs.declared.Form.{Form}
use Rattle.normalizer_text.specs.Encodings.{Encoding, encoded_in}
use Rattle.normalizer_text.specs.declared.output.Output.{Ghosts}
use Rattle.normalizer_text.specs.EncodedForm.{encoded_form}
use Rattle.normalizer_iterators.specs.declared.error.NormalizeError.{NormalizeError}
use Rattle.normalizer_iterators.specs.declared.error.NormalizeError.TheVariants.{Memory, Sink}
use Rattle.normalizer_calls.specs.Forms.{MadeForm, form_in}
use Rattle.normalizer_calls.specs.Writing.{TookBeginning}
use Rattle.normalizer_calls.specs.declared.segment.Segment.{Segment}
use Rattle.normalizer_calls.specs.inner.PassthroughRuns.{IsFrontSegment, IsPart, StandsInInput}

-- what is said of an output S of pieces of U: what it has taken, what a refused call leaves, what its refusal says,
-- and what a hint may return
abbrev pub Target : Type 0 → Type 0 → Type 1
Target S U = Ghosts S U

-- nothing is offered but characters, one by one
abbrev pub NothingOffered : List ℕ → List ℕ → Type 0
NothingOffered front piece = ⊥

module _ {S U : Type 0} (e : Encoding) (into : Target S U) where
  -- a beginning of the text was taken, and then the next piece was refused: at most one character, or what was offered
  -- after that beginning
  pub record WasRefusedPiece (offered : List ℕ → List ℕ → Type 0) (text : List ℕ) (old new : S) : Type 0 where
    pub before : S
    pub beginning : TookBeginning e into.text_taken text old before
    pub piece : List ℕ
    pub kind : (length piece ≤ 1) ⊎ offered beginning.front piece
    pub rest : List ℕ
    pub goes_on : beginning.rest ≡ piece ++ rest
    pub known : into.refuses before (encoded_in e piece)
    pub leaves : into.refusal_effect before new

  -- a text was written, or the output refused a piece, or memory ran out
  pub record WritesText (offered : List ℕ → List ℕ → Type 0) (text : List ℕ) (old : S)
      (result : Result ⊤ NormalizeError) (new : S) : Type 0 where
    pub written : OnOk result (into.text_taken new ≡ into.text_taken old ++ encoded_in e text)
    pub ahead : OnOk result ((later : S) → into.refusal new later → into.refusal old later)
    pub fault : IsErrOf result Sink → into.refusal old new
    pub refusal : IsErrOf result Sink → WasRefusedPiece offered text old new
    pub begun : IsErrOf result Memory → TookBeginning e into.text_taken text old new

  -- the form of the units was written, or the output refused a piece of them or of it, or memory ran out
  abbrev pub WritesUnits : MadeForm → List ℕ → S → Result ⊤ NormalizeError → S → Type 0
  WritesUnits m units = WritesText (StandsInInput e m.reading m.form units) (form_in m e units)

  -- a part of the units was written: its form was appended to what was taken before
  pub record WrotePart (d : Reading) (form : Form) (units : List ℕ) (old : S) (end : ℕ) (new : S) : Type 0 where
    pub part : IsPart e d form units end
    pub took : into.text_taken new ≡ into.text_taken old ++ encoded_form e d form (take end units)
    pub ahead : (later : S) → into.refusal new later → into.refusal old later

  -- the same, of a form with its reading
  abbrev pub WritesPart : MadeForm → List ℕ → S → ℕ → S → Type 0
  WritesPart m units = WrotePart m.reading m.form units

  -- the segment in front of the units was written, or the output refused a piece of it, or memory ran out
  pub record WritesSegment (beginning : ℕ → Bool) (m : MadeForm) (units : List ℕ) (old : S)
      (result : Result Segment NormalizeError) (new : S) : Type 0 where
    pub segment : IfOk result (IsFrontSegment beginning e units)
    pub part : IfOk result (λ segment. WritesPart m units old segment.end new)
    pub refused : IfErr result (λ fault. WritesUnits m units old (Err fault) new)
