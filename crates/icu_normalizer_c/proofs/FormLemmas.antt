-- From what a sink over a buffer took to what the buffer has.
use Rattle.std.proofs.Common.{◌≡◌, ℕ, ◌<◌, ◌≤◌, ◌-◌, ◌^◌, List, [], ◌++◌, length, take, drop, Result, Ok, Err, refl, sym, ap, ◌∙◌}
use Rattle.std.proofs.Common.{arith, inl, inr}
use Rattle.std.specs.Prelude.{⊤, min, Option, None, Some}
use mathlib.Core.Bool.{false≢true}
use Rattle.std.proofs.lemmas.List.{take-append-le}
use Rattle.std.proofs.Math.Seq.{take-length}
use Rattle.std.proofs.lemmas.List.{append-nil, length-append, length-drop}
use Rattle.icu_normalizer.specs.Encodings.{Encoding, encoded_in, decoded_in}
use Rattle.icu_normalizer.specs.EncodedForm.{encoded_form}
use Rattle.icu_normalizer.specs.Items.{SpellsOk, SpellsUnless}
use Rattle.icu_normalizer.specs.Sinks.{TakesNothing}
use Rattle.icu_normalizer.proofs.EncodingLemmas.{encoded_in-append}
use Rattle.icu_normalizer.proofs.results.ItemsSoFar.{CameSoFar, CameSoFar-end, CameSoFar-fault, CameSoFar-room}
use Rattle.icu_normalizer.specs.NormalizeError.{NormalizeError}
use Rattle.icu_normalizer.specs.NormalizeError.TheVariants as error
use Rattle.icu_normalizer.specs.Forms.{MadeForm, HasShortUnits}
use Rattle.icu_normalizer.specs.Writing.{WritesForm as WritesFormTo}
use Rattle.icu_normalizer_c.specs.declared.sink.Buffer.{Buffer}
use Rattle.icu_normalizer_c.specs.Taken.{taken_by, count_of}
use Rattle.icu_normalizer_c.specs.Overwriting.{overwritten}
use Rattle.icu_normalizer_c.proofs.BufferLemmas.{taken-reference, taken-overwrites, taken-count}
use Rattle.normalizer_handles.specs.declared.fault.Fault.{Fault}
use Rattle.normalizer_handles.specs.declared.fault.Fault.TheVariants as fault
use Rattle.icu_normalizer_c.specs.Buffers.{HasBeginning, LeavesBeginning, Overwrites, ReportsCount, Writes}

-- units overwrote the buffer, all of them or a beginning, or nothing was written
module _ (units : List ℕ) (Short : Type 0) (before after : List ℕ) where
  overwrites-all : (n : ℕ) → after ≡ overwritten before units → n ≡ min (length units) (2 ^ 64 - 1)
      → Overwrites units Short before after (Ok n)
  overwrites-all n is counts = record { form = is; count = counts; begun = tt; room = λ short. refl; refused = tt }

  overwrites-beginning : (front rest : List ℕ) (wrong : NormalizeError) → units ≡ front ++ rest
      → after ≡ overwritten before front → (Short → ⊥) → wrong ≡ error.Memory
      → Overwrites units Short before after (Err wrong)
  overwrites-beginning front rest wrong parts is none memory = record {
    form = tt;
    count = tt;
    begun = (front, rest, parts, is);
    room = λ short. absurd (none short);
    refused = memory;
  }

  -- less is enough
  pub Overwrites-if : (Suffices : Type 0) (result : Result ℕ NormalizeError) → (Short → Suffices)
      → Overwrites units Suffices before after result → Overwrites units Short before after result
  Overwrites-if Suffices result suffices w = record {
    form = w.form;
    count = w.count;
    begun = w.begun;
    room = λ short. w.room (suffices short);
    refused = w.refused;
  }

-- a sink over a buffer took units
module _ (before after : List ℕ) (old new : Buffer ℕ) (had : old.history.units ≡ before)
    (room : length old.units.now ≡ length before)
    (ends : new.units.ghost_name ≡ old.units.ghost_name → after ≡ new.units.now) where
  abbrev Took : List ℕ → Type 0
  Took front = taken_by new ≡ taken_by old ++ front

  after-taken : (front : List ℕ) → Took front → after ≡ overwritten before front
  after-taken front took =
      ends (taken-reference old new before front took had room) ∙ taken-overwrites old new before front took had room

  pub overwrites-taken : (units : List ℕ) (Short : Type 0) (n : ℕ) → Took units → n ≡ count_of new
      → Overwrites units Short before after (Ok n)
  overwrites-taken units Short n took is =
      overwrites-all units Short before after n (after-taken units took) (is ∙ taken-count old new before units took had room)

  pub overwrites-begun : (units : List ℕ) (Short : Type 0) (front rest : List ℕ) (wrong : NormalizeError) → Took front
      → units ≡ front ++ rest → (Short → ⊥) → wrong ≡ error.Memory → Overwrites units Short before after (Err wrong)
  overwrites-begun units Short front rest wrong took parts none memory =
      overwrites-beginning units Short before after front rest wrong parts (after-taken front took) none memory

  -- a form, or a beginning of it
  module _ (m : MadeForm) (e : Encoding) (input : List ℕ) where
    abbrev form : List ℕ
    form = encoded_form e m.reading m.form input

    abbrev Short : Type 0
    Short = HasShortUnits m e input

    pub overwrites-ok : (done : ⊤) (n : ℕ)
        → WritesFormTo e taken_by (λ s t. ⊥) (TakesNothing taken_by) m (decoded_in e input) old (Ok done) new
        → n ≡ count_of new → Overwrites form Short before after (Ok n)
    overwrites-ok done n w is = overwrites-taken form Short n w.written is

    overwrites-err : (wrong : NormalizeError)
        → WritesFormTo e taken_by (λ s t. ⊥) (TakesNothing taken_by) m (decoded_in e input) old (Err wrong) new
        → Overwrites form Short before after (Err wrong)
    overwrites-err error.Sink w = absurd (w.fault refl)
    overwrites-err error.Memory w =
        let b = w.begun (λ s t left. left) in
        overwrites-begun form Short (encoded_in e b.front) (encoded_in e b.rest) error.Memory b.took
        (ap (encoded_in e) b.parts ∙ encoded_in-append e b.front b.rest) (λ short. w.room short refl) refl

    -- the same, if this was returned and passed on
    pub overwrites-fault : (wrong : NormalizeError) (took : Result ⊤ NormalizeError) → took ≡ Err wrong
        → WritesFormTo e taken_by (λ s t. ⊥) (TakesNothing taken_by) m (decoded_in e input) old took new
        → (result : Result ℕ NormalizeError) → result ≡ Err wrong → Overwrites form Short before after result
    overwrites-fault wrong took is w result same = rw same (overwrites-err wrong (rw is at w))

  -- the characters that an iterator yields, or a beginning of them
  module _ {I : Type 0} {gives : I → Option (Result ℕ NormalizeError) → I → Type 0} {start items next : I}
      (front : List ℕ) (took : Took front) (came : CameSoFar gives start front items) where
    pub overwrites-items : (n : ℕ) → n ≡ count_of new → gives items None next → (x : List ℕ)
        → SpellsUnless gives error.Memory start x → Overwrites x (SpellsOk gives start x) before after (Ok n)
    overwrites-items n is step x h =
        let all : x ≡ front = CameSoFar-end came step x h in
        overwrites-taken x (SpellsOk gives start x) n (rw all took) is

    pub overwrites-items_fault : (wrong : NormalizeError) → gives items (Some (Err wrong)) next → (x : List ℕ)
        → SpellsUnless gives error.Memory start x → Overwrites x (SpellsOk gives start x) before after (Err wrong)
    overwrites-items_fault wrong step x h =
        let so_far = came.came x h in
        overwrites-begun x (SpellsOk gives start x) front so_far.0 wrong took so_far.1 (CameSoFar-room came wrong step x)
        (CameSoFar-fault came wrong step x h)
