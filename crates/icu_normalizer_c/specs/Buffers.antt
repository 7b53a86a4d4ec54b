-- What a call leaves in the buffers that it was passed.
use Rattle.std.specs.Prelude.{◌≡◌, ◌≢◌, ◌⊎◌, ℕ, ◌<◌, ◌≤◌, ◌-◌, ◌^◌, ◌++◌, ⊤, List, length, take, drop, min}
use Rattle.std.specs.Prelude.{Result, IsOk, IsOkUnless, OnOk, OnErr, IfOk, IfErr, IsErrOf}
use Rattle.icu_normalizer.specs.ShortRuns.{HasShortRuns}
use Rattle.icu_normalizer.specs.Forms.{MadeForm}
use Rattle.icu_normalizer.specs.NormalizeError.{NormalizeError}
use Rattle.icu_normalizer.specs.NormalizeError.TheVariants.{Memory as NoMemory}
use Rattle.icu_normalizer_c.specs.Overwriting.{overwritten}
use Rattle.normalizer_handles.specs.declared.fault.Fault.{Fault}
use Rattle.normalizer_handles.specs.declared.fault.Fault.TheVariants.{BufferTooSmall, Memory}

-- The units are written to the beginning of the buffer, if there is room for all of them, and their number is reported.
-- If there isn't room, only their number is.
pub record Fills {X : Type 0} (units before after : List X) (count_before count : ℕ) (outcome : Result ⊤ Fault)
    : Type 0 where
  pub room : OnOk outcome (length units ≤ length before)
  pub written : OnOk outcome (after ≡ units ++ drop (length units) before)
  pub counted : OnOk outcome (count ≡ length units)
  pub small : IsErrOf outcome BufferTooSmall → (length before < length units) × (count ≡ length units)
  pub refused : IfErr outcome (λ fault. (fault ≡ BufferTooSmall) ⊎ (fault ≡ Memory))
  pub unreported : IfErr outcome (λ fault. fault ≢ BufferTooSmall → count ≡ count_before)

-- after a fault the buffer is unchanged
abbrev pub LeavesAll : {X : Type 0} → (units before after : List X) → Result ⊤ Fault → Type 0
LeavesAll units before after outcome = OnErr outcome (after ≡ before)

-- a beginning of the units overwrote the beginning of the buffer, as far as there is room for it
abbrev pub HasBeginning : {X : Type 0} → (units before after : List X) → Type 0
HasBeginning {X} units before after =
    (front : List X) × (rest : List X) × (units ≡ front ++ rest) × (after ≡ overwritten before front)

-- After a fault the beginning of the buffer has a beginning of the units, and the rest is unchanged. If only room was
-- missing, the buffer is full.
pub record LeavesBeginning {X : Type 0} (units before after : List X) (outcome : Result ⊤ Fault) : Type 0 where
  pub full : IsErrOf outcome BufferTooSmall → after ≡ take (length before) units
  pub begun : OnErr outcome (HasBeginning units before after)

-- The units overwrote the buffer from its beginning, as far as there is room, and their number was returned, or the
-- greatest number of 64 bits if there are more. `Memory` is the only error, and never comes if memory suffices. After it
-- a beginning of the units overwrote the beginning.
pub record Overwrites {X : Type 0} (units : List X) (Suffices : Type 0) (before after : List X)
    (result : Result ℕ NormalizeError) : Type 0 where
  pub form : OnOk result (after ≡ overwritten before units)
  pub count : IfOk result (λ n. n ≡ min (length units) (2 ^ 64 - 1))
  pub begun : OnErr result (HasBeginning units before after)
  pub room : Suffices → IsOk result
  pub refused : IsOkUnless result NoMemory

-- The units are written, or what is left after a fault, which isn't `Memory` if memory suffices.
pub record Writes {X : Type 0} (Left : List X → List X → List X → Result ⊤ Fault → Type 0) (before after : List X)
    (count_before count : ℕ) (Suffices : Type 0) (units : List X) (outcome : Result ⊤ Fault) : Type 0 where
  pub fills : Fills units before after count_before count outcome
  pub left : Left units before after outcome
  pub room : Suffices → ¬ IsErrOf outcome Memory

-- A value of this kind is reported. The only fault is `Memory`, which never comes if the text of the input has short
-- runs, and then nothing is reported.
pub record Reports {A : Type 0} (m : MadeForm) (text : List ℕ) (Is : A → Type 0) (before after : A)
    (outcome : Result ⊤ Fault) : Type 0 where
  pub is : OnOk outcome (Is after)
  pub room : HasShortRuns m.has_class_form m.reading text → IsOk outcome
  pub refused : IfErr outcome (λ fault. fault ≡ Memory)
  pub unreported : OnErr outcome (after ≡ before)

-- The count of units is reported, if it is below the greatest number of 64 bits, and whether there is room for them.
pub record ReportsCount (units room count_before count : ℕ) (outcome : Result ⊤ Fault) : Type 0 where
  pub done : OnOk outcome ((units < 2 ^ 64 - 1) × ((units ≤ room) × (count ≡ units)))
  pub small : IfErr outcome (λ fault.
      ((fault ≡ BufferTooSmall) × ((units < 2 ^ 64 - 1) × ((room < units) × (count ≡ units))))
      ⊎ ((fault ≡ Memory) × ((2 ^ 64 - 1 ≤ units) × (count ≡ count_before))))
