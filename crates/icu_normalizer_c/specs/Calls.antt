-- What the calls of C do.
use Rattle.std.specs.Prelude.{◌≡◌, ◌⊎◌, ◌↔◌, ℕ, ◌<◌, ◌-◌, ◌^◌, Bool, List, length, ⊤, Result, Ok, Err, Option, Some}
use Rattle.std.specs.Prelude.{None, IsTrue, true, false}
use Rattle.icu_normalizer.specs.ShortRuns.{HasShortRuns}
use Rattle.icu_normalizer.specs.IgnoredCharacters.{IgnoredCharacters}
use Rattle.icu_normalizer.specs.IgnoredCharacters.TheVariants.{Dropped, Replaced}
use Rattle.icu_normalizer.specs.Encodings.{Encoding, encoded_in, decoded_in}
use Rattle.icu_normalizer.specs.EncodedForm.{encoded_form}
use Rattle.icu_normalizer.specs.InputCut.{IsInputCut, IsInputNormalized}
use Rattle.icu_normalizer.specs.Offence.{Offence}
use Rattle.icu_normalizer.specs.Mapping.{mapped_in}
use Rattle.icu_normalizer.specs.Checks.{IsLastingOffence, IsNormalizedUtf32}
use Rattle.icu_normalizer.specs.Forms.{MadeForm, form_of}
use Rattle.icu_normalizer.specs.declared.uts46.Uts46Mapper.{Uts46Mapper}
use Rattle.icu_normalizer.specs.Mappers.{mapper_data_of}
use Rattle.icu_normalizer.specs.Utf32.{decoded_utf32}
use Rattle.icu_normalizer.specs.Uts46.{MapperData}
use Rattle.normalizer_handles.specs.declared.fault.Fault.{Fault}
use Rattle.normalizer_handles.specs.declared.fault.Fault.TheVariants.{NoMapper, NotOpen, UnknownForm}
use Rattle.icu_normalizer_c.specs.declared.mismatch.Mismatch.{Mismatch}
use Rattle.normalizer_handles.specs.declared.normalizers.Normalizers.{Normalizers}
use Rattle.icu_normalizer_c.specs.Buffers.{LeavesAll, LeavesBeginning, Reports, Writes}
use Rattle.normalizer_handles.specs.FormNumbers.{last_form}
use Rattle.normalizer_handles.specs.Made.{IsNumbered}
use Rattle.icu_normalizer_c.specs.Mismatches.{mismatch_of}

-- a call at a form of the normalizers, unless no form has the number
abbrev pub AtForm : Normalizers → (number : ℕ) → (Unchanged : Type 0) → (MadeForm → Result ⊤ Fault → Type 0)
    → Result ⊤ Fault → Type 0
AtForm n number Unchanged Is outcome =
    ((last_form < number) × (outcome ≡ Err UnknownForm) × Unchanged)
    ⊎ ((m : MadeForm) × IsNumbered n number m × Is m outcome)

-- a call at the normalizers of a handle, if it has some
abbrev pub OverHeld : Option Normalizers → (Unchanged : Type 0) → (Normalizers → Result ⊤ Fault → Type 0)
    → Result ⊤ Fault → Type 0
OverHeld None Unchanged Is outcome = (outcome ≡ Err NotOpen) × Unchanged
OverHeld (Some n) Unchanged Is outcome = Is n outcome

-- a call at a form of the normalizers of a handle, if it has some
abbrev pub Over : Option Normalizers → (number : ℕ) → (Unchanged : Type 0) → (MadeForm → Result ⊤ Fault → Type 0)
    → Result ⊤ Fault → Type 0
Over h number Unchanged Is outcome = OverHeld h Unchanged (λ n. AtForm n number Unchanged Is) outcome

-- the call succeeds, and this holds
abbrev pub Tells : Type 0 → Result ⊤ Fault → Type 0
Tells Is outcome = (outcome ≡ Ok tt) × Is

-- the input needs no memory: it has short runs, and the units of its form can be counted in 64 bits
abbrev pub NeedsNoMemory : Encoding → (input : List ℕ) → MadeForm → Type 0
NeedsNoMemory e input m = HasShortRuns m.has_class_form m.reading (decoded_in e input)
    × (length (encoded_form e m.reading m.form input) < 2 ^ 64 - 1)

-- the encoded form of the input goes to the buffer
abbrev pub WritesForm : Encoding → (input before after : List ℕ) → (count_before count : ℕ) → MadeForm → Result ⊤ Fault
    → Type 0
WritesForm e input before after count_before count m outcome =
    Writes LeavesBeginning before after count_before count (NeedsNoMemory e input m)
    (encoded_form e m.reading m.form input) outcome

-- the text of the input in UTF-32 has short runs
abbrev pub HasShortUtf32 : (input : List ℕ) → MadeForm → Type 0
HasShortUtf32 input m = HasShortRuns m.has_class_form m.reading (decoded_utf32 input)

-- the input in UTF-32 needs no memory: it has short runs, and the units of its form can be counted in 64 bits
abbrev pub NeedsNoMemoryUtf32 : (input : List ℕ) → MadeForm → Type 0
NeedsNoMemoryUtf32 input m = HasShortUtf32 input m × (length (form_of m (decoded_utf32 input)) < 2 ^ 64 - 1)

-- the form of the input in UTF-32 goes to the buffer
abbrev pub WritesFormUtf32 : (input before after : List ℕ) → (count_before count : ℕ) → MadeForm → Result ⊤ Fault
    → Type 0
WritesFormUtf32 input before after count_before count m outcome =
    Writes LeavesBeginning before after count_before count (NeedsNoMemoryUtf32 input m)
    (form_of m (decoded_utf32 input)) outcome

-- it is reported whether the input is well-formed and normalized
abbrev pub ReportsNormalized : Encoding → (input : List ℕ) → (before after : Bool) → MadeForm → Result ⊤ Fault
    → Type 0
ReportsNormalized e input before after m outcome =
    Reports m (decoded_in e input) (λ yes. IsTrue yes ↔ IsInputNormalized e m.reading m.form input) before after outcome

-- it is reported whether the input is in UTF-32 and normalized
abbrev pub ReportsNormalizedUtf32 : (input : List ℕ) → (before after : Bool) → MadeForm → Result ⊤ Fault → Type 0
ReportsNormalizedUtf32 input before after m outcome =
    Reports m input (λ yes. IsTrue yes ↔ IsNormalizedUtf32 m input) before after outcome

-- the cut of the input is reported
abbrev pub ReportsCut : Encoding → (input : List ℕ) → (before after : ℕ) → MadeForm → Result ⊤ Fault → Type 0
ReportsCut e input before after m outcome =
    Reports m (decoded_in e input) (IsInputCut e m.reading m.form input) before after outcome

-- the first mismatch of the input is reported, or that it is well-formed and normalized
abbrev pub ReportsMismatch : Encoding → (input : List ℕ) → (before after : Mismatch) → MadeForm → Result ⊤ Fault
    → Type 0
ReportsMismatch e input before after m outcome =
    Reports m (decoded_in e input)
    (λ it. (answer : Option Offence) × (it ≡ mismatch_of answer) × IsLastingOffence m e input answer)
    before after outcome

-- a call at the mapper of normalizers, unless they have none
abbrev pub AtMapper : Option Uts46Mapper → (Unchanged : Type 0) → (MapperData → Result ⊤ Fault → Type 0)
    → Result ⊤ Fault → Type 0
AtMapper None Unchanged Is outcome = (outcome ≡ Err NoMapper) × Unchanged
AtMapper (Some m) Unchanged Is outcome = Is (mapper_data_of m) outcome

-- a call at the mapper of a handle, unless it has no normalizers or no mapper
abbrev pub OverMapper : Option Normalizers → (Unchanged : Type 0) → (MapperData → Result ⊤ Fault → Type 0)
    → Result ⊤ Fault → Type 0
OverMapper h Unchanged Is outcome = OverHeld h Unchanged (λ n. AtMapper n.mapper Unchanged Is) outcome

-- ignored characters are replaced, or dropped
abbrev pub treatment : (are_replaced : Bool) → IgnoredCharacters
treatment true = Replaced
treatment false = Dropped

-- what the input is mapped to goes to the buffer, encoded as it is, its ignored characters dropped or replaced
abbrev pub WritesMapped : Encoding → IgnoredCharacters → (input before after : List ℕ) → (count_before count : ℕ)
    → MapperData → Result ⊤ Fault → Type 0
WritesMapped e i input before after count_before count h outcome =
    Writes LeavesAll before after count_before count ⊥ (encoded_in e (mapped_in h i (decoded_in e input))) outcome
