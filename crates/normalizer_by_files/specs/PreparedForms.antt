-- The normal forms by a file of prepared data.
use Rattle.std.specs.Prelude.{◌≡◌, ◌⊎◌, ℕ, List, Some}
use Rattle.icu_normalizer.specs.Packed.{Packed}
use Rattle.icu_normalizer.specs.ByRecords.{packed_form}
use Rattle.icu_normalizer.specs.DataError.{DataError}
use Rattle.icu_normalizer.specs.DataError.TheVariants as data_error
use Rattle.icu_normalizer.specs.Forms.{form_of}
use Rattle.icu_normalizer.specs.HeldForms.{held_for_forms, HeldForForms, RefusesForm}
use Rattle.icu_normalizer.specs.declared.any_normalizer.NormalForm.{NormalForm}
use Rattle.normalizer_prepared.specs.Files.{IsFirstFault}
use Rattle.normalizer_prepared.specs.Prepared.{IsFileOf}
use Rattle.normalizer_prepared.specs.declared.fault.PreparedError.TheVariants as prepared_error
use Rattle.normalizer_by_files.specs.declared.by_prepared.PreparedFault.{PreparedFault}
use Rattle.normalizer_by_files.specs.declared.by_prepared.PreparedFault.TheVariants.{File, Data}

-- the form of a text by the data whose file it is
abbrev pub IsFormByPrepared : List ℕ → NormalForm → List ℕ → List ℕ → Type 0
IsFormByPrepared prepared form x result =
    (p : Packed) × IsFileOf prepared p × (result ≡ form_of (packed_form p form) x)

-- what data hold for the forms
abbrev pub held_by : Packed → HeldForForms
held_by p =
    held_for_forms (Some p.canonical) (Some p.tables) (Some p.compatibility) (Some p.supplementary_tables)
    (Some p.compositions)

-- a fault of data: memory ran out, or the constructor of the form refuses them with this error
abbrev pub IsFaultOfData : Packed → NormalForm → DataError → Type 0
IsFaultOfData p form e = (e ≡ data_error.Memory) ⊎ RefusesForm form (held_by p) e

-- the first fault of the file, or memory ran out; or a fault of the data whose file it is
abbrev pub IsFaultOfPrepared : List ℕ → NormalForm → PreparedFault → Type 0
IsFaultOfPrepared prepared form (File e) = IsFirstFault prepared e
IsFaultOfPrepared prepared form (Data e) =
    (p : Packed) × IsFileOf prepared p × IsFaultOfData p form e

-- memory ran out
abbrev pub IsMemory : PreparedFault → Type 0
IsMemory (File e) = e ≡ prepared_error.Memory
IsMemory (Data e) = e ≡ data_error.Memory
