-- The forms that normalizers make, and what their mapper maps to.
use Rattle.std.specs.Prelude.{◌≡◌, ◌≢◌, ℕ, List, [], Option, Some, None, IfSome}
use Rattle.icu_normalizer.specs.AllNormalizers.{made_to}
use Rattle.icu_normalizer.specs.ByRecords.{packed_form, IsRecordedForm, MapsByRecords}
use Rattle.icu_normalizer.specs.Forms.{MadeForm}
use Rattle.icu_normalizer.specs.Kind.TheVariants.{Mapper}
use Rattle.icu_normalizer.specs.Mappers.{mapper_data_of}
use Rattle.icu_normalizer.specs.Packed.{Packed}
use Rattle.icu_normalizer.specs.ReadBack.{characters_of}
use Rattle.icu_normalizer.specs.RecordValue.{RecordValue, Uts46RecordValue}
use Rattle.icu_normalizer.specs.declared.any_normalizer.NormalForm.{NormalForm}
use Rattle.icu_normalizer.specs.declared.uts46.Uts46Mapper.{Uts46Mapper}
use Rattle.normalizer_handles.specs.declared.normalizers.Normalizers.{Normalizers}
use Rattle.normalizer_handles.specs.FormNumbers.{number_of}
use Rattle.normalizer_handles.specs.Properties.{TellBy}

-- the form that the normalizers make
abbrev pub made_in : Normalizers → NormalForm → MadeForm
made_in n form = made_to n.properties.forms form

-- the form that the normalizers make and that has the number
abbrev pub IsNumbered : Normalizers → (number : ℕ) → MadeForm → Type 0
IsNumbered n number m = (form : NormalForm) × (number ≡ number_of form) × (m ≡ made_in n form)

-- every text has all four forms by what the records mean (D118 to D121)
abbrev pub MakeBy : Normalizers → List RecordValue → Type 0
MakeBy n records = (form : NormalForm) → IsRecordedForm records form (made_in n form)

-- there is a mapper if and only if it has records. Every text is mapped, in either way, by what the records mean.
abbrev pub MapBy : Option Uts46Mapper → List RecordValue → List Uts46RecordValue → Type 0
MapBy None records mapper = mapper ≡ []
MapBy (Some m) records mapper = (mapper ≢ []) × MapsByRecords records mapper (mapper_data_of m)

-- the same, with a mapper or without one, and properties are by what the records mean
abbrev pub AreReadBy : List RecordValue → List Uts46RecordValue → Normalizers → Type 0
AreReadBy records mapper n =
    MakeBy n records × IfSome n.mapper (λ m. MapsByRecords records mapper (mapper_data_of m))
    × TellBy n.properties records mapper

-- the four forms are those by packed data
abbrev pub MakeOver : Normalizers → Packed → Type 0
MakeOver n p = (form : NormalForm) → made_in n form ≡ packed_form p form

-- there is a mapper if and only if its data aren't the canonical ones, and it is by its data
abbrev pub MapOver : Option Uts46Mapper → Packed → Type 0
MapOver None p = p.mapper ≡ p.canonical
MapOver (Some m) p = (p.mapper ≢ p.canonical) × (mapper_data_of m ≡ (characters_of p Mapper, p.compositions))
