-- What a handle is opened by if that is a file of prepared data, and why it isn't.
use Rattle.std.specs.Prelude.{◌≡◌, ◌≢◌, ◌⊎◌, ℕ, List, [], ◌∷◌, ⊤, Some, Ok}
use Rattle.icu_normalizer.specs.ComposingAcceptance.{SuitsComposing}
use Rattle.icu_normalizer.specs.DataError.{DataError}
use Rattle.icu_normalizer.specs.DataMarkerInfo.TheVariants.{NormalizerNfdDataV1}
use Rattle.icu_normalizer.specs.HeldForms.{held_for_forms, HeldForForms, RefusesFirst, RefusesMapper, Serves}
use Rattle.icu_normalizer.specs.Kind.TheVariants.{Canonical, Mapper}
use Rattle.icu_normalizer.specs.Packed.{Packed}
use Rattle.icu_normalizer.specs.ReadBack.{characters_of}
use Rattle.icu_normalizer.specs.StepData.{RefusesSteps}
use Rattle.icu_normalizer.specs.declared.any_normalizer.NormalForm.{NormalForm}
use Rattle.icu_normalizer.specs.declared.any_normalizer.NormalForm.TheVariants.{Nfd, Nfc, Nfkd, Nfkc}
use Rattle.normalizer_prepared.specs.Files.{held_in, IsFirstFault}
use Rattle.normalizer_prepared.specs.Prepared.{prepared_in, IsFileOf}
use Rattle.normalizer_prepared.specs.declared.fault.PreparedError.TheVariants.{Wrong}
use Rattle.normalizer_prepared.specs.declared.reading.PreparedData.{PreparedData}
use Rattle.normalizer_handles.specs.declared.fault.Fault.{Fault}
use Rattle.normalizer_handles.specs.declared.fault.Fault.TheVariants.{Memory, Prepared, Unfit}
use Rattle.normalizer_handles.specs.declared.normalizers.Normalizers.{Normalizers}
use Rattle.normalizer_handles.specs.Made.{MakeOver, MapOver}
use Rattle.normalizer_handles.specs.Properties.{AreOver}
use Rattle.normalizer_handles.specs.Status.{fault_of_data}

-- the normalizers are by what the bytes hold, whose version they state
pub record AreOfFile (bytes : List ℕ) (n : Normalizers) : Type 0 where
  pub held : PreparedData
  pub file : held_in bytes ≡ Ok held
  pub make : MakeOver n (prepared_in held)
  pub map : MapOver n.mapper (prepared_in held)
  pub tell : AreOver n.properties (prepared_in held)
  pub version : n.version ≡ held.version

-- what packed data hold for the forms
abbrev pub held_by : Packed → HeldForForms
held_by p =
    held_for_forms (Some p.canonical) (Some p.tables) (Some p.compatibility) (Some p.supplementary_tables)
    (Some p.compositions)

abbrev pub forms : List NormalForm
forms = Nfd ∷ Nfc ∷ Nfkd ∷ Nfkc ∷ []

-- the mapper's data are the canonical ones, or meet their conditions
abbrev pub SuitsMapper : Packed → Type 0
SuitsMapper p = (p.mapper ≡ p.canonical) ⊎ SuitsComposing (characters_of p Mapper, p.compositions)

-- The error is of the first of the forms whose conditions the data don't meet, or else of the mapper if its data aren't
-- the canonical ones, or else of the steps.
abbrev pub Refuses : Packed → DataError → Type 0
Refuses p e =
    RefusesFirst (held_by p) forms e
    ⊎ (((form : NormalForm) → Serves (held_by p) form)
    × (((p.mapper ≢ p.canonical) × RefusesMapper (Ok (characters_of p Mapper, p.compositions)) e)
    ⊎ (SuitsMapper p × RefusesSteps NormalizerNfdDataV1 (characters_of p Canonical, p.supplement) e)))

-- why nothing is opened: the first fault of the bytes, or the condition that their data break, or memory ran out
abbrev pub IsFaultOfFile : List ℕ → Fault → Type 0
IsFaultOfFile bytes Memory = ⊤
IsFaultOfFile bytes (Prepared fault offset) = IsFirstFault bytes (Wrong fault offset)
IsFaultOfFile bytes (Unfit condition) =
    (p : Packed) × (e : DataError) × IsFileOf bytes p × Refuses p e × (fault_of_data e ≡ Unfit condition)
IsFaultOfFile bytes fault = ⊥
