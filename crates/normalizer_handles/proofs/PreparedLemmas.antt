-- A file of data that were built opens what their records mean.
use Rattle.std.specs.Prelude.{⊤}
use Rattle.std.proofs.Common.{◌≡◌, ℕ, List, [], ◌∷◌, Option, Some, None, IfSome, Result, Ok, Err, refl, sym}
use Rattle.std.proofs.Common.{subst, inl, inr}
use Rattle.icu_normalizer.specs.Building.{Builds}
use Rattle.icu_normalizer.specs.ByRecords.{IsRecordedForm, MapsByRecords}
use Rattle.icu_normalizer.specs.DataError.{DataError}
use Rattle.icu_normalizer.specs.DataMarkerInfo.TheVariants.{NormalizerNfdDataV1}
use Rattle.icu_normalizer.specs.HeldForms.{RefusesFirst, RefusesForm, RefusesMapper}
use Rattle.icu_normalizer.specs.Kind.TheVariants.{Canonical, Mapper}
use Rattle.icu_normalizer.specs.Mappers.{mapper_data_of}
use Rattle.icu_normalizer.specs.Packed.{Packed}
use Rattle.icu_normalizer.specs.ReadBack.{characters_of}
use Rattle.icu_normalizer.specs.RecordValue.{RecordValue, Uts46RecordValue}
use Rattle.icu_normalizer.specs.StepData.{RefusesSteps}
use Rattle.icu_normalizer.specs.declared.any_normalizer.NormalForm.{NormalForm}
use Rattle.icu_normalizer.specs.declared.uts46.Uts46Mapper.{Uts46Mapper}
use Rattle.icu_normalizer.proofs.PackedForms.{packed_form-recorded, packed-maps}
use Rattle.normalizer_prepared.proofs.SameFile.{same_data, unread}
use Rattle.normalizer_handles.specs.declared.fault.Fault.{Fault}
use Rattle.normalizer_handles.specs.declared.fault.Fault.TheVariants as faults
use Rattle.normalizer_handles.specs.declared.normalizers.Normalizers.{Normalizers}
use Rattle.normalizer_handles.specs.Made.{AreReadBy, MakeOver, MapOver}
use Rattle.normalizer_handles.specs.Opening.{Holds}
use Rattle.normalizer_prepared.specs.Prepared.{prepared_in, IsFileOf}
use Rattle.normalizer_handles.specs.Prepared.{forms, held_by, AreOfFile, IsFaultOfFile, Refuses}
use Rattle.normalizer_handles.specs.Properties.{AreOver}

module _ (records : List RecordValue) (mapper : List Uts46RecordValue) (p : Packed) (builds : Builds records mapper p)
    (bytes : List ℕ) (file : IsFileOf bytes p) where
  maps-by : (m : Option Uts46Mapper) → MapOver m p → IfSome m (λ m. MapsByRecords records mapper (mapper_data_of m))
  maps-by None h = tt
  maps-by (Some m) h = subst (MapsByRecords records mapper) (sym h.1) (packed-maps records mapper p builds.means)

  read-by : (n : Normalizers) → AreOfFile bytes n → AreReadBy records mapper n
  read-by n are =
      let same : prepared_in are.held ≡ p = same_data bytes (prepared_in are.held) p (are.held, are.file, refl) file in
      let makes : MakeOver n p = subst (λ (q : Packed). MakeOver n q) same are.make in
      let maps : MapOver n.mapper p = subst (λ (q : Packed). MapOver n.mapper q) same are.map in (
        λ form. subst (IsRecordedForm records form) (sym (makes form))
            (packed_form-recorded records mapper p builds.means form),
        maps-by n.mapper maps,
        (p, builds.means, subst (λ (q : Packed). AreOver n.properties q) same are.tell),
      )

  -- the data are refused by no constructor
  module _ (forms_never : (form : NormalForm) (e : DataError) → ¬ RefusesForm form (held_by p) e)
      (mapper_never : (e : DataError) → ¬ RefusesMapper (Ok (characters_of p Mapper, p.compositions)) e)
      (steps_never : (e : DataError) → ¬ RefusesSteps NormalizerNfdDataV1 (characters_of p Canonical, p.supplement) e) where
    first-unrefused : (e : DataError) (fs : List NormalForm) → ¬ RefusesFirst (held_by p) fs e
    first-unrefused e [] h = absurd h
    first-unrefused e (f ∷ fs) (inl h) = forms_never f e h
    first-unrefused e (f ∷ fs) (inr h) = first-unrefused e fs h.1

    unrefused : (e : DataError) → ¬ Refuses p e
    unrefused e (inl h) = first-unrefused e forms h
    unrefused e (inr (serves, inl h)) = mapper_never e h.1
    unrefused e (inr (serves, inr h)) = steps_never e h.1

    memory-only : (fault : Fault) → IsFaultOfFile bytes fault → fault ≡ faults.Memory
    memory-only faults.Memory h = refl
    memory-only (faults.Prepared f offset) h =
        absurd (unread bytes p file f h.0 h.1)
    memory-only (faults.Unfit condition) h =
        let same : h.0 ≡ p = same_data bytes h.0 p h.2 file in
        absurd (unrefused h.1 (subst (λ (q : Packed). Refuses q h.1) same h.3))
    memory-only faults.BufferTooSmall h = absurd h
    memory-only faults.UnknownForm h = absurd h
    memory-only faults.NotOpen h = absurd h
    memory-only (faults.Line f) h = absurd h
    memory-only (faults.Records f) h = absurd h
    memory-only faults.NoMapper h = absurd h

    pub holds-by : (before after : Option Normalizers) (outcome : Result ⊤ Fault)
        → Holds (AreOfFile bytes) (IsFaultOfFile bytes) before after outcome
        → Holds (AreReadBy records mapper) (λ fault. fault ≡ faults.Memory) before after outcome
    holds-by before after (Ok done) h = (h.0, h.1, read-by h.0 h.2)
    holds-by before after (Err fault) h = (h.0, memory-only fault h.1)
