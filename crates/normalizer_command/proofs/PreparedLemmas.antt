-- What works by prepared data.
use Rattle.std.proofs.Common.{◌≡◌, List, Result, Ok, Err, IfOk, sym, ap, subst}
use Rattle.icu_normalizer.specs.AnyNormalizers.{made_by}
use Rattle.icu_normalizer.specs.Building.{Builds}
use Rattle.icu_normalizer.specs.ByRecords.{packed_form, IsRecordedForm, MapsByRecords}
use Rattle.icu_normalizer.specs.DataError.{DataError}
use Rattle.icu_normalizer.specs.ComposingAcceptance.{SuitsComposing}
use Rattle.icu_normalizer.specs.Held.{AcceptsHeld}
use Rattle.icu_normalizer.specs.HeldForms.{IsMadeOf}
use Rattle.icu_normalizer.specs.Mappers.{mapper_data_of}
use Rattle.icu_normalizer.specs.declared.uts46.Uts46Mapper.{Uts46Mapper}
use Rattle.icu_normalizer.specs.NormalForms.{normal_form}
use Rattle.icu_normalizer.specs.NormalizeError.{NormalizeError}
use Rattle.icu_normalizer.specs.Packed.{Packed}
use Rattle.icu_normalizer.specs.RecordValue.{RecordValue, Uts46RecordValue}
use Rattle.icu_normalizer.specs.Uts46.{MapperData}
use Rattle.icu_normalizer.specs.declared.any_normalizer.AnyNormalizer.{AnyNormalizer}
use Rattle.icu_normalizer.specs.declared.any_normalizer.NormalForm.{NormalForm}
use Rattle.icu_normalizer.proofs.PackedForms.{packed_form-made, packed_form-recorded, packed-maps}
use Rattle.normalizer_command.specs.Making.{making_by, mapping_by, mapping_of, Makes, Maps}
use Rattle.normalizer_command.proofs.MakingLemmas.{makes-ok, maps-recorded}
use Rattle.normalizer_command.specs.PreparedFiles.{held_by, making_of, mapper_data_in}

module _ (p : Packed) where
  -- a normalizer that makes the form by data
  pub makes-packed : (n : AnyNormalizer) (form : NormalForm) → made_by n ≡ packed_form p form → Makes n (making_of p form)
  makes-packed n form held = record {
    kind = ap (λ m. m.form) held;
    same = λ x. ap (λ m. normal_form m.reading m.form x) held;
  }

  -- a mapper over data
  pub maps-packed : (h : MapperData) → h ≡ mapper_data_in p → Maps h (mapping_of (mapper_data_in p))
  maps-packed h held = record {
    same_map = λ x. ap (λ h. (mapping_of h).map x) held;
    same_validate = λ x. ap (λ h. (mapping_of h).validate x) held;
  }

  module _ (records : List RecordValue) (uts46 : List Uts46RecordValue) (builds : Builds records uts46 p) where
    -- it makes what the records mean
    pub makes-built : (n : AnyNormalizer) (form : NormalForm) → made_by n ≡ packed_form p form → Makes n (making_by records form)
    makes-built n form held =
        let r : Result AnyNormalizer NormalizeError = Ok n in
        makes-ok r records p form held
        (subst (IsRecordedForm records form) (sym held) (packed_form-recorded records uts46 p builds.means form))

    pub maps-built : (h : MapperData) → h ≡ mapper_data_in p → Maps h (mapping_by records uts46)
    maps-built h held =
        maps-recorded h records uts46
        (subst (MapsByRecords records uts46) (sym held) (packed-maps records uts46 p builds.means))

  -- ---- the same of what may have failed

  pub makes-packed-ok : (r : Result AnyNormalizer DataError) (form : NormalForm) → IfOk r (λ n. IsMadeOf form (held_by p) (made_by n)) → IfOk r (λ n. Makes n (making_of p form))
  makes-packed-ok (Ok n) form made = makes-packed n form (packed_form-made p form (made_by n) made)
  makes-packed-ok (Err e) form made = tt

  pub maps-packed-ok : (r : Result Uts46Mapper DataError) → IfOk r (λ m. AcceptsHeld SuitsComposing (Ok (mapper_data_in p)) (mapper_data_of m)) → IfOk r (λ m. Maps (mapper_data_of m) (mapping_of (mapper_data_in p)))
  maps-packed-ok (Ok m) held = maps-packed (mapper_data_of m) held.0
  maps-packed-ok (Err e) held = tt

  pub makes-built-ok : (r : Result AnyNormalizer DataError) (form : NormalForm) → IfOk r (λ n. IsMadeOf form (held_by p) (made_by n))
      → (records : List RecordValue) (uts46 : List Uts46RecordValue) → Builds records uts46 p → IfOk r (λ n. Makes n (making_by records form))
  makes-built-ok (Ok n) form made records uts46 builds = makes-built records uts46 builds n form (packed_form-made p form (made_by n) made)
  makes-built-ok (Err e) form made records uts46 builds = tt

  pub maps-built-ok : (r : Result Uts46Mapper DataError) → IfOk r (λ m. AcceptsHeld SuitsComposing (Ok (mapper_data_in p)) (mapper_data_of m))
      → (records : List RecordValue) (uts46 : List Uts46RecordValue) → Builds records uts46 p → IfOk r (λ m. Maps (mapper_data_of m) (mapping_by records uts46))
  maps-built-ok (Ok m) held records uts46 builds = maps-built records uts46 builds (mapper_data_of m) held.0
  maps-built-ok (Err e) held records uts46 builds = tt
