-- What normalizers and the mapper over built data make.
use Rattle.std.proofs.Common.{◌≡◌, ℕ, List, Result, Ok, Err, IfOk, refl, ap, ◌∙◌}
use Rattle.icu_normalizer.specs.AnyNormalizers.{made_by}
use Rattle.icu_normalizer.specs.ByRecords.{packed_form, IsRecordedForm, MapsByRecords}
use Rattle.icu_normalizer.specs.IgnoredCharacters.TheVariants.{Dropped, Replaced}
use Rattle.icu_normalizer.specs.NormalForms.{normal_form}
use Rattle.icu_normalizer.specs.NormalizeError.{NormalizeError}
use Rattle.icu_normalizer.specs.Packed.{Packed}
use Rattle.icu_normalizer.specs.RecordValue.{RecordValue, Uts46RecordValue}
use Rattle.icu_normalizer.specs.RecordedForms.{recorded_form}
use Rattle.icu_normalizer.specs.Uts46.{MapperData}
use Rattle.icu_normalizer.specs.declared.any_normalizer.AnyNormalizer.{AnyNormalizer}
use Rattle.icu_normalizer.specs.declared.any_normalizer.NormalForm.{NormalForm}
use Rattle.icu_normalizer.specs.declared.any_normalizer.NormalForm.TheVariants.{Nfd, Nfc, Nfkd, Nfkc}
use Rattle.normalizer_command.specs.Making.{making_by, mapping_by, Makes, Maps}

packed_kind : (p : Packed) (records : List RecordValue) (form : NormalForm) → (packed_form p form).form ≡ (making_by records form).form
packed_kind p records Nfd = refl
packed_kind p records Nfc = refl
packed_kind p records Nfkd = refl
packed_kind p records Nfkc = refl

recorded_is : (records : List RecordValue) (form : NormalForm) (x : List ℕ)
    → recorded_form records form x ≡ normal_form (making_by records form).reading (making_by records form).form x
recorded_is records Nfd x = refl
recorded_is records Nfc x = refl
recorded_is records Nfkd x = refl
recorded_is records Nfkc x = refl

pub makes-ok : (r : Result AnyNormalizer NormalizeError) (records : List RecordValue) (p : Packed) (form : NormalForm) → IfOk r (λ n. made_by n ≡ packed_form p form)
    → IfOk r (λ n. IsRecordedForm records form (made_by n)) → IfOk r (λ n. Makes n (making_by records form))
makes-ok (Ok n) records p form held recorded = record {
  kind = ap (λ m. m.form) held ∙ packed_kind p records form;
  same = λ x. recorded x ∙ recorded_is records form x;
}
makes-ok (Err e) records p form held recorded = tt

-- a mapper over built data maps by the records
pub maps-recorded : (h : MapperData) (records : List RecordValue) (uts46 : List Uts46RecordValue) → MapsByRecords records uts46 h → Maps h (mapping_by records uts46)
maps-recorded h records uts46 by = record { same_map = by Dropped; same_validate = by Replaced }
