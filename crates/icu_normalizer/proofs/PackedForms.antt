-- The forms, and mapped text, by the data that records build.
use Rattle.std.proofs.Common.{◌≡◌, List, [], ◌∷◌, Some, false, All, ap, inl, inr, ◌∙◌}
use Rattle.normal_forms.specs.Forms.{normal_form}
use Rattle.normal_forms.proofs.forms.AlikeReadings.{nfc-alike, nfd-alike}
use Rattle.normalizer_builder.specs.Building.{MeansRecords}
use Rattle.normalizer_builder.specs.RecordedReading.{recorded_reading}
use Rattle.normalizer_check.specs.Refusals.{RefusesFirstFailing}
use Rattle.normalizer_check.specs.RequiredConditions.{composing_conditions, decomposing_conditions}
use Rattle.normalizer_packing.specs.ReadBack.{characters_of}
use Rattle.normalizer_packing.specs.declared.Packed.{Packed}
use Rattle.normalizer_records.specs.RecordValue.{RecordValue, Uts46RecordValue}
use Rattle.normalizer_records.specs.declared.records.Mappings.TheVariants as mappings
use Rattle.normalizer_tables.specs.conditions.Conditions.{IsMet}
use Rattle.normalizer_tables.specs.conditions.Loaded.{characters_alone, characters_and_pairs, Loaded}
use Rattle.normalizer_tables.specs.Readings.{reading_by}
use Rattle.normalizer_tables.specs.declared.characters.IgnoredCharacters.TheVariants.{Dropped, Replaced}
use Rattle.normalizer_tables.specs.declared.condition.Condition.{Condition}
use Rattle.normalizer_tables.specs.declared.entry.Kind.TheVariants.{Canonical, Compatibility, Mapper}
use Rattle.normalizer_tables.specs.declared.provider.DataError.{DataError}
use Rattle.normalizer_tables.specs.declared.provider.DataMarkerInfo.{DataMarkerInfo}
use Rattle.normalizer_tables.specs.declared.provider.DataMarkerInfo.TheVariants as marker
use Rattle.normalizer_calls.specs.Forms.{MadeForm, form_by}
use Rattle.icu_normalizer.specs.HeldForms.{held_for_forms, HeldForForms, IsMadeOf, RefusesFirst, RefusesForm}
use Rattle.icu_normalizer.specs.Mapping.{mapper_reading}
use Rattle.icu_normalizer.specs.ByRecords.{packed_form, IsRecordedForm, MapsByRecords}
use Rattle.icu_normalizer.specs.declared.any_normalizer.NormalForm.{NormalForm}
use Rattle.icu_normalizer.specs.declared.any_normalizer.NormalForm.TheVariants.{Nfd, Nfc, Nfkd, Nfkc}

-- what packed data hold for the forms
abbrev pub held_by : Packed → HeldForForms
held_by p =
    held_for_forms (Some p.canonical) (Some p.tables) (Some p.compatibility) (Some p.supplementary_tables) (Some p.compositions)

-- the form that is made of them
pub packed_form-made : (p : Packed) (form : NormalForm) (m : MadeForm) → IsMadeOf form (held_by p) m → m ≡ packed_form p form
packed_form-made p Nfd m h = h.2 ∙ ap (λ s. form_by s [] _) h.1.0
packed_form-made p Nfc m h = h.2 ∙ ap (λ h. form_by h.0 h.1 _) h.1.0
packed_form-made p Nfkd m h = h.2 ∙ ap (λ s. form_by s [] _) h.1.0
packed_form-made p Nfkc m h = h.2 ∙ ap (λ h. form_by h.0 h.1 _) h.1.0

-- data that meet all conditions are not refused
pub packed-unrefused : (p : Packed)
    → ((d : Loaded) (conditions : List Condition) (kind : DataMarkerInfo) (e : DataError) → All (IsMet d) conditions
    → ¬ RefusesFirstFailing kind d conditions e)
    → All (IsMet (characters_alone (characters_of p Canonical))) decomposing_conditions
    → All (IsMet (characters_and_pairs (characters_of p Canonical) p.compositions)) (composing_conditions false)
    → All (IsMet (characters_alone (characters_of p Compatibility))) decomposing_conditions
    → All (IsMet (characters_and_pairs (characters_of p Compatibility) p.compositions)) (composing_conditions false)
    → (form : NormalForm) (e : DataError) → ¬ RefusesForm form (held_by p) e
packed-unrefused p never nfd nfc nfkd nfkc Nfd e = never _ _ marker.NormalizerNfdDataV1 e nfd
packed-unrefused p never nfd nfc nfkd nfkc Nfc e = never _ _ marker.NormalizerNfdDataV1 e nfc
packed-unrefused p never nfd nfc nfkd nfkc Nfkd e = never _ _ marker.NormalizerNfkdDataV1 e nfkd
packed-unrefused p never nfd nfc nfkd nfkc Nfkc e = never _ _ marker.NormalizerNfkdDataV1 e nfkc

-- nor is the first of some forms
pub packed-unrefused_first : (p : Packed) (forms : List NormalForm) → ((form : NormalForm) (e : DataError) → ¬ RefusesForm form (held_by p) e)
    → (e : DataError) → ¬ RefusesFirst (held_by p) forms e
packed-unrefused_first p [] never e refuses = refuses
packed-unrefused_first p (form ∷ forms) never e (inl refuses) = never form e refuses
packed-unrefused_first p (form ∷ forms) never e (inr others) = packed-unrefused_first p forms never e others.1

module _ (records : List RecordValue) (uts46 : List Uts46RecordValue) (p : Packed) (means : MeansRecords records uts46 p) where
  -- the forms by the data are those that the records mean
  pub packed_form-recorded : (form : NormalForm) → IsRecordedForm records form (packed_form p form)
  unfolding normal_form
  packed_form-recorded Nfd x =
      nfd-alike (reading_by (characters_of p Canonical) Dropped []) (recorded_reading records mappings.Canonical)
      means.canonical means.canonical_classes x
  packed_form-recorded Nfc x =
      nfc-alike (reading_by (characters_of p Canonical) Dropped p.compositions) (recorded_reading records mappings.Canonical)
      means.canonical means.canonical_classes means.pairs x
  packed_form-recorded Nfkd x =
      nfd-alike (reading_by (characters_of p Compatibility) Dropped []) (recorded_reading records mappings.All)
      means.compatibility means.compatibility_classes x
  packed_form-recorded Nfkc x =
      nfc-alike (reading_by (characters_of p Compatibility) Dropped p.compositions) (recorded_reading records mappings.All)
      means.compatibility means.compatibility_classes means.pairs x

  -- and so is mapped text
  pub packed-maps : MapsByRecords records uts46 (characters_of p Mapper, p.compositions)
  packed-maps Dropped =
      nfc-alike (reading_by (characters_of p Mapper) Dropped p.compositions) (mapper_reading records uts46 Dropped)
      (means.mapper []) means.mapper_classes means.pairs
  packed-maps Replaced =
      nfc-alike (reading_by (characters_of p Mapper) Replaced p.compositions) (mapper_reading records uts46 Replaced)
      (means.mapper (0xFFFD ∷ [])) means.mapper_classes means.pairs
