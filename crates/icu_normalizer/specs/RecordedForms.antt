-- The normal forms by plain records of characters.
use Rattle.std.specs.Prelude.{ℕ, List}
use Rattle.normal_forms.specs.Forms.{normal_form}
use Rattle.normal_forms.specs.declared.Form.TheVariants.{Decomposing, Composing}
use Rattle.normalizer_builder.specs.RecordedReading.{recorded_reading}
use Rattle.normalizer_records.specs.RecordValue.{RecordValue}
use Rattle.normalizer_records.specs.declared.records.Mappings.TheVariants.{Canonical, All}
use Rattle.icu_normalizer.specs.declared.any_normalizer.NormalForm.{NormalForm}
use Rattle.icu_normalizer.specs.declared.any_normalizer.NormalForm.TheVariants.{Nfd, Nfc, Nfkd, Nfkc}

-- D118 to D121
abbrev pub recorded_form : List RecordValue → NormalForm → List ℕ → List ℕ
recorded_form records Nfd x = normal_form (recorded_reading records Canonical) Decomposing x
recorded_form records Nfc x = normal_form (recorded_reading records Canonical) Composing x
recorded_form records Nfkd x = normal_form (recorded_reading records All) Decomposing x
recorded_form records Nfkc x = normal_form (recorded_reading records All) Composing x
