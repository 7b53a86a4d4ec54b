-- What normalizers and the mapper make over data that records build.
use Rattle.std.specs.Prelude.{◌≡◌, ℕ, List, []}
use Rattle.normal_forms.specs.Forms.{nfc}
use Rattle.normal_forms.specs.declared.Form.TheVariants.{Decomposing, Composing}
use Rattle.normalizer_packing.specs.ReadBack.{characters_of}
use Rattle.normalizer_packing.specs.declared.Packed.{Packed}
use Rattle.normalizer_records.specs.RecordValue.{RecordValue, Uts46RecordValue}
use Rattle.normalizer_tables.specs.declared.characters.IgnoredCharacters.{IgnoredCharacters}
use Rattle.normalizer_tables.specs.declared.entry.Kind.TheVariants.{Canonical, Compatibility}
use Rattle.normalizer_calls.specs.Forms.{MadeForm, form_by, form_of}
use Rattle.icu_normalizer.specs.Mapping.{mapped_in, mapper_reading}
use Rattle.icu_normalizer.specs.RecordedForms.{recorded_form}
use Rattle.icu_normalizer.specs.Uts46.{MapperData}
use Rattle.icu_normalizer.specs.declared.any_normalizer.NormalForm.{NormalForm}
use Rattle.icu_normalizer.specs.declared.any_normalizer.NormalForm.TheVariants.{Nfd, Nfc, Nfkd, Nfkc}

-- a form by packed data
abbrev pub packed_form : Packed → NormalForm → MadeForm
packed_form p Nfd = form_by (characters_of p Canonical) [] Decomposing
packed_form p Nfc = form_by (characters_of p Canonical) p.compositions Composing
packed_form p Nfkd = form_by (characters_of p Compatibility) [] Decomposing
packed_form p Nfkc = form_by (characters_of p Compatibility) p.compositions Composing

-- the form of every text is the one that the records mean
abbrev pub IsRecordedForm : List RecordValue → NormalForm → MadeForm → Type 0
IsRecordedForm records form m = (x : List ℕ) → form_of m x ≡ recorded_form records form x

-- what a mapper over these data makes of every text, in either way, is what the records mean
abbrev pub MapsByRecords : List RecordValue → List Uts46RecordValue → MapperData → Type 0
MapsByRecords records uts46 h =
    (i : IgnoredCharacters) (x : List ℕ) → mapped_in h i x ≡ nfc (mapper_reading records uts46 i) x
