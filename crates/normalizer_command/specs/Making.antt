-- What is made of texts, by what records mean.
use Rattle.std.specs.Prelude.{◌≡◌, ℕ, List}
use Rattle.icu_normalizer.specs.Form.{Form}
use Rattle.icu_normalizer.specs.NormalForms.{nfc, normal_form}
use Rattle.icu_normalizer.specs.Reading.{Reading}
use Rattle.icu_normalizer.specs.IgnoredCharacters.TheVariants.{Dropped, Replaced}
use Rattle.icu_normalizer.specs.Mappings.TheVariants.{Canonical, All}
use Rattle.icu_normalizer.specs.RecordValue.{RecordValue, Uts46RecordValue}
use Rattle.icu_normalizer.specs.RecordedReading.{recorded_reading}
use Rattle.icu_normalizer.specs.declared.any_normalizer.NormalForm.{NormalForm}
use Rattle.icu_normalizer.specs.declared.any_normalizer.NormalForm.TheVariants.{Nfd, Nfc, Nfkd, Nfkc}
use Rattle.icu_normalizer.specs.declared.any_normalizer.AnyNormalizer.{AnyNormalizer}
use Rattle.icu_normalizer.specs.Mapping.{mapped_in, mapper_reading}
use Rattle.icu_normalizer.specs.AnyNormalizers.{kind_by, reading_of}
use Rattle.icu_normalizer.specs.Form.TheVariants.{Decomposing, Composing}
use Rattle.icu_normalizer.specs.Uts46.{MapperData}

-- a normal form, and the reading by which it is made
pub record Making : Type 0 where
  pub reading : Reading
  pub form : Form

-- D118 to D121 by what records mean
abbrev pub making_by : List RecordValue → NormalForm → Making
making_by records Nfd = record { reading = recorded_reading records Canonical; form = Decomposing }
making_by records Nfc = record { reading = recorded_reading records Canonical; form = Composing }
making_by records Nfkd = record { reading = recorded_reading records All; form = Decomposing }
making_by records Nfkc = record { reading = recorded_reading records All; form = Composing }

-- the normalizer makes this form of every text
pub record Makes (n : AnyNormalizer) (m : Making) : Type 0 where
  pub kind : kind_by n ≡ m.form
  pub same : (x : List ℕ) → normal_form (reading_of n) (kind_by n) x ≡ normal_form m.reading m.form x

-- what the mapper makes of a text, and what its validation makes of it
pub record Mapping : Type 0 where
  pub map : List ℕ → List ℕ
  pub validate : List ℕ → List ℕ

-- Map and Normalize (UTS #46, section 4) by what records mean: ignored characters are dropped, or if the text is
-- validated, each becomes U+FFFD
abbrev pub mapping_by : List RecordValue → List Uts46RecordValue → Mapping
mapping_by records uts46 = record {
  map = nfc (mapper_reading records uts46 Dropped);
  validate = nfc (mapper_reading records uts46 Replaced);
}

-- Map and Normalize over data
abbrev pub mapping_of : MapperData → Mapping
mapping_of h = record { map = mapped_in h Dropped; validate = mapped_in h Replaced }

-- a mapper over these data makes this of every text
pub record Maps (h : MapperData) (m : Mapping) : Type 0 where
  pub same_map : (x : List ℕ) → (mapping_of h).map x ≡ m.map x
  pub same_validate : (x : List ℕ) → (mapping_of h).validate x ≡ m.validate x
