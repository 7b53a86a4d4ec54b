-- What a mapper makes of texts (UTS #46, section 4).
use Rattle.std.specs.Prelude.{◌==◌, ◌&&◌, not, ℕ, Bool, List, bytes_eq, unwrap_or}
use Rattle.std.specs.List.{list_any}
use Rattle.normal_forms.specs.Forms.{nfc}
use Rattle.normal_forms.specs.Reading.{Reading}
use Rattle.normalizer_tables.specs.declared.characters.IgnoredCharacters.{IgnoredCharacters}
use Rattle.normalizer_tables.specs.declared.characters.IgnoredCharacters.TheVariants.{Replaced}
use Rattle.normalizer_tables.specs.Ignored.{ignored_list}
use Rattle.normalizer_tables.specs.Pairs.{pair_of}
use Rattle.normalizer_tables.specs.Readings.{reading_by}
use Rattle.normalizer_records.specs.RecordValue.{RecordValue, Uts46RecordValue}
use Rattle.normalizer_records.specs.Meaning.{mapper_list, pairs_of}
use Rattle.normalizer_builder.specs.RecordedClasses.{mapper_class_of}
use Rattle.icu_normalizer.specs.Uts46.{MapperData}

-- the text mapped using data, in NFC: ignored characters are dropped, for mapping, or read as U+FFFD, for validation
abbrev pub mapped_in : MapperData → IgnoredCharacters → List ℕ → List ℕ
mapped_in h ignored x = nfc (reading_by h.0 ignored h.1) x

-- validation by this function leaves the text as it is, and the text has no U+FFFD (bytes_eq decides of any two lists of
-- numbers whether they are the same)
abbrev pub is_valid_by : (List ℕ → List ℕ) → List ℕ → Bool
is_valid_by validated x = not (list_any (λ c. c == 0xFFFD) x) && bytes_eq (validated x) x

-- the same of what a mapper validates
abbrev pub is_valid : MapperData → List ℕ → Bool
is_valid h x = is_valid_by (mapped_in h Replaced) x

-- what records mean to a mapper: the lists, the classes and the pairs
abbrev pub mapper_reading : List RecordValue → List Uts46RecordValue → IgnoredCharacters → Reading
mapper_reading records uts46 ignored = record {
  list = λ c. unwrap_or (mapper_list records uts46 c) (ignored_list ignored);
  class = mapper_class_of records uts46;
  pair = pair_of (pairs_of records);
}
