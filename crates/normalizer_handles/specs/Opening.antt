-- What a handle is opened by, and why it isn't.
use Rattle.std.specs.Prelude.{◌≡◌, ◌≢◌, ◌⊎◌, ℕ, List, [], ◌∷◌, ⊤, Option, Some, Result, Ok, Err, unwrap_or}
use Rattle.std.specs.Option.{option_and_then, option_map}
use Rattle.icu_normalizer.specs.BuildError.TheVariants as errors
use Rattle.icu_normalizer.specs.Building.{IsSmallest}
use Rattle.icu_normalizer.specs.RecordValue.{RecordValue, Uts46RecordValue}
use Rattle.icu_normalizer.specs.AtFault.{IsFirstAtFault}
use Rattle.icu_normalizer.specs.RecordAtFault.{RecordAtFault}
use Rattle.normalizer_ucd.specs.declared.error.LineFault.{LineFault}
use Rattle.normalizer_ucd.specs.declared.error.Place.{Place}
use Rattle.normalizer_ucd.specs.declared.idna_table.Disallowed.TheVariants.{RangesUpTo}
use Rattle.normalizer_ucd.specs.IdnaTable.{uts46_records_beside}
use Rattle.normalizer_ucd.specs.RecordPlaces.{place_of_record}
use Rattle.normalizer_ucd.specs.UnicodeData.{records_of}
use Rattle.normalizer_ucd.specs.Versions.{stated_version}
use Rattle.normalizer_handles.specs.declared.fault.Fault.{Fault}
use Rattle.normalizer_handles.specs.declared.fault.Fault.TheVariants.{Memory, Line, Records}
use Rattle.normalizer_handles.specs.declared.fault.RecordsFault.{RecordsFault}
use Rattle.normalizer_handles.specs.declared.normalizers.Normalizers.{Normalizers}
use Rattle.normalizer_handles.specs.Made.{MakeBy, MapBy}
use Rattle.normalizer_handles.specs.Properties.{TellBy}

-- what was returned, through `view`, is what reading yields, unless memory ran out
abbrev pub Reads : {X Y : Type 0} → (X → Y) → Result X Fault → Result Y Fault → Type 0
Reads view (Ok x) read = read ≡ Ok (view x)
Reads view (Err fault) read = (fault ≡ Memory) ⊎ (read ≡ Err fault)

-- the records of characters and those of the mapper, or why the data have none
abbrev pub Source : Type 0
Source = Result (List RecordValue × List Uts46RecordValue) Fault

-- what lines say, or the first that is wrong
abbrev pub of_lines : {X : Type 0} → Result X LineFault → Result X Fault
of_lines (Ok x) = Ok x
of_lines (Err fault) = Err (Line fault)

-- both, or why there isn't the first, or else the second
abbrev pub both : Result (List RecordValue) Fault → Result (List Uts46RecordValue) Fault → Source
both (Err fault) mapper = Err fault
both (Ok records) (Err fault) = Err fault
both (Ok records) (Ok mapper) = Ok (records, mapper)

-- what the bytes of UnicodeData.txt and CompositionExclusions.txt say
abbrev pub of_unicode_data : (unicode_data exclusions : List ℕ) → Result (List RecordValue) Fault
of_unicode_data unicode_data exclusions = of_lines (records_of unicode_data exclusions)

-- what the bytes of IdnaMappingTable.txt say, without disallowed ranges of more than so many code points, if the file
-- is of the version of the exclusions. No bytes are no table, and say nothing.
abbrev pub of_idna_table : (exclusions table : List ℕ) → (limit : ℕ) → Result (List Uts46RecordValue) Fault
of_idna_table exclusions [] limit = Ok []
of_idna_table exclusions (b ∷ table) limit =
    of_lines (uts46_records_beside exclusions (RangesUpTo limit) (b ∷ table))

-- what the bytes of the three files say
abbrev pub of_files : (unicode_data exclusions table : List ℕ) → (limit : ℕ) → Source
of_files unicode_data exclusions table limit =
    both (of_unicode_data unicode_data exclusions) (of_idna_table exclusions table limit)

-- the version of Unicode that exclusions state, or 0.0.0
abbrev pub version_of : (exclusions : List ℕ) → ℕ × ℕ × ℕ
version_of exclusions = unwrap_or (option_map (λ v. (v.major, v.minor, v.update)) (stated_version exclusions)) (0, 0, 0)

-- the line of a file that states a record
abbrev pub Places : Type 0
Places = RecordAtFault → Option Place

-- records aren't built because of the error, this is the first record at fault, if a single one is, and its place
abbrev pub IsRecordsFault : Places → List RecordValue → List Uts46RecordValue → RecordsFault → Type 0
IsRecordsFault places records mapper f =
    (f.error ≢ errors.Memory) × IsSmallest records mapper f.error × IsFirstAtFault records mapper f.error f.at_fault
    × (f.place ≡ option_and_then places f.at_fault)

-- why records aren't built
abbrev pub IsBuildFault : Places → List RecordValue → List Uts46RecordValue → Fault → Type 0
IsBuildFault places records mapper Memory = ⊤
IsBuildFault places records mapper (Records f) = IsRecordsFault places records mapper f
IsBuildFault places records mapper fault = ⊥

-- why nothing is opened by a source: its own fault, or that of building, or memory ran out
abbrev pub IsFaultOf : Places → Source → Fault → Type 0
IsFaultOf places (Ok source) fault = IsBuildFault places source.0 source.1 fault
IsFaultOf places (Err own) fault = (fault ≡ Memory) ⊎ (fault ≡ own)

-- the normalizers make the forms by what the records mean, map by them if there are some of the mapper, tell their
-- properties, and state the version
pub record AreBy (records : List RecordValue) (mapper : List Uts46RecordValue) (version : ℕ × ℕ × ℕ) (n : Normalizers)
    : Type 0 where
  pub make : MakeBy n records
  pub map : MapBy n.mapper records mapper
  pub tell : TellBy n.properties records mapper
  pub states : n.version ≡ version

-- the same of the records of a source
abbrev pub AreOf : Source → (version : ℕ × ℕ × ℕ) → Normalizers → Type 0
AreOf (Ok source) version n = AreBy source.0 source.1 version n
AreOf (Err own) version n = ⊥

-- the handle has such normalizers, or what it had before
abbrev pub Holds : (Normalizers → Type 0) → (Fault → Type 0) → (before after : Option Normalizers) → Result ⊤ Fault
    → Type 0
Holds Are IsFault before after (Ok done) = (n : Normalizers) × (after ≡ Some n) × Are n
Holds Are IsFault before after (Err fault) = (after ≡ before) × IsFault fault

-- the handle has normalizers by a source, or what it had before
abbrev pub HoldsBy : Places → (version : ℕ × ℕ × ℕ) → Source → (before after : Option Normalizers) → Result ⊤ Fault
    → Type 0
HoldsBy places version source before after outcome =
    Holds (AreOf source version) (IsFaultOf places source) before after outcome

-- the handle has normalizers by the three files, or what it had before
abbrev pub Opens : (unicode_data exclusions table : List ℕ) → (limit : ℕ) → (before after : Option Normalizers)
    → Result ⊤ Fault → Type 0
Opens unicode_data exclusions table limit before after outcome =
    HoldsBy (place_of_record unicode_data table) (version_of exclusions) (of_files unicode_data exclusions table limit)
    before after outcome
