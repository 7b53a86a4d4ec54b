-- What records mean: the classes, the full decompositions (The Unicode Standard, D68) and the pairs.
use Rattle.std.specs.Prelude.{◌≡◌, ◌≢◌, ℕ, ◌+◌, zero, suc, not, ◌&&◌, ◌==◌, List, [], ◌∷◌, ◌++◌, find, flat_map}
use Rattle.std.specs.Prelude.{filter_map, Option, Some, None, is_some, if◌then◌else◌}
use Rattle.std.specs.Option.{option_map_or, option_map}
use Rattle.normal_forms.specs.Reading.{Reading}
use Rattle.normal_forms.specs.Order.{order}
use Rattle.normalizer_tables.specs.Hangul.{is_hangul_syllable, hangul_decomposition}
use Rattle.normalizer_tables.specs.Pairs.{Pair}
use Rattle.normalizer_tables.specs.SpecialLists.{fixed_list_of}
use Rattle.normalizer_records.specs.declared.records.Mappings.{Mappings}
use Rattle.normalizer_records.specs.declared.records.Mappings.TheVariants.{Canonical, All as AllMappings}
use Rattle.normalizer_records.specs.RecordValue.{RecordValue, Status, MapsTo, IsIgnored, IsDisallowed, Uts46RecordValue}

-- the record of a character
unfoldable pub entry_of : List RecordValue → ℕ → Option RecordValue
entry_of records c = find (λ r. r.c == c) records

-- the recorded class, 0 without a record
unfoldable pub class_of : List RecordValue → ℕ → ℕ
class_of records c = option_map_or (λ r. r.class) (entry_of records c) 0

-- the recorded mapping, empty without one
unfoldable pub mapping_of : List RecordValue → ℕ → List ℕ
mapping_of records c = option_map_or (λ r. r.mapping) (entry_of records c) []

-- the mapping of a record, if it is one of these; else none
abbrev pub mapping_among : Mappings → RecordValue → List ℕ
mapping_among Canonical r = if r.compatibility then [] else r.mapping
mapping_among AllMappings r = r.mapping

-- the recorded canonical mapping, empty without one
unfoldable pub canonical_mapping_of : List RecordValue → ℕ → List ℕ
canonical_mapping_of records c = option_map_or (mapping_among Canonical) (entry_of records c) []

-- what a character is replaced by: the jamo of a Hangul syllable, by arithmetic, else what is recorded, else nothing
unfoldable pub replacement : List RecordValue → Mappings → ℕ → List ℕ
replacement records mappings c =
    if is_hangul_syllable c then hangul_decomposition c
    else option_map_or (mapping_among mappings) (entry_of records c) []

-- x becomes y if its characters are replaced until nothing changes
pub data ExpandsTo (records : List RecordValue) (mappings : Mappings) : List ℕ → List ℕ → Type 0 where
  done : ExpandsTo records mappings [] []
  stays : {x y : List ℕ} (c : ℕ) → replacement records mappings c ≡ [] → ExpandsTo records mappings x y →
      ExpandsTo records mappings (c ∷ x) (c ∷ y)
  replaced : {x y : List ℕ} (c : ℕ) → replacement records mappings c ≢ [] →
      ExpandsTo records mappings (replacement records mappings c ++ x) y → ExpandsTo records mappings (c ∷ x) y

-- what replaces a character, each member by its own list; the character itself if nothing does
unfoldable pub replace_by : (ℕ → List ℕ) → List ℕ → ℕ → List ℕ
replace_by list_of [] c = c ∷ []
replace_by list_of (m ∷ members) c = flat_map list_of (m ∷ members)

-- a character replaced, and what comes of it, this many levels deep
unfoldable pub expansion : List RecordValue → Mappings → ℕ → ℕ → List ℕ
expansion records mappings zero c = c ∷ []
expansion records mappings (suc n) c = replace_by (expansion records mappings n) (replacement records mappings c) c

-- how many records may lead from one to the next
abbrev pub chain_limit : ℕ
chain_limit = 16

-- deep enough if no more records lead from one to the next: one level for each, and one for Hangul
abbrev pub levels : ℕ
levels = chain_limit + 1

-- the characters of a text replaced
unfoldable pub expand_all : List RecordValue → Mappings → List ℕ → List ℕ
expand_all records mappings x = flat_map (expansion records mappings levels) x

-- the recorded classes, by which lists are ordered
abbrev pub recorded_classes : List RecordValue → Reading
recorded_classes records = record { list = λ c. c ∷ []; class = class_of records; pair = λ a b. None }

-- the full decomposition of a character: replaced until nothing changes, then put in canonical order
unfoldable pub full_list : List RecordValue → Mappings → ℕ → List ℕ
full_list records mappings c = order (recorded_classes records) (expansion records mappings levels c)

-- the full canonical decomposition (D68)
abbrev pub canonical_list : List RecordValue → ℕ → List ℕ
canonical_list records c = full_list records Canonical c

-- the full compatibility decomposition (D65)
abbrev pub compatibility_list : List RecordValue → ℕ → List ℕ
compatibility_list records c = full_list records AllMappings c

-- what the mapper does with a character, if that is recorded
unfoldable pub status_of : List Uts46RecordValue → ℕ → Option Status
status_of uts46 c = option_map (λ r. r.status) (find (λ r. r.c == c) uts46)

-- the list of what the mapper maps a character to: none if it ignores the character, U+FFFD if it disallows it
unfoldable pub list_of_status : List RecordValue → Status → Option (List ℕ)
list_of_status records IsIgnored = None
list_of_status records IsDisallowed = Some (0xFFFD ∷ [])
list_of_status records (MapsTo mapping) = Some (order (recorded_classes records) (expand_all records Canonical mapping))

-- the canonical list if nothing is recorded for the mapper
unfoldable pub mapped_list : List RecordValue → ℕ → Option Status → Option (List ℕ)
mapped_list records c None = Some (canonical_list records c)
mapped_list records c (Some status) = list_of_status records status

-- the list that the mapper maps a character to: none if it ignores the character (UTS #46, section 4)
unfoldable pub mapper_list : List RecordValue → List Uts46RecordValue → ℕ → Option (List ℕ)
mapper_list records uts46 c = mapped_list records c (status_of uts46 c)

-- the pair of a canonical mapping of two characters: second, first, and what they compose to
abbrev pub pair_of_mapping : ℕ → List ℕ → Option Pair
pair_of_mapping c (first ∷ second ∷ []) = Some (second, first, c)
pair_of_mapping c _ = None

-- the pair of a record, unless it is excluded or its character has a fixed list
unfoldable pub pair_of_record : RecordValue → Option Pair
pair_of_record r =
    if not r.compatibility && not r.excluded && not (is_some (fixed_list_of r.c)) then pair_of_mapping r.c r.mapping
    else None

-- the pairs of all records: the primary composites (D114)
unfoldable pub pairs_of : List RecordValue → List Pair
pairs_of records = filter_map pair_of_record records
