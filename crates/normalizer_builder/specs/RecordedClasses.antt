-- The classes that the mapper's data have room for.
use Rattle.std.specs.Prelude.{ℕ, ◌||◌, List, [], ◌∷◌, unwrap_or, if◌then◌else◌}
use Rattle.normalizer_packing.specs.Spelling.{has_fixed_list, list_eq}
use Rattle.normalizer_records.specs.RecordValue.{RecordValue, Uts46RecordValue}
use Rattle.normalizer_records.specs.Meaning.{class_of, mapper_list}

-- the class that the mapper's data have of a character: 0 if its list is neither its fixed one nor itself alone, since
-- its word has then no room for a class
unfoldable pub mapper_class_of : List RecordValue → List Uts46RecordValue → ℕ → ℕ
mapper_class_of records uts46 n =
    let list = unwrap_or (mapper_list records uts46 n) [] in
    if has_fixed_list (class_of records) n list || list_eq list (n ∷ []) then class_of records n else 0
