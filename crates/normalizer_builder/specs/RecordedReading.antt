-- What records mean, in the words of the normal forms.
use Rattle.std.specs.Prelude.{List}
use Rattle.normal_forms.specs.Reading.{Reading}
use Rattle.normalizer_tables.specs.Pairs.{pair_of}
use Rattle.normalizer_records.specs.declared.records.Mappings.{Mappings}
use Rattle.normalizer_records.specs.RecordValue.{RecordValue}
use Rattle.normalizer_records.specs.Meaning.{class_of, full_list, pairs_of}

-- full decompositions by canonical mappings or by all (D65, D68), classes (D104), and primary composites, Hangul ones
-- included (D114)
abbrev pub recorded_reading : List RecordValue → Mappings → Reading
recorded_reading records mappings =
    record { list = full_list records mappings; class = class_of records; pair = pair_of (pairs_of records) }
