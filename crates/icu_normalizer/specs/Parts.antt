-- Records that leave line feeds alone, and the forms of bytes by records.
use Rattle.std.specs.Prelude.{ℕ, Bool, not, ◌&&◌, ◌==◌, List, encode_utf8_all}
use Rattle.std.specs.List.{list_all, list_any}
use Rattle.normalizer_records.specs.RecordValue.{RecordValue}
use Rattle.normalizer_text.specs.Utf8.{decoded_utf8}
use Rattle.icu_normalizer.specs.RecordedForms.{recorded_form}
use Rattle.icu_normalizer.specs.declared.any_normalizer.NormalForm.{NormalForm}

-- a record that isn't of U+000A and doesn't have it in its mapping
abbrev pub is_without_line_feed : RecordValue → Bool
is_without_line_feed r = not (r.c == 0x0A) && not (list_any (λ m. m == 0x0A) r.mapping)

-- no record is of U+000A or has it in its mapping
abbrev pub has_no_line_feed : List RecordValue → Bool
has_no_line_feed records = list_all is_without_line_feed records

-- the form of what bytes decode to, in UTF-8
abbrev pub encoded_recorded_form : List RecordValue → NormalForm → List ℕ → List ℕ
encoded_recorded_form records form bytes = encode_utf8_all (recorded_form records form (decoded_utf8 bytes))
