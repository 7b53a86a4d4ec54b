-- What packed data read to: the reading of their words undoes their packing.
use Rattle.std.specs.Prelude.{◌≡◌, ℕ, ◌<◌, Bool, true, false, ◌&&◌, ◌||◌, nat_lt, List, [], ◌∷◌, Option, Some, None}
use Rattle.std.specs.Prelude.{unwrap_or, if◌then◌else◌}
use Rattle.std.specs.Char.{IsScalar}
use Rattle.normal_forms.specs.Boundary.{BeginsWithStarter}
use Rattle.normal_forms.specs.Reading.{IsText}
use Rattle.normalizer_tables.specs.declared.word.WordReading.{WordReading}
use Rattle.normalizer_tables.specs.declared.word.WordReading.TheVariants.{Ignored, Itself, ClassForm, SpecialForm}
use Rattle.normalizer_tables.specs.declared.word.WordReading.TheVariants.{TwoCharacters, HangulSyllable, Fdfa}
use Rattle.normalizer_tables.specs.declared.word.WordReading.TheVariants.{OneCharacter, Listed}
use Rattle.normalizer_tables.specs.Characters.{Characters, class_of, has_class_form, list_read, reading_of_word}
use Rattle.normalizer_tables.specs.Data.{Decompositions, Lists, lists_or_none}
use Rattle.normalizer_tables.specs.Hangul.{hangul_decomposition, is_hangul_syllable}
use Rattle.normalizer_tables.specs.SpecialLists.{fdfa_list}
use Rattle.normalizer_packing.specs.declared.Packed.{Packed}
use Rattle.normalizer_tables.specs.declared.entry.Kind.{Kind}
use Rattle.normalizer_tables.specs.declared.entry.Kind.TheVariants.{Canonical, Compatibility, Mapper}
use Rattle.normalizer_tables.specs.Entries.{EntryValue, class_in, reading_of_entries, kept_list, list_in}
use Rattle.normalizer_packing.specs.Spelling.{has_fixed_list, list_eq}
use Rattle.normalizer_packing.specs.Stored.{has_marks_after_first}

-- the decomposition data of one kind
abbrev pub decompositions_of : Packed → Kind → Decompositions
decompositions_of p Canonical = p.canonical
decompositions_of p Compatibility = p.compatibility
decompositions_of p Mapper = p.mapper

-- canonical data have no supplementary tables
abbrev pub supplementary_of : Packed → Kind → Option Lists
supplementary_of p Canonical = None
supplementary_of p Compatibility = Some p.supplementary_tables
supplementary_of p Mapper = Some p.supplementary_tables

-- the kind is the mapper's
abbrev pub is_mappers : Kind → Bool
is_mappers Canonical = false
is_mappers Compatibility = false
is_mappers Mapper = true

-- what the data of one kind say of characters
abbrev pub characters_of : Packed → Kind → Characters
characters_of p kind = record {
  decompositions = decompositions_of p kind;
  tables = p.tables;
  supplementary = lists_or_none (supplementary_of p kind);
  is_mapper = is_mappers kind;
}

-- the list that data of one kind have of a character: that of a Hangul syllable by arithmetic, else what the entries
-- say; none if the character is ignored
unfoldable pub list_by : Kind → List EntryValue → ℕ → Option (List ℕ)
list_by kind entries n = if is_hangul_syllable n then Some (hangul_decomposition n) else list_in kind entries n

-- the list of the character is its fixed one, or itself alone: then its word has room for its class
unfoldable pub tells_class : Kind → List EntryValue → ℕ → Bool
tells_class kind entries n =
    has_fixed_list (class_in entries) n (kept_list kind entries n) || list_eq (kept_list kind entries n) (n ∷ [])

-- the class that data of one kind have of a character: 0 if its word has no room for it
unfoldable pub class_by : Kind → List EntryValue → ℕ → ℕ
class_by kind entries n = if tells_class kind entries n then class_in entries n else 0

-- the word has room for a class: that of a fixed list, or of a mark that decomposes to itself
unfoldable pub has_class_word : Kind → List EntryValue → ℕ → Bool
has_class_word kind entries n =
    has_fixed_list (class_in entries) n (kept_list kind entries n)
    || (list_eq (kept_list kind entries n) (n ∷ []) && nat_lt 0 (class_in entries n))

-- entries whose words can be read again
pub record AreReadable (kind : Kind) (entries : List EntryValue) : Type 0 where
  -- a class has 8 bits
  pub classes : (n : ℕ) → class_in entries n < 0x100
  -- Hangul syllables are starters, and U+FFFD is one that decomposes to itself
  pub hangul : (n : ℕ) → is_hangul_syllable n ≡ true → class_in entries n ≡ 0
  pub replacement : (list_in kind entries 0xFFFD ≡ Some (0xFFFD ∷ [])) × (class_in entries 0xFFFD ≡ 0)
  -- lists of scalar values are of scalar values, and no other character decomposes to U+0000
  pub text : (n : ℕ) → IsScalar n → IsText (kept_list kind entries n)
  pub zero : (n : ℕ) → IsScalar n → kept_list kind entries n ≡ 0 ∷ [] → n ≡ 0
  -- the list of a character begins with a starter, if it is neither the character alone nor its fixed one
  pub first : (n : ℕ) → IsScalar n → tells_class kind entries n ≡ false →
      BeginsWithStarter (reading_of_entries entries []) (kept_list kind entries n)

-- what the reading of n's word says is so
unfoldable pub IsTrueReading : Kind → List EntryValue → ℕ → WordReading → Type 0
IsTrueReading kind entries n Ignored = list_in kind entries n ≡ None
IsTrueReading kind entries n Itself = (kept_list kind entries n ≡ n ∷ []) × (class_in entries n ≡ 0)
IsTrueReading kind entries n (ClassForm k) = (kept_list kind entries n ≡ n ∷ []) × (class_in entries n ≡ k) × (0 < k)
IsTrueReading kind entries n (SpecialForm k) =
    (has_fixed_list (class_in entries) n (kept_list kind entries n) ≡ true) × (class_in entries n ≡ k)
IsTrueReading kind entries n (TwoCharacters a b) = (kept_list kind entries n ≡ a ∷ b ∷ []) × (0 < class_in entries b)
IsTrueReading kind entries n HangulSyllable = is_hangul_syllable n ≡ true
IsTrueReading kind entries n Fdfa = kept_list kind entries n ≡ fdfa_list
IsTrueReading kind entries n (OneCharacter a) = kept_list kind entries n ≡ a ∷ []
IsTrueReading kind entries n (Listed item low rest_are_marks) =
    rest_are_marks ≡ has_marks_after_first (class_in entries) (kept_list kind entries n)

-- what packed data read to
pub record ReadsBack (kind : Kind) (entries : List EntryValue) (s : Characters) : Type 0 where
  -- the list of each character, `ignored` if the mapper ignores it
  pub lists : (ignored : List ℕ) (n : ℕ) → IsScalar n →
      list_read s ignored n ≡ Some (unwrap_or (list_by kind entries n) ignored)
  -- its class, if its word has room for it, and whether its word has a class form
  pub classes : (n : ℕ) → IsScalar n → class_of s n ≡ class_by kind entries n
  pub class_forms : (n : ℕ) → IsScalar n → has_class_form s n ≡ has_class_word kind entries n
  -- what its word says besides: the very members, and promises of classes
  pub words : (n : ℕ) → IsScalar n → IsTrueReading kind entries n (reading_of_word s n)
