-- What records without line feeds say of them.
use Rattle.std.proofs.Common.{◌≡◌, ◌⊎◌, ℕ, Bool, true, false, not, ◌&&◌, ◌||◌, ◌==◌, List, [], ◌∷◌, ◌++◌, Option, Some, None, IfSome, is_some, refl, ap, sym, inl, inr}
use mathlib.Core.Bool.{false≢true}
use Rattle.std.specs.List.{cons_option, list_any}
use Rattle.std.specs.Option.{option_map_or}
use Rattle.std.specs.Prelude.{if◌then◌else◌}
use Rattle.normal_forms.specs.Forms.{normal_form}
use Rattle.normal_forms.specs.declared.Form.{Form}
use Rattle.normal_forms.specs.declared.Form.TheVariants.{Decomposing, Composing}
use Rattle.normal_forms.specs.Hypotheses.{SuitsForm}
use Rattle.normal_forms.specs.Order.{order, insert}
use Rattle.normalizer_tables.specs.Hangul.{is_hangul_syllable}
use Rattle.normalizer_tables.specs.HangulComposition.{compose_hangul, is_leading_consonant, is_lv_syllable}
use Rattle.normalizer_tables.specs.Pairs.{Pair, is_of, listed_result, pair_of, is_vowel_or_trailing_jamo}
use Rattle.normalizer_tables.specs.SpecialLists.{fixed_list_of}
use Rattle.normalizer_records.specs.Meaning.{entry_of, class_of, replacement, replace_by, expansion, mapping_among, recorded_classes, full_list, pair_of_mapping, pair_of_record, pairs_of}
use Rattle.normalizer_records.specs.RecordValue.{RecordValue}
use Rattle.normalizer_records.specs.declared.records.Mappings.{Mappings}
use Rattle.normalizer_records.specs.declared.records.Mappings.TheVariants.{Canonical, All}
use Rattle.normalizer_builder.specs.RecordedReading.{recorded_reading}
use Rattle.icu_normalizer.specs.Parts.{is_without_line_feed, has_no_line_feed}
use Rattle.icu_normalizer.specs.RecordedForms.{recorded_form}
use Rattle.icu_normalizer.specs.declared.any_normalizer.NormalForm.{NormalForm}
use Rattle.icu_normalizer.specs.declared.any_normalizer.NormalForm.TheVariants.{Nfd, Nfc, Nfkd, Nfkc}
use Rattle.icu_normalizer.proofs.divided_texts.PartLemmas.{form-after}

both : (a b : Bool) → (a && b) ≡ true → (a ≡ true) × (b ≡ true)
both true b h = (refl, h)
both false b h = absurd (false≢true h)

is_false : (a : Bool) → not a ≡ true → a ≡ false
is_false true h = absurd (false≢true h)
is_false false h = refl

either_false : (a b : Bool) → (a ≡ false) ⊎ (b ≡ false) → (a && b) ≡ false
either_false a b (inl h) = rw h refl
either_false true b (inr h) = h
either_false false b (inr h) = refl

neither : (a b : Bool) → (a || b) ≡ false → (a ≡ false) × (b ≡ false)
neither true b h = absurd (false≢true (sym h))
neither false b h = (refl, h)

-- a line feed has no record
entry_of-none : (records : List RecordValue) → has_no_line_feed records ≡ true → entry_of records 0x0A ≡ None
unfolding entry_of
entry_of-none [] h = refl
entry_of-none (r ∷ rs) h =
    let parts = both (is_without_line_feed r) (has_no_line_feed rs) h in
    let other = is_false (r.c == 0x0A) (both (not (r.c == 0x0A)) (not (list_any (λ m. m == 0x0A) r.mapping)) parts.0).0 in
    rw other (entry_of-none rs parts.1)

-- so it is a starter
line_feed-starter : (records : List RecordValue) → has_no_line_feed records ≡ true → class_of records 0x0A ≡ 0
unfolding class_of
line_feed-starter records h = ap (λ o. option_map_or (λ r. r.class) o 0) (entry_of-none records h)

-- and its own list
line_feed-own : (records : List RecordValue) (mappings : Mappings) → has_no_line_feed records ≡ true
    → full_list records mappings 0x0A ≡ 0x0A ∷ []
unfolding full_list expansion replace_by replacement is_hangul_syllable order insert
line_feed-own records mappings h =
    ap (λ o. order (recorded_classes records) (replace_by (expansion records mappings 16) (option_map_or (mapping_among mappings) o []) 0x0A))
    (entry_of-none records h)

module _ (first second : ℕ) (touches : (first ≡ 0x0A) ⊎ (second ≡ 0x0A)) where
  abbrev IsOther : Pair → Type 0
  IsOther p = is_of p first second ≡ false

  of_mapping : (c : ℕ) (mapping : List ℕ) → list_any (λ m. m == 0x0A) mapping ≡ false → IfSome (pair_of_mapping c mapping) IsOther
  unfolding is_of
  of_mapping c [] h = tt
  of_mapping c (a ∷ []) h = tt
  of_mapping c (a ∷ (b ∷ [])) h =
      let parts = neither (a == 0x0A) ((b == 0x0A) || false) h in
      let last = neither (b == 0x0A) false parts.1 in
      either_false (b == second) (a == first) (elim touches [ inl e ↦ inr (rw e parts.0) | inr e ↦ inl (rw e last.0) ])
  of_mapping c (a ∷ (b ∷ (x ∷ xs))) h = tt

  of_choice : (b : Bool) (o : Option Pair) → IfSome o IsOther → IfSome (if b then o else None) IsOther
  of_choice true o h = h
  of_choice false o h = tt

  found : (o : Option Pair) (pairs : List Pair) → IfSome o IsOther → listed_result pairs first second ≡ None
      → listed_result (cons_option o pairs) first second ≡ None
  unfolding listed_result
  found None pairs h none = none
  found (Some p) pairs h none = rw h none

  listed-none : (records : List RecordValue) → has_no_line_feed records ≡ true → listed_result (pairs_of records) first second ≡ None
  unfolding pairs_of pair_of_record listed_result
  listed-none [] h = refl
  listed-none (r ∷ rs) h =
      let parts = both (is_without_line_feed r) (has_no_line_feed rs) h in
      let none = is_false (list_any (λ m. m == 0x0A) r.mapping) (both (not (r.c == 0x0A)) (not (list_any (λ m. m == 0x0A) r.mapping)) parts.0).1 in
      found (pair_of_record r) (pairs_of rs)
      (of_choice ((not r.compatibility && not r.excluded) && not (is_some (fixed_list_of r.c))) (pair_of_mapping r.c r.mapping) (of_mapping r.c r.mapping none))
      (listed-none rs parts.1)

of_pair : (b : Bool) (a c : Option ℕ) → a ≡ None → c ≡ None → (if b then a else c) ≡ None
of_pair true a c x y = x
of_pair false a c x y = y

-- and composes with nothing
line_feed-first : (records : List RecordValue) → has_no_line_feed records ≡ true → (c : ℕ) → pair_of (pairs_of records) 0x0A c ≡ None
unfolding pair_of compose_hangul is_leading_consonant is_lv_syllable is_hangul_syllable
line_feed-first records h c =
    of_pair (is_vowel_or_trailing_jamo c) (compose_hangul 0x0A c) (listed_result (pairs_of records) 0x0A c) refl
    (listed-none 0x0A c (inl refl) records h)

line_feed-second : (records : List RecordValue) → has_no_line_feed records ≡ true → (a : ℕ) → pair_of (pairs_of records) a 0x0A ≡ None
unfolding pair_of is_vowel_or_trailing_jamo
line_feed-second records h a = listed-none a 0x0A (inr refl) records h

module _ (records : List RecordValue) (h : has_no_line_feed records ≡ true)
    (suits : (mappings : Mappings) (form : Form) → SuitsForm (recorded_reading records mappings) form) where
  reading-after : (mappings : Mappings) (form : Form) (x y : List ℕ)
      → normal_form (recorded_reading records mappings) form ((x ++ 0x0A ∷ []) ++ y)
      ≡ normal_form (recorded_reading records mappings) form (x ++ 0x0A ∷ []) ++ normal_form (recorded_reading records mappings) form y
  reading-after mappings form x y =
      form-after (recorded_reading records mappings) 0x0A (line_feed-own records mappings h) (line_feed-starter records h)
      (line_feed-first records h) (line_feed-second records h) form (suits mappings form) x y

  -- a text may be divided after a line feed
  pub recorded_form-after : (form : NormalForm) (x y : List ℕ)
      → recorded_form records form ((x ++ 0x0A ∷ []) ++ y) ≡ recorded_form records form (x ++ 0x0A ∷ []) ++ recorded_form records form y
  recorded_form-after Nfd = reading-after Canonical Decomposing
  recorded_form-after Nfc = reading-after Canonical Composing
  recorded_form-after Nfkd = reading-after All Decomposing
  recorded_form-after Nfkc = reading-after All Composing
