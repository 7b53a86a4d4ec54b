-- The lists of characters of which nothing is recorded show no fault.
use Rattle.std.proofs.Common.{◌≡◌, ℕ, ◌<◌, ◌≤◌, ◌⊎◌, ◌==◌, true, false, List, [], ◌∷◌, length, map, refl, None, Some}
use Rattle.std.proofs.Common.{inl, inr, sym, ap, subst, ◌∙◌, arith, Contains, find, nat_lt, flat_map}
use Rattle.std.specs.Option.{option_map_or}
use Rattle.std.proofs.lemmas.Bool.{or_parts, true≢false}
use Rattle.std.proofs.lemmas.Bool.Decides.{nat_tests}
use Rattle.std.proofs.lemmas.List.{get_or-map, length-map}
use Rattle.std.proofs.lemmas.List.Folds.{list_any_at}
use Rattle.normal_forms.proofs.ordering.OrderLemmas.{length-order}
use Rattle.normalizer_tables.specs.Hangul.{is_hangul_syllable, hangul_decomposition}
use Rattle.normalizer_records.specs.declared.records.Mappings.{Mappings}
use Rattle.normalizer_records.specs.declared.records.Mappings.TheVariants.{Canonical, All as AllMappings}
use Rattle.normalizer_records.specs.RecordValue.{RecordValue, IsIgnored, Uts46RecordValue}
use Rattle.normalizer_records.specs.Meaning.{canonical_list, entry_of, class_of, replacement, expansion, full_list, recorded_classes, status_of, mapper_list, mapped_list, levels}
use Rattle.normalizer_records.specs.inner.Lookup.{no_entry}
use Rattle.normalizer_records.specs.Faults.{is_fixed, has_fixed_fault, begins_with_mark, HasWrongOwnClass, HasLongOwnList}
use Rattle.normalizer_records.proofs.checked_lists.ChecksOfCuts.{begins-order}
use Rattle.normalizer_records.proofs.replacing.ExpansionLemmas.{expansion-alone, expansion-replaced}
use Rattle.normalizer_records.proofs.record_faults.LookupLemmas.{stands_or_none}
use Rattle.normalizer_tables.proofs.syllables.SyllableJamo.{by_jamo, jamo_some}
use Rattle.normalizer_records.proofs.checked_lists.JamoOfSyllables.{replacement-syllable}

-- a character is among those of the elements, or is not found
contains_or_none : {X : Type 0} (key : X → ℕ) → X → (xs : List X) (c : ℕ) → Contains (map key xs) c ⊎ (find (λ r. key r == c) xs ≡ None)
contains_or_none key any xs c = elim (stands_or_none key xs c) [
  | inl at ↦ let inside = at.1.within in inl (at.0, omega (arith, length-map xs key), get_or-map key xs at.0 any c inside ∙ at.1.there any)
  | inr none ↦ inr none
]

pub jamo_fixed : (c : ℕ) → 0x1100 ≤ c → c ≤ 0x11FF → is_fixed c ≡ true
unfolding is_fixed
jamo_fixed c low high = grind (arith, nat_tests)

low_no_syllable : (c : ℕ) → c < 0xAC00 → is_hangul_syllable c ≡ false
unfolding is_hangul_syllable
low_no_syllable c low = grind (arith, nat_tests)

module _ (records : List RecordValue) (uts46 : List Uts46RecordValue) (fixed : has_fixed_fault records uts46 ≡ false) where
  unrecorded_jamo : (c : ℕ) → 0x1100 ≤ c → c ≤ 0x11FF → entry_of records c ≡ None
  unfolding entry_of has_fixed_fault
  unrecorded_jamo c low high = elim (stands_or_none (λ (r : RecordValue). r.c) records c) [
    | inl at ↦
        let bad = list_any_at (λ (r : RecordValue). is_fixed r.c) records at.0 no_entry at.1.within (ap is_fixed (at.1.there no_entry) ∙ jamo_fixed c low high) in
        absurd (true≢false (sym bad ∙ (or_parts _ _ fixed).0))
    | inr none ↦ none
  ]

  class_of-unrecorded : (c : ℕ) → entry_of records c ≡ None → class_of records c ≡ 0
  unfolding class_of
  class_of-unrecorded c h = ap (λ o. option_map_or (λ r. r.class) o 0) h

  module _ (mappings : Mappings) where
    replacement-unrecorded : (c : ℕ) → is_hangul_syllable c ≡ false → entry_of records c ≡ None → replacement records mappings c ≡ []
    unfolding replacement
    replacement-unrecorded c low h = rw (low, h) refl

    pub jamo_stays : (c : ℕ) → 0x1100 ≤ c → c ≤ 0x11FF → replacement records mappings c ≡ []
    jamo_stays c low high = replacement-unrecorded c (low_no_syllable c (omega arith)) (unrecorded_jamo c low high)

    pub jamo_alone : (n c : ℕ) → 0x1100 ≤ c → c ≤ 0x11FF → expansion records mappings n c ≡ c ∷ []
    jamo_alone n c low high = expansion-alone records mappings n c (jamo_stays c low high)

    -- what begins with a starter and has at most three members
    abbrev IsBare : List ℕ → Type 0
    IsBare x = (begins_with_mark records x ≡ false) × (length x ≤ 3)

    starter : (c : ℕ) → entry_of records c ≡ None → nat_lt 0 (class_of records c) ≡ false
    starter c h = let none = class_of-unrecorded c h in grind (arith, nat_tests)

    IsBare-jamo : (n c : ℕ) → is_hangul_syllable c ≡ true → IsBare (flat_map (expansion records mappings n) (hangul_decomposition c))
    IsBare-jamo n c h = by_jamo (λ x. IsBare (flat_map (expansion records mappings n) x)) c h
        (λ l v first second. rw (jamo_alone n l first.0 first.1, jamo_alone n v second.0 second.1) (starter l (unrecorded_jamo l first.0 first.1), omega arith))
        (λ l v t first second third. rw (jamo_alone n l first.0 first.1, jamo_alone n v second.0 second.1, jamo_alone n t third.0 third.1)
        (starter l (unrecorded_jamo l first.0 first.1), omega arith))

    IsBare-expansion : (c : ℕ) → entry_of records c ≡ None → IsBare (expansion records mappings levels c)
    IsBare-expansion c h = elim (is_hangul_syllable c) as (λ b. is_hangul_syllable c ≡ b → IsBare (expansion records mappings levels c)) [
      | true ↦ λ syllable.
          let same : replacement records mappings c ≡ hangul_decomposition c = replacement-syllable records mappings c syllable in
          let e : expansion records mappings 17 c ≡ flat_map (expansion records mappings 16) (hangul_decomposition c) =
          expansion-replaced records mappings 16 c (λ none. jamo_some c syllable (sym same ∙ none))
          ∙ ap (flat_map (expansion records mappings 16)) same in
          subst IsBare (sym e) (IsBare-jamo 16 c syllable)
      | false ↦ λ other. subst IsBare (sym (expansion-alone records mappings 17 c (replacement-unrecorded c other h))) (starter c h, omega arith)
    ] refl

    full_list-bare : (c : ℕ) → entry_of records c ≡ None → IsBare (full_list records mappings c)
    unfolding full_list
    full_list-bare c h =
        let same = length-order (recorded_classes records) (expansion records mappings levels c) in
        let bare = IsBare-expansion c h in
        let few = bare.1 in
        (begins-order records (expansion records mappings levels c) ∙ bare.0, omega arith)

  -- what the character's own class and lists show is shown by a record
  pub HasWrongOwnClass-recorded : (c : ℕ) → HasWrongOwnClass records c → Contains (map (λ (r : RecordValue). r.c) records) c
  unfolding HasWrongOwnClass entry_of
  HasWrongOwnClass-recorded c wrong = elim (contains_or_none (λ (r : RecordValue). r.c) no_entry records c) [
    | inl there ↦ there
    | inr none ↦ absurd (grind (arith, nat_tests, class_of-unrecorded c none, (full_list-bare Canonical c none).0, (full_list-bare AllMappings c none).0))
  ]

  pub HasLongOwnList-recorded : (c : ℕ) → HasLongOwnList records c → Contains (map (λ (r : RecordValue). r.c) records) c
  unfolding HasLongOwnList entry_of
  HasLongOwnList-recorded c long = elim (contains_or_none (λ (r : RecordValue). r.c) no_entry records c) [
    | inl there ↦ there
    | inr none ↦ absurd (grind (arith, nat_tests, (full_list-bare Canonical c none).1, (full_list-bare AllMappings c none).1))
  ]

  -- what the mapper's list shows is shown by a record of the mapper, or by the canonical list
  pub mapper_recorded : (c : ℕ) → Contains (map (λ (r : Uts46RecordValue). r.c) uts46) c ⊎ (mapper_list records uts46 c ≡ Some (canonical_list records c))
  unfolding mapper_list mapped_list status_of
  mapper_recorded c = elim (contains_or_none (λ (r : Uts46RecordValue). r.c) (record { c = 0; status = IsIgnored }) uts46 c) [
    | inl there ↦ inl there
    | inr none ↦ inr (rw none refl)
  ]
