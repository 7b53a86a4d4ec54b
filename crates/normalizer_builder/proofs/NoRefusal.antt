-- What records are and mean of which none of their own refusals holds.
use Rattle.std.proofs.Common.{◌≡◌, ◌∙◌, ◌⊎◌, inl, inr, Bool, ℕ, zero, suc, ◌<◌, ◌≤◌, true, false, ◌==◌, List, [], ◌∷◌, length, map, flat_map, find, get_or, All, Option, Some, None, IfSome}
use Rattle.std.proofs.Common.{◌||◌, not, IsSomeAnd, refl, ap, sym, arith, length-append, eqb-true, if◌then◌else◌}
use Rattle.std.specs.Int.{is_in_range}
use Rattle.std.specs.List.{list_any, AllByRecursion}
use Rattle.std.specs.Option.{option_map}
use Rattle.std.proofs.lemmas.Bool.{cond_both, false_from_ne_true, or_parts, true≢false}
use Rattle.std.proofs.lemmas.Bool.Decides.{nat_tests}
use Rattle.std.proofs.lemmas.List.Elements.{All-append, All-contains, All-map}
use Rattle.std.proofs.lemmas.List.Folds.{list_any_at}
use Rattle.std.proofs.lemmas.Option.{same_Some}
use Rattle.normal_forms.specs.Order.{is_reorderable, insert, order}
use Rattle.normal_forms.specs.Reading.{Reading}
use Rattle.normal_forms.proofs.forms.ListLemmas.{AllByRecursion-append}
use Rattle.normal_forms.proofs.ordering.OrderLemmas.{AllByRecursion-order, length-order}
use Rattle.normalizer_tables.specs.Hangul.{is_hangul_syllable, hangul_decomposition}
use Rattle.normalizer_tables.specs.declared.entry.Kind.{Kind}
use Rattle.normalizer_tables.specs.declared.entry.Kind.TheVariants as kind
use Rattle.normalizer_packing.proofs.entry_data.EntryLemmas.{find-tells}
use Rattle.normalizer_records.specs.declared.records.Mappings.{Mappings}
use Rattle.normalizer_records.specs.declared.records.Mappings.TheVariants.{Canonical, All as AllMappings}
use Rattle.normalizer_records.specs.declared.records.BuildError.TheVariants as error
use Rattle.normalizer_records.specs.RecordValue.{RecordValue, Uts46RecordValue, Status, MapsTo, IsIgnored, IsDisallowed}
use Rattle.normalizer_records.specs.Faults.{AreRising, HasFault, HasOrderFault, HasClassFault, HasWrongClass, HasWrongOwnClass, has_fixed_fault, HasLengthFault, HasLongList, HasLongOwnList}
use Rattle.normalizer_records.specs.Faults.{IsFirstRefusal, IsTooLong, IsWrong, has_mapping_fault, has_zero, is_bad_mapping, is_bad_status, is_disallowed, is_fixed}
use Rattle.normalizer_records.specs.Faults.{is_fixed_for_mapper, is_mark}
use Rattle.normalizer_records.specs.Meaning.{canonical_list, class_of, compatibility_list, entry_of, expand_all, expansion, full_list, levels, list_of_status, mapped_list, mapper_list}
use Rattle.normalizer_records.specs.Meaning.{mapping_among, recorded_classes, replace_by, replacement, status_of}
use Rattle.normalizer_records.proofs.replacing.ExpansionLemmas.{expansion-alone, expansion-replaced}
use Rattle.normalizer_records.proofs.record_faults.RefusalLemmas.{unrefused}
use Rattle.normalizer_records.proofs.checked_lists.RoomLemmas.{asked}
use Rattle.normalizer_tables.proofs.syllables.SyllableJamo.{by_jamo, jamo_some}
use Rattle.normalizer_records.proofs.checked_lists.JamoOfSyllables.{replacement-syllable}
use Rattle.normalizer_records.proofs.checked_lists.UnrecordedLemmas.{jamo_alone, jamo_fixed}
use Rattle.normalizer_records.specs.Recorded.{recorded_characters}

-- the list of n in one kind of data, if records don't ignore n
abbrev pub recorded_list : List RecordValue → List Uts46RecordValue → Kind → ℕ → Option (List ℕ)
recorded_list records uts46 kind.Canonical n = Some (canonical_list records n)
recorded_list records uts46 kind.Compatibility n = Some (compatibility_list records n)
recorded_list records uts46 kind.Mapper n = mapper_list records uts46 n

stable : (a b : ℕ) → (¬ (a < b) → ⊥) → a < b
stable a b h = grind arith

-- none passes a test that not any passes
pub none_passes : {X : Type 0} (p : X → Bool) (xs : List X) → list_any p xs ≡ false → All (λ x. p x ≡ false) xs
none_passes p xs h k d within = false_from_ne_true _ (λ e. true≢false (sym (list_any_at p xs k d within e) ∙ h))

-- what is found by its number is of all, or none is found
find-cases : {X : Type 0} (number : X → ℕ) (P : X → Type 0) (xs : List X) (n : ℕ) → All P xs →
    (find (λ x. number x == n) xs ≡ None) ⊎ ((x : X) × (find (λ y. number y == n) xs ≡ Some x) × (number x ≡ n) × P x)
find-cases number P xs n all = elim (find-tells (λ x. number x == n) xs) [
  | inl none ↦ inl none.0
  | inr some ↦ inr (some.0, some.1, eqb-true _ _ some.3, All-contains P xs some.0 all some.2)
]

-- a list has members, and this holds of all of them
pub record IsSound (Q : ℕ → Type 0) (x : List ℕ) : Type 0 where
  pub some : 0 < length x
  pub all : AllByRecursion Q x

-- nothing is required of the character itself for the mapper
abbrev pub asked_mark : List RecordValue → Kind → ℕ → Bool
asked_mark records kind.Mapper n = false
asked_mark records _ n = is_mark records n

-- a list of records: none of its members is U+0000, but in that of U+0000 itself
pub record IsGiven (records : List RecordValue) (k : Kind) (n : ℕ) (x : List ℕ) : Type 0 where
  pub sound : IsSound (λ m. 0 < n → 0 < m) x
  pub short : ¬ IsTooLong x
  pub right : ¬ IsWrong records n (asked_mark records k n) x

-- what holds of all numbers but 0
module _ (Q : ℕ → Type 0) (given : (m : ℕ) → 0 < m → Q m) where
  no_zero : (x : List ℕ) → has_zero x ≡ false → AllByRecursion Q x
  no_zero [] h = tt
  no_zero (m ∷ x) h = let parts = or_parts (m == 0) (has_zero x) h in let first = parts.0 in (given m (grind (arith, nat_tests)), no_zero x parts.1)

  among : (mappings : Mappings) (r : RecordValue) → is_bad_mapping r ≡ false → AllByRecursion Q (mapping_among mappings r)
  unfolding is_bad_mapping
  among AllMappings r h = no_zero r.mapping (or_parts (has_zero r.mapping) _ h).0
  among Canonical r h = cond_both r.compatibility [] r.mapping (AllByRecursion Q) (λ _. tt) (λ _. no_zero r.mapping (or_parts (has_zero r.mapping) _ h).0)

  module _ (f : ℕ → List ℕ) (each : (m : ℕ) → Q m → IsSound Q (f m)) where
    all_mapped : (x : List ℕ) → AllByRecursion Q x → AllByRecursion Q (flat_map f x)
    all_mapped [] h = tt
    all_mapped (m ∷ x) h = AllByRecursion-append Q (f m) (flat_map f x) (each m h.0).all (all_mapped x h.1)

    IsSound-flat_map : (m : ℕ) (x : List ℕ) → AllByRecursion Q (m ∷ x) → IsSound Q (flat_map f (m ∷ x))
    IsSound-flat_map m x h = let first = (each m h.0).some in record { some = simp length-append (omega arith); all = all_mapped (m ∷ x) h }

    IsSound-replace_by : (x : List ℕ) (c : ℕ) → Q c → AllByRecursion Q x → IsSound Q (replace_by f x c)
    unfolding replace_by
    IsSound-replace_by [] c own h = record { some = omega arith; all = (own, tt) }
    IsSound-replace_by (m ∷ x) c own h = IsSound-flat_map m x h

  IsSound-order : (d : Reading) (x : List ℕ) → IsSound Q x → IsSound Q (order d x)
  IsSound-order d x h = let same = length-order d x in let some = h.some in record { some = omega arith; all = AllByRecursion-order d Q x h.all }

pub unfixed_syllable : (c : ℕ) → is_fixed c ≡ false → is_hangul_syllable c ≡ false
unfolding is_fixed
unfixed_syllable c h = (or_parts ((c == 0xFFFD) || is_in_range 0x1100 0x11FF c) (is_hangul_syllable c) h).1

no_replacement_character : (c : ℕ) → is_hangul_syllable c ≡ true → (c == 0xFFFD) ≡ false
unfolding is_hangul_syllable
no_replacement_character c h = grind (arith, nat_tests)

no_jamo : (c : ℕ) → is_hangul_syllable c ≡ true → is_in_range 0x1100 0x11FF c ≡ false
unfolding is_hangul_syllable
no_jamo c h = grind (arith, nat_tests)

no_filler : (c : ℕ) → is_hangul_syllable c ≡ true → is_in_range 0x115F 0x1160 c ≡ false
unfolding is_hangul_syllable
no_filler c h = grind (arith, nat_tests)

fixed_mapper_syllable : (r : Uts46RecordValue) → is_hangul_syllable r.c ≡ true → is_fixed_for_mapper r ≡ true
unfolding is_fixed_for_mapper is_fixed
fixed_mapper_syllable r h = rw (h, no_replacement_character r.c h, no_jamo r.c h, no_filler r.c h) refl

unfixed_mapper_syllable : (r : Uts46RecordValue) → is_fixed_for_mapper r ≡ false → is_hangul_syllable r.c ≡ false
unfixed_mapper_syllable r h = false_from_ne_true _ (λ syllable. true≢false (sym (fixed_mapper_syllable r syllable) ∙ h))

disallowed : (s : Status) → not (is_disallowed s) ≡ false → s ≡ IsDisallowed
disallowed IsDisallowed h = refl
disallowed IsIgnored h = absurd (true≢false h)
disallowed (MapsTo x) h = absurd (true≢false h)

disallowed_replacement : (r : Uts46RecordValue) → r.c ≡ 0xFFFD → is_fixed_for_mapper r ≡ false → r.status ≡ IsDisallowed
unfolding is_fixed_for_mapper is_fixed
disallowed_replacement r here h = disallowed r.status (rw here at h)

module _ (records : List RecordValue) (uts46 : List Uts46RecordValue) (none : IsFirstRefusal records uts46 None) where
  pub rising : AreRising records
  unfolding HasFault HasOrderFault
  rising i j d below within = stable _ _ (λ falls. unrefused records uts46 none error.Order (λ both. falls (both.0 i j d below within)))

  pub no_fixed_fault : has_fixed_fault records uts46 ≡ false
  unfolding HasFault
  no_fixed_fault = false_from_ne_true _ (unrefused records uts46 none error.Fixed)

  pub no_mapping_fault : has_mapping_fault records uts46 ≡ false
  unfolding HasFault
  no_mapping_fault = false_from_ne_true _ (unrefused records uts46 none error.Mapping)

  unfixed_records : All (λ r. is_fixed r.c ≡ false) records
  unfolding has_fixed_fault
  unfixed_records = none_passes _ records (or_parts _ _ no_fixed_fault).0

  pub unfixed_statuses : All (λ r. is_fixed_for_mapper r ≡ false) uts46
  unfolding has_fixed_fault
  unfixed_statuses = none_passes is_fixed_for_mapper uts46 (or_parts (list_any (λ (r : RecordValue). is_fixed r.c) records) _ no_fixed_fault).1

  pub no_syllables : All (λ c. is_hangul_syllable c ≡ false) (recorded_characters records uts46)
  no_syllables =
      let other : ℕ → Type 0 = λ c. is_hangul_syllable c ≡ false in
      All-append other (map (λ (r : RecordValue). r.c) records) (map (λ (r : Uts46RecordValue). r.c) uts46)
      (All-map other (λ (r : RecordValue). r.c) records (λ k d within. unfixed_syllable _ (unfixed_records k d within)))
      (All-map other (λ (r : Uts46RecordValue). r.c) uts46 (λ k d within. unfixed_mapper_syllable (get_or uts46 k d) (unfixed_statuses k d within)))

  unrecorded_fixed : (n : ℕ) → is_fixed n ≡ true → entry_of records n ≡ None
  unfolding entry_of
  unrecorded_fixed n h = elim (find-cases (λ (r : RecordValue). r.c) (λ r. is_fixed r.c ≡ false) records n unfixed_records) as (λ _. find (λ (r : RecordValue). r.c == n) records ≡ None) [
    | inl missing ↦ missing
    | inr found ↦ absurd (true≢false (sym h ∙ ap is_fixed (sym found.2) ∙ found.3))
  ]

  pub unrecorded_replacement : entry_of records 0xFFFD ≡ None
  unfolding is_fixed
  unrecorded_replacement = unrecorded_fixed 0xFFFD refl

  pub class_of-unrecorded : (n : ℕ) → entry_of records n ≡ None → class_of records n ≡ 0
  unfolding class_of
  class_of-unrecorded n h = rw h refl

  good_status : (n : ℕ) (s : Status) → status_of uts46 n ≡ Some s → is_bad_status s ≡ false
  unfolding status_of has_mapping_fault
  good_status n s e =
      let good = none_passes (λ (r : Uts46RecordValue). is_bad_status r.status) uts46 (or_parts (list_any is_bad_mapping records) _ no_mapping_fault).1 in
      elim (find-cases (λ (r : Uts46RecordValue). r.c) (λ r. is_bad_status r.status ≡ false) uts46 n good) as (λ _. is_bad_status s ≡ false) [
        | inl missing ↦ absurd (let never : None ≡ Some s = sym (ap (option_map (λ (r : Uts46RecordValue). r.status)) missing) ∙ e in cc)
        | inr found ↦ rw (same_Some _ _ (sym e ∙ ap (option_map (λ (r : Uts46RecordValue). r.status)) found.1)) found.3
      ]

  no_replacement : (mappings : Mappings) (n : ℕ) → is_hangul_syllable n ≡ false → entry_of records n ≡ None → replacement records mappings n ≡ []
  unfolding replacement
  no_replacement mappings n other missing = rw (other, missing) refl

  module _ (mappings : Mappings) where
    -- a character that isn't recorded has the list of its jamo, or itself alone
    pub full_list-unrecorded : (n : ℕ) → entry_of records n ≡ None → full_list records mappings n ≡ (if is_hangul_syllable n then hangul_decomposition n else n ∷ [])
    unfolding full_list order insert is_reorderable
    full_list-unrecorded n none_recorded = cond_both (is_hangul_syllable n) (hangul_decomposition n) (n ∷ []) (λ x. full_list records mappings n ≡ x)
        (λ syllable.
        let same = replacement-syllable records mappings n syllable in
        ap (order (recorded_classes records)) (expansion-replaced records mappings 16 n (λ e. jamo_some n syllable (sym same ∙ e)) ∙ ap (flat_map (expansion records mappings 16)) same)
        ∙ by_jamo (λ x. order (recorded_classes records) (flat_map (expansion records mappings 16) x) ≡ x) n syllable
        (λ l v first second. rw (alone l first.0 first.1, alone v second.0 second.1, starter v second.0 second.1) refl)
        (λ l v t first second third. rw (alone l first.0 first.1, alone v second.0 second.1, alone t third.0 third.1, starter t third.0 third.1, starter v second.0 second.1) refl))
        (λ other. ap (order (recorded_classes records)) (expansion-alone records mappings levels n (no_replacement mappings n other none_recorded)))
      where
        alone : (c : ℕ) → 0x1100 ≤ c → c ≤ 0x11FF → expansion records mappings 16 c ≡ c ∷ []
        alone = jamo_alone records uts46 no_fixed_fault mappings 16

        starter : (c : ℕ) → 0x1100 ≤ c → c ≤ 0x11FF → class_of records c ≡ 0
        starter c low high = class_of-unrecorded c (unrecorded_fixed c (jamo_fixed c low high))

  pub recorded_list-unrecorded : (k : Kind) (n : ℕ) → entry_of records n ≡ None → status_of uts46 n ≡ None →
      recorded_list records uts46 k n ≡ Some (if is_hangul_syllable n then hangul_decomposition n else n ∷ [])
  unfolding mapper_list mapped_list
  recorded_list-unrecorded kind.Canonical n missing unmapped = ap Some (full_list-unrecorded Canonical n missing)
  recorded_list-unrecorded kind.Compatibility n missing unmapped = ap Some (full_list-unrecorded AllMappings n missing)
  recorded_list-unrecorded kind.Mapper n missing unmapped = ap (mapped_list records n) unmapped ∙ ap Some (full_list-unrecorded Canonical n missing)

  -- U+FFFD is its own list, even if the mapper disallows it
  pub recorded_list-replacement : (k : Kind) → recorded_list records uts46 k 0xFFFD ≡ Some (0xFFFD ∷ [])
  unfolding is_hangul_syllable mapper_list mapped_list list_of_status status_of
  recorded_list-replacement kind.Canonical = ap Some (full_list-unrecorded Canonical 0xFFFD unrecorded_replacement)
  recorded_list-replacement kind.Compatibility = ap Some (full_list-unrecorded AllMappings 0xFFFD unrecorded_replacement)
  recorded_list-replacement kind.Mapper = elim (find-cases (λ (r : Uts46RecordValue). r.c) (λ r. is_fixed_for_mapper r ≡ false) uts46 0xFFFD unfixed_statuses) [
    | inl missing ↦ recorded_list-unrecorded kind.Mapper 0xFFFD unrecorded_replacement (ap (option_map (λ (r : Uts46RecordValue). r.status)) missing)
    | inr found ↦ ap (mapped_list records 0xFFFD) (ap (option_map (λ (r : Uts46RecordValue). r.status)) found.1 ∙ ap Some (disallowed_replacement found.0 found.2 found.3))
  ]

  module _ (Q : ℕ → Type 0) (given : (m : ℕ) → 0 < m → Q m) where
    all_replacement : (mappings : Mappings) (n : ℕ) → AllByRecursion Q (replacement records mappings n)
    unfolding replacement entry_of has_mapping_fault
    all_replacement mappings n = cond_both (is_hangul_syllable n) _ _ (AllByRecursion Q)
        (λ h. by_jamo (AllByRecursion Q) n h (λ l v first second. (given l (omega arith), (given v (omega arith), tt)))
        (λ l v t first second third. (given l (omega arith), (given v (omega arith), (given t (omega arith), tt)))))
        (λ _. elim (find-cases (λ (r : RecordValue). r.c) (λ r. is_bad_mapping r ≡ false) records n (none_passes _ records (or_parts _ _ no_mapping_fault).0)) [
          | inl missing ↦ rw missing tt
          | inr found ↦ rw found.1 (among Q given mappings found.0 found.3)
        ])

    IsSound-expansion : (mappings : Mappings) (depth c : ℕ) → Q c → IsSound Q (expansion records mappings depth c)
    unfolding expansion
    IsSound-expansion mappings zero c own = record { some = omega arith; all = (own, tt) }
    IsSound-expansion mappings (suc depth) c own =
        IsSound-replace_by Q given (expansion records mappings depth) (IsSound-expansion mappings depth) (replacement records mappings c) c own (all_replacement mappings c)

    IsSound-full_list : (mappings : Mappings) (c : ℕ) → Q c → IsSound Q (full_list records mappings c)
    unfolding full_list
    IsSound-full_list mappings c own = IsSound-order Q given (recorded_classes records) _ (IsSound-expansion mappings levels c own)

    IsSound-mapped : (n : ℕ) (o : Option Status) → status_of uts46 n ≡ o → Q n → IfSome (mapped_list records n o) (IsSound Q)
    unfolding mapped_list list_of_status expand_all
    IsSound-mapped n None e own = IsSound-full_list Canonical n own
    IsSound-mapped n (Some IsIgnored) e own = tt
    IsSound-mapped n (Some IsDisallowed) e own = record { some = omega arith; all = (given 0xFFFD (omega arith), tt) }
    IsSound-mapped n (Some (MapsTo [])) e own = absurd (true≢false (good_status n (MapsTo []) e))
    IsSound-mapped n (Some (MapsTo (m ∷ x))) e own =
        IsSound-order Q given (recorded_classes records) _
        (IsSound-flat_map Q given (expansion records Canonical levels) (IsSound-expansion Canonical levels) m x (no_zero Q given (m ∷ x) (good_status n (MapsTo (m ∷ x)) e)))

  pub IsGiven-recorded : (k : Kind) (n : ℕ) → IfSome (recorded_list records uts46 k n) (IsGiven records k n)
  unfolding HasFault HasLengthFault HasLongList HasLongOwnList HasClassFault HasWrongClass HasWrongOwnClass mapper_list
  IsGiven-recorded kind.Canonical n = record {
    sound = IsSound-full_list _ (λ m h _. h) Canonical n (λ h. h);
    short = λ h. unrefused records uts46 none error.Length (n, asked records uts46 none n, inl (inl h));
    right = λ h. unrefused records uts46 none error.Class (n, asked records uts46 none n, inl (inr (inl h)));
  }
  IsGiven-recorded kind.Compatibility n = record {
    sound = IsSound-full_list _ (λ m h _. h) AllMappings n (λ h. h);
    short = λ h. unrefused records uts46 none error.Length (n, asked records uts46 none n, inl (inr h));
    right = λ h. unrefused records uts46 none error.Class (n, asked records uts46 none n, inl (inr (inr h)));
  }
  IsGiven-recorded kind.Mapper n = by (mapper_list records uts46 n) (IsSound-mapped _ (λ m h _. h) n (status_of uts46 n) refl (λ h. h))
      (λ h. unrefused records uts46 none error.Length (n, asked records uts46 none n, inr h)) (λ h. unrefused records uts46 none error.Class (n, asked records uts46 none n, inr h))
    where
      by : (o : Option (List ℕ)) → IfSome o (IsSound (λ m. 0 < n → 0 < m)) → ¬ IsSomeAnd o IsTooLong → ¬ IsSomeAnd o (IsWrong records n false) → IfSome o (IsGiven records kind.Mapper n)
      by None sound short right = tt
      by (Some x) sound short right = record { sound = sound; short = short; right = right }
