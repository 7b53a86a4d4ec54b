-- Records of the mapper of which some are ranges beside the others: no refusal holds of all, and all entries are those of
-- the others and those of the ranges.
use Rattle.std.proofs.Common.{◌≡◌, ◌∙◌, ◌⊎◌, inl, inr, ℕ, zero, suc, ◌+◌, ◌<◌, ◌≤◌, ◌==◌, Bool, true, false, not, cond, nat_lt, List, [], ◌∷◌, filter, find, get_or, map, All, Contains, Option}
use Rattle.std.proofs.Common.{Some, None, refl, sym, ap, subst, arith, eqb-true, eq-eqb, unwrap_or, IfSome, IsSomeAnd, if◌then◌else◌}
use Rattle.std.specs.Char.{IsScalar}
use Rattle.std.specs.List.{list_any, range_with_len, sum_by}
use Rattle.std.specs.List.Sorted.{IsStrictlyIncreasing}
use Rattle.std.specs.Option.{option_map}
use Rattle.std.proofs.lemmas.Bool.{cases_Bool, false_from_ne_true, not-false, not-true, or_parts, true≢false}
use Rattle.std.proofs.lemmas.List.Elements.{All-cons, All-contains, All-contains_itself, All-filter, All-head, All-map, All-nil, All-tail, Contains-append_cases, Contains-append_left, Contains-append_right, filter_passes}
use Rattle.std.proofs.lemmas.List.Folds.{list_any_at, list_any_none}
use Rattle.std.proofs.lemmas.List.FromFn.{get_or-range_with_len, length-range_with_len}
use Rattle.std.proofs.lemmas.List.Kept.{AllPairs-from_increasing, IsStrictlyIncreasing-filter}
use Rattle.std.proofs.lemmas.List.Sums.{get_or-le-sum_by}
use Rattle.std.proofs.lemmas.Map.Views.{Contains-from_any}
use Rattle.normalizer_tables.specs.Entries.{EntryValue}
use Rattle.normalizer_tables.specs.Pairs.{Pair}
use Rattle.normalizer_tables.specs.declared.step.Step.TheVariants.{Default}
use Rattle.normalizer_tables.specs.Steps.{step_to}
use Rattle.normalizer_tables.specs.Hangul.{hangul_decomposition}
use Rattle.normalizer_packing.specs.declared.Packed.{Packed}
use Rattle.normalizer_packing.specs.Disallowed.{AreBeside, PacksBeside, disallowed_entry, is_in}
use Rattle.normalizer_packing.proofs.entry_data.EntryLemmas.{Contains-map, find-tells}
use Rattle.normalizer_packing.proofs.beside.BesideLemmas.{find-filter}
use Rattle.normalizer_packing.proofs.beside.BesidePacking.{packs_all}
use Rattle.normalizer_records.specs.declared.records.Mappings.{Mappings}
use Rattle.normalizer_records.specs.declared.records.Mappings.TheVariants.{Canonical, All as AllMappings}
use Rattle.normalizer_records.specs.declared.records.BuildError.{BuildError}
use Rattle.normalizer_records.specs.declared.records.BuildError.TheVariants as error
use Rattle.normalizer_records.specs.RecordValue.{RecordValue, Uts46RecordValue, IsDisallowed}
use Rattle.normalizer_records.specs.Faults.{HasClassFault, HasFault, HasLengthFault, HasLongList, HasLongOwnList, HasOrderFault, HasWrongClass, HasWrongOwnClass, IsAsked, IsFirstRefusal, IsTooLong, IsWrong, faults, has_fixed_fault, has_mapping_fault, is_bad_mapping}
use Rattle.normalizer_records.specs.Faults.{is_bad_status, is_fixed, is_fixed_for_mapper}
use Rattle.normalizer_records.specs.Meaning.{canonical_list, canonical_mapping_of, class_of, compatibility_list, entry_of, full_list, list_of_status, mapped_list, mapper_list, status_of}
use Rattle.normalizer_records.specs.Recorded.{AreExpanded, AreMadeOf, IsOfCharacters, ListsCharacters, entry_for, recorded_characters, recorded_step}
use Rattle.normalizer_records.proofs.record_faults.RefusalLemmas.{unrefused as no_refusal}
use Rattle.normalizer_builder.specs.Building.{Builds}
use Rattle.normalizer_builder.specs.Built.{data_in}
use Rattle.normalizer_builder.specs.declared.built.Built.{Built}
use Rattle.normalizer_builder.specs.Demands.{IsFirstUnmet}
use Rattle.normalizer_builder.specs.inner.Ranges.{IsSplit}
use Rattle.normalizer_builder.proofs.BuiltMeaning.{Builds-packed}
use Rattle.normalizer_builder.proofs.NoRefusal.{class_of-unrecorded, full_list-unrecorded, no_fixed_fault, no_mapping_fault, none_passes, rising, unfixed_statuses, unfixed_syllable, unrecorded_replacement}
use Rattle.normalizer_builder.proofs.SameParts.{same_members}

-- what holds of the elements that pass and of those that don't
All-kept : {X : Type 0} (q : X → Bool) (P : X → Type 0) (xs : List X) → All (λ x. q x ≡ false → P x) xs → All P (filter q xs) → All P xs
All-kept q P [] dropped kept = All-nil P
All-kept {X} q P (x ∷ xs) dropped kept =
    let D = λ (y : X). q y ≡ false → P y in
    elim (q x) as (λ b. q x ≡ b → All P (cond b (x ∷ filter q xs) (filter q xs)) → All P (x ∷ xs)) [
      | true ↦ λ passes all. All-cons P x xs (All-head P x (filter q xs) all) (All-kept q P xs (All-tail D x xs dropped) (All-tail P x (filter q xs) all))
      | false ↦ λ fails all. All-cons P x xs (All-head D x xs dropped fails) (All-kept q P xs (All-tail D x xs dropped) all)
    ] refl kept

-- an element that passes is kept
Contains-filter : {X : Type 0} (q : X → Bool) (xs : List X) → All (λ x. q x ≡ true → Contains (filter q xs) x) xs
Contains-filter q [] = All-nil (λ x. q x ≡ true → Contains [] x)
Contains-filter {X} q (x ∷ xs) =
    let rest = Contains-filter q xs in
    elim (q x) as (λ b. q x ≡ b → All (λ y. q y ≡ true → Contains (cond b (x ∷ filter q xs) (filter q xs)) y) (x ∷ xs)) [
      | true ↦ λ passes. All-cons (λ y. q y ≡ true → Contains (x ∷ filter q xs) y) x xs (λ _. (0, omega arith, refl))
          (λ k d within h. Contains-append_right (x ∷ []) (filter q xs) _ (rest k d within h))
      | false ↦ λ fails. All-cons (λ y. q y ≡ true → Contains (filter q xs) y) x xs (λ passes. absurd (true≢false (sym passes ∙ fails))) rest
    ] refl

filter-map : {X Y : Type 0} (f : X → Y) (q : Y → Bool) (xs : List X) → filter q (map f xs) ≡ map f (filter (λ x. q (f x)) xs)
filter-map f q [] = refl
filter-map {X} {Y} f q (x ∷ xs) = elim (q (f x)) as (λ b. cond b (f x ∷ filter q (map f xs)) (filter q (map f xs)) ≡ map f (cond b (x ∷ filter (λ y. q (f y)) xs) (filter (λ y. q (f y)) xs))) [
  | true ↦ ap (λ ys. f x ∷ ys) (filter-map f q xs)
  | false ↦ filter-map f q xs
]

map_same : {X Y : Type 0} (f g : X → Y) (xs : List X) → All (λ x. f x ≡ g x) xs → map f xs ≡ map g xs
map_same f g [] h = refl
map_same {X} {Y} f g (x ∷ xs) h = rw (All-head (λ y. f y ≡ g y) x xs h) (ap (λ ys. g x ∷ ys) (map_same f g xs (All-tail (λ y. f y ≡ g y) x xs h)))

-- an element of the list that a function makes
made_of : {X Y : Type 0} (f : X → Y) (xs : List X) (y : Y) → Contains (map f xs) y → (x : X) × Contains xs x × (f x ≡ y)
made_of f [] y (k, within, is) = absurd (omega arith)
made_of f (x ∷ xs) y (zero, within, is) = (x, (0, omega arith, refl), is)
made_of f (x ∷ xs) y (suc k, within, is) =
    let rest = made_of f xs y (k, omega arith, is) in (rest.0, Contains-append_right (x ∷ []) xs rest.0 rest.1, rest.2)

-- what is listed is found
listed_found : {X : Type 0} (number : X → ℕ) (xs : List X) (n : ℕ) → Contains (map number xs) n → find (λ x. number x == n) xs ≡ None → ⊥
listed_found number xs n there none = elim (find-tells (λ x. number x == n) xs) as (λ _. ⊥) [
  | inl missing ↦ (let one = made_of number xs n there in true≢false (sym (eq-eqb _ _ one.2) ∙ All-contains (λ x. (number x == n) ≡ false) xs one.0 missing.1 one.1))
  | inr some ↦ (let both : Some some.0 ≡ None = sym some.1 ∙ none in absurd cc)
]

-- numbers in order, each once
module _ (xs : List ℕ) where
  abbrev numbers : List ℕ
  numbers = range_with_len 0 (suc (sum_by (λ n. n) xs))

  abbrev is_listed : ℕ → Bool
  is_listed n = list_any (λ m. n == m) xs

  abbrev ordered : List ℕ
  ordered = filter is_listed numbers

  in_numbers : (n : ℕ) → n ≤ sum_by (λ m. m) xs → Contains numbers n
  in_numbers n le = (n, omega (arith, length-range_with_len 0 (suc (sum_by (λ m. m) xs))), omega (arith, get_or-range_with_len 0 (suc (sum_by (λ m. m) xs)) n n (omega arith)))

  all_ordered : All (Contains ordered) xs
  all_ordered k d within =
      let n = get_or xs k d in
      All-contains (λ m. is_listed m ≡ true → Contains ordered m) numbers n (Contains-filter is_listed numbers)
      (in_numbers n (get_or-le-sum_by (λ m. m) xs k d within)) (list_any_at (λ m. n == m) xs k d within (eq-eqb n n refl))

  ordered_only : All (Contains xs) ordered
  ordered_only k d within = Contains-from_any {K = ℕ} {eq = λ n m. n == m} (λ n m same. eqb-true n m same) (get_or ordered k d) xs (filter_passes is_listed numbers k d within)

  ordered_rises : IsStrictlyIncreasing ordered
  ordered_rises = IsStrictlyIncreasing-filter is_listed numbers (λ k within.
      let last = length-range_with_len 0 (suc (sum_by (λ m. m) xs)) in
      let one = get_or-range_with_len 0 (suc (sum_by (λ m. m) xs)) k 0 (omega arith) in
      let next = get_or-range_with_len 0 (suc (sum_by (λ m. m) xs)) (k + 1) 0 (omega arith) in omega arith)

module _ (records : List RecordValue) (uts46 others : List Uts46RecordValue) (ranges : List (ℕ × ℕ)) (end : ℕ) (split : IsSplit records uts46 others ranges end) (none : IsFirstRefusal records others None) where
  abbrev stays : Uts46RecordValue → Bool
  stays r = not (is_in ranges r.c)

  abbrev apart : ℕ → Bool
  apart n = not (is_in ranges n)

  -- what holds of the others, and of those in ranges
  all_records : (P : Uts46RecordValue → Type 0) → ((r : Uts46RecordValue) → is_in ranges r.c ≡ true → r.status ≡ IsDisallowed → P r) → All P others → All P uts46
  all_records P given all = All-kept stays P uts46 (λ k d within dropped. let is = not-false _ dropped in given _ is (split.disallowed k d within is)) (subst (All P) split.kept all)

  status-apart : (n : ℕ) → is_in ranges n ≡ false → status_of uts46 n ≡ status_of others n
  unfolding status_of
  status-apart n h = sym (ap (option_map (λ (r : Uts46RecordValue). r.status)) (ap (find (λ (r : Uts46RecordValue). r.c == n)) split.kept
      ∙ find-filter (λ (r : Uts46RecordValue). r.c == n) stays uts46 (λ r same. ap apart (eqb-true _ _ same) ∙ ap not h)))

  status-in : (n : ℕ) → is_in ranges n ≡ true → (find (λ (r : Uts46RecordValue). r.c == n) uts46 ≡ None) ⊎ (status_of uts46 n ≡ Some IsDisallowed)
  unfolding status_of
  status-in n is = elim (find-tells {X = Uts46RecordValue} (λ r. r.c == n) uts46) as (λ _. (find (λ (r : Uts46RecordValue). r.c == n) uts46 ≡ None) ⊎ (status_of uts46 n ≡ Some IsDisallowed)) [
    | inl missing ↦ inl missing.0
    | inr some ↦ inr (
        let same : some.0.c ≡ n = eqb-true _ _ some.3 in
        ap (option_map (λ (r : Uts46RecordValue). r.status)) some.1
        ∙ ap Some (All-contains (λ (r : Uts46RecordValue). is_in ranges r.c ≡ true → r.status ≡ IsDisallowed) uts46 some.0 split.disallowed some.2 (ap (is_in ranges) same ∙ is)))
  ]

  class-in : (n : ℕ) → is_in ranges n ≡ true → class_of records n ≡ 0
  class-in n is = class_of-unrecorded records others none n (split.unrecorded n is)

  list-in : (mappings : Mappings) (n : ℕ) → is_in ranges n ≡ true → full_list records mappings n ≡ n ∷ []
  list-in mappings n is =
      full_list-unrecorded records others none mappings n (split.unrecorded n is)
      ∙ ap (λ b. if b then hangul_decomposition n else n ∷ []) (unfixed_syllable n (split.unfixed n is))

  mapper-in : (n : ℕ) → is_in ranges n ≡ true → (mapper_list records uts46 n ≡ Some (n ∷ [])) ⊎ (mapper_list records uts46 n ≡ Some (0xFFFD ∷ []))
  unfolding mapper_list mapped_list list_of_status status_of
  mapper-in n is = elim (status-in n is) as (λ _. (mapper_list records uts46 n ≡ Some (n ∷ [])) ⊎ (mapper_list records uts46 n ≡ Some (0xFFFD ∷ []))) [
    | inl missing ↦ inl (ap (mapped_list records n) (ap (option_map (λ (r : Uts46RecordValue). r.status)) missing) ∙ ap Some (list-in Canonical n is))
    | inr found ↦ inr (ap (mapped_list records n) found)
  ]

  mapper-apart : (n : ℕ) → is_in ranges n ≡ false → mapper_list records uts46 n ≡ mapper_list records others n
  unfolding mapper_list
  mapper-apart n h = ap (mapped_list records n) (status-apart n h)

  -- a list of the character alone, or of U+FFFD, is neither wrong nor too long
  right_alone : (n : ℕ) (b : Bool) → IsWrong records n b (n ∷ []) → ⊥
  right_alone n b h = h.1.0 refl

  right_replacement : (n : ℕ) → IsWrong records n false (0xFFFD ∷ []) → ⊥
  right_replacement n h = elim h.0 as (λ _. ⊥) [
    | inl mark ↦ true≢false (sym mark)
    | inr begins ↦ (let class : class_of records 0xFFFD ≡ 0 = class_of-unrecorded records others none 0xFFFD (unrecorded_replacement records others none) in
        true≢false (sym begins ∙ ap (nat_lt 0) class))
  ]

  short_alone : (n : ℕ) → IsTooLong (n ∷ []) → ⊥
  short_alone n h = true≢false (sym h.0)

  class_right : (n : ℕ) → is_in ranges n ≡ true → HasWrongClass records uts46 n → ⊥
  unfolding HasWrongClass HasWrongOwnClass
  class_right n is wrong = elim wrong as (λ _. ⊥) [
    | inl own ↦ elim own as (λ _. ⊥) [
      | inl most ↦ (let class = class-in n is in omega arith)
      | inr lists ↦ elim lists as (λ _. ⊥) [
        | inl canonical ↦ right_alone n _ (subst (IsWrong records n _) (list-in Canonical n is) canonical)
        | inr compatibility ↦ right_alone n _ (subst (IsWrong records n _) (list-in AllMappings n is) compatibility)
      ]
    ]
    | inr mapper ↦ elim (mapper-in n is) as (λ _. ⊥) [
      | inl alone ↦ right_alone n false (subst (λ (o : Option (List ℕ)). IsSomeAnd o (IsWrong records n false)) alone mapper)
      | inr replaced ↦ right_replacement n (subst (λ (o : Option (List ℕ)). IsSomeAnd o (IsWrong records n false)) replaced mapper)
    ]
  ]

  length_right : (n : ℕ) → is_in ranges n ≡ true → HasLongList records uts46 n → ⊥
  unfolding HasLongList HasLongOwnList
  length_right n is long = elim long as (λ _. ⊥) [
    | inl own ↦ elim own as (λ _. ⊥) [
      | inl canonical ↦ short_alone n (subst IsTooLong (list-in Canonical n is) canonical)
      | inr compatibility ↦ short_alone n (subst IsTooLong (list-in AllMappings n is) compatibility)
    ]
    | inr mapper ↦ elim (mapper-in n is) as (λ _. ⊥) [
      | inl alone ↦ short_alone n (subst (λ (o : Option (List ℕ)). IsSomeAnd o IsTooLong) alone mapper)
      | inr replaced ↦ short_alone 0xFFFD (subst (λ (o : Option (List ℕ)). IsSomeAnd o IsTooLong) replaced mapper)
    ]
  ]

  asked-apart : (n : ℕ) → is_in ranges n ≡ false → IsAsked records uts46 n → IsAsked records others n
  asked-apart n h asked = record {
    off_chain = asked.off_chain;
    mapped_off_chain = rw (sym (status-apart n h)) asked.mapped_off_chain;
  }

  no_class_fault : HasClassFault records uts46 → ⊥
  unfolding HasFault HasClassFault HasWrongClass
  no_class_fault h = elim (cases_Bool (is_in ranges h.0)) as (λ _. ⊥) [
    | inl is ↦ class_right h.0 is h.2
    | inr other ↦ no_refusal records others none error.Class (h.0, asked-apart h.0 other h.1, rw (sym (mapper-apart h.0 other)) h.2)
  ]

  no_length_fault : HasLengthFault records uts46 → ⊥
  unfolding HasFault HasLengthFault HasLongList
  no_length_fault h = elim (cases_Bool (is_in ranges h.0)) as (λ _. ⊥) [
    | inl is ↦ length_right h.0 is h.2
    | inr other ↦ no_refusal records others none error.Length (h.0, asked-apart h.0 other h.1, rw (sym (mapper-apart h.0 other)) h.2)
  ]

  unfixed_for_mapper : (r : Uts46RecordValue) → is_fixed r.c ≡ false → is_fixed_for_mapper r ≡ false
  unfolding is_fixed_for_mapper
  unfixed_for_mapper r h = rw h refl

  none_fixed : has_fixed_fault records uts46 ≡ false
  unfolding has_fixed_fault
  none_fixed =
      let front = (or_parts (list_any (λ (r : RecordValue). is_fixed r.c) records) _ (no_fixed_fault records others none)).0 in
      let back = list_any_none is_fixed_for_mapper uts46 (all_records (λ r. is_fixed_for_mapper r ≡ false) (λ r is disallowed. unfixed_for_mapper r (split.unfixed r.c is)) (unfixed_statuses records others none)) in
      rw (front, back) refl

  good_disallowed : (r : Uts46RecordValue) → r.status ≡ IsDisallowed → is_bad_status r.status ≡ false
  good_disallowed r h = ap is_bad_status h

  none_bad : has_mapping_fault records uts46 ≡ false
  unfolding has_mapping_fault
  none_bad =
      let parts = or_parts (list_any is_bad_mapping records) _ (no_mapping_fault records others none) in
      let back = list_any_none (λ (r : Uts46RecordValue). is_bad_status r.status) uts46
      (all_records (λ r. is_bad_status r.status ≡ false) (λ r is disallowed. good_disallowed r disallowed) (none_passes (λ (r : Uts46RecordValue). is_bad_status r.status) others parts.1)) in
      rw (parts.0, back) refl

  no_fault : (e : BuildError) → HasFault records uts46 e → ⊥
  unfolding HasFault HasOrderFault
  no_fault error.Order h = h (rising records others none, split.rising)
  no_fault error.Fixed h = true≢false (sym h ∙ none_fixed)
  no_fault error.Class h = no_class_fault h
  no_fault error.Mapping h = true≢false (sym h ∙ none_bad)
  no_fault error.Chain h = no_refusal records others none error.Chain h
  no_fault error.Length h = no_length_fault h
  no_fault error.Pair h = no_refusal records others none error.Pair h
  no_fault _ h = h

  pub unrefused : IsFirstRefusal records uts46 None
  unfolding IsFirstRefusal
  unrefused = λ k d within. no_fault (get_or faults k d)

  -- entries

  entry-apart : (n : ℕ) → is_in ranges n ≡ false → entry_for records uts46 n ≡ entry_for records others n
  unfolding entry_for
  entry-apart n h = ap (λ (o : Option (List ℕ)). record { character = n; class = class_of records n; canonical = canonical_list records n; compatibility = compatibility_list records n; mapper = o; mapping = unwrap_or (recorded_step records n) Default })
      (mapper-apart n h)

  step-in : (n : ℕ) → is_in ranges n ≡ true → unwrap_or (recorded_step records n) Default ≡ Default
  unfolding recorded_step canonical_mapping_of step_to
  step-in n is = rw (split.unrecorded n is) refl

  entry-in : (n : ℕ) → is_in ranges n ≡ true → mapper_list records uts46 n ≡ Some (0xFFFD ∷ []) → entry_for records uts46 n ≡ disallowed_entry n
  unfolding entry_for
  entry-in n is mapper = rw (class-in n is, list-in Canonical n is, list-in AllMappings n is, mapper, step-in n is) refl

  -- a character in ranges that has a record is disallowed
  mapper-recorded : (n : ℕ) → is_in ranges n ≡ true → Contains (map (λ (r : Uts46RecordValue). r.c) uts46) n → mapper_list records uts46 n ≡ Some (0xFFFD ∷ [])
  unfolding mapper_list mapped_list list_of_status
  mapper-recorded n is there = elim (status-in n is) as (λ _. mapper_list records uts46 n ≡ Some (0xFFFD ∷ [])) [
    | inl missing ↦ absurd (listed_found (λ (r : Uts46RecordValue). r.c) uts46 n there missing)
    | inr found ↦ ap (mapped_list records n) found
  ]

  -- which of the two kinds of records are of n
  unrecorded_in : (n : ℕ) → is_in ranges n ≡ true → Contains (map (λ (r : RecordValue). r.c) records) n → ⊥
  unfolding entry_of
  unrecorded_in n is there = listed_found (λ (r : RecordValue). r.c) records n there (split.unrecorded n is)

  other_recorded : (n : ℕ) → is_in ranges n ≡ false → Contains (map (λ (r : Uts46RecordValue). r.c) uts46) n → Contains (map (λ (r : Uts46RecordValue). r.c) others) n
  other_recorded n h there =
      let one = made_of (λ (r : Uts46RecordValue). r.c) uts46 n there in
      let kept = All-contains (λ (r : Uts46RecordValue). stays r ≡ true → Contains (filter stays uts46) r) uts46 one.0 (Contains-filter stays uts46) one.1 (ap apart one.2 ∙ ap not h) in
      subst (Contains (map (λ (r : Uts46RecordValue). r.c) others)) one.2
      (Contains-map (λ (r : Uts46RecordValue). r.c) others one.0 (subst (λ (rs : List Uts46RecordValue). Contains rs one.0) (sym split.kept) kept))

  others_all : (n : ℕ) → Contains (map (λ (r : Uts46RecordValue). r.c) others) n → Contains (map (λ (r : Uts46RecordValue). r.c) uts46) n × (is_in ranges n ≡ false)
  others_all n there =
      let one = made_of (λ (r : Uts46RecordValue). r.c) others n there in
      let kept = subst (λ (rs : List Uts46RecordValue). Contains rs one.0) split.kept one.1 in
      let was = All-contains (Contains uts46) (filter stays uts46) one.0 (All-filter stays (Contains uts46) uts46 (All-contains_itself uts46)) kept in
      let passes = All-contains (λ (r : Uts46RecordValue). stays r ≡ true) (filter stays uts46) one.0 (filter_passes stays uts46) kept in (
        subst (Contains (map (λ (r : Uts46RecordValue). r.c) uts46)) one.2 (Contains-map (λ (r : Uts46RecordValue). r.c) uts46 one.0 was),
        ap (is_in ranges) (sym one.2) ∙ not-true _ passes,
      )

  abbrev characters : List ℕ
  characters = ordered (recorded_characters records uts46)

  order : ListsCharacters records uts46 characters
  order = record { all = all_ordered (recorded_characters records uts46); recorded = ordered_only (recorded_characters records uts46); rising = ordered_rises (recorded_characters records uts46) }

  there : (n : ℕ) → Contains (recorded_characters records uts46) n → Contains characters n
  there n recorded = All-contains (Contains characters) (recorded_characters records uts46) n order.all recorded

  kept : (n : ℕ) → is_in ranges n ≡ false → Contains (recorded_characters records uts46) n → Contains (filter apart characters) n
  kept n h recorded = All-contains (λ m. apart m ≡ true → Contains (filter apart characters) m) characters n (Contains-filter apart characters) (there n recorded) (ap not h)

  -- a character in ranges has a record of the mapper's
  in_mapper : (n : ℕ) → is_in ranges n ≡ true → Contains characters n → Contains (map (λ (r : Uts46RecordValue). r.c) uts46) n
  in_mapper n is listed = elim (Contains-append_cases (map (λ (r : RecordValue). r.c) records) (map (λ (r : Uts46RecordValue). r.c) uts46) n
      (All-contains (Contains (recorded_characters records uts46)) characters n order.recorded listed)) as (λ _. Contains (map (λ (r : Uts46RecordValue). r.c) uts46) n) [
        | inl recorded ↦ absurd (unrecorded_in n is recorded)
        | inr mapped ↦ mapped
      ]

  entry-listed : (n : ℕ) → is_in ranges n ≡ true → Contains characters n → entry_for records uts46 n ≡ disallowed_entry n
  entry-listed n is listed = entry-in n is (mapper-recorded n is (in_mapper n is listed))

  module _ (entries : List EntryValue) (pairs : List Pair) (e : AreExpanded records others entries pairs) where
    abbrev some_characters : List ℕ
    some_characters = e.made.characters

    to_kept : (n : ℕ) → Contains some_characters n → Contains (filter apart characters) n
    to_kept n listed = elim (Contains-append_cases (map (λ (r : RecordValue). r.c) records) (map (λ (r : Uts46RecordValue). r.c) others) n
        (All-contains (Contains (recorded_characters records others)) some_characters n e.made.listed.recorded listed)) as (λ _. Contains (filter apart characters) n) [
          | inl recorded ↦ kept n (false_from_ne_true _ (λ is. unrecorded_in n is recorded)) (Contains-append_left _ (map (λ (r : Uts46RecordValue). r.c) uts46) n recorded)
          | inr mapped ↦ (let both = others_all n mapped in kept n both.1 (Contains-append_right (map (λ (r : RecordValue). r.c) records) _ n both.0))
        ]

    from_kept : (n : ℕ) → Contains (filter apart characters) n → Contains some_characters n
    from_kept n listed =
        let is = not-true (is_in ranges n) (All-contains (λ m. apart m ≡ true) (filter apart characters) n (filter_passes apart characters) listed) in
        let was = All-contains (Contains characters) (filter apart characters) n (All-filter apart (Contains characters) characters (All-contains_itself characters)) listed in
        elim (Contains-append_cases (map (λ (r : RecordValue). r.c) records) (map (λ (r : Uts46RecordValue). r.c) uts46) n
        (All-contains (Contains (recorded_characters records uts46)) characters n order.recorded was)) as (λ _. Contains some_characters n) [
          | inl recorded ↦ All-contains (Contains some_characters) _ n e.made.listed.all (Contains-append_left _ (map (λ (r : Uts46RecordValue). r.c) others) n recorded)
          | inr mapped ↦ All-contains (Contains some_characters) _ n e.made.listed.all (Contains-append_right (map (λ (r : RecordValue). r.c) records) _ n (other_recorded n is mapped))
        ]

    same_characters : some_characters ≡ filter apart characters
    same_characters = same_members {X = ℕ} (λ a b. a < b) (λ a b below above. omega arith) some_characters (filter apart characters)
        (AllPairs-from_increasing some_characters e.made.listed.rising) (AllPairs-from_increasing (filter apart characters) (IsStrictlyIncreasing-filter apart characters order.rising)) to_kept from_kept

    abbrev all_entries : List EntryValue
    all_entries = map (entry_for records uts46) characters

    made : AreMadeOf records uts46 all_entries
    made = record { characters = characters; listed = order; made = refl }

    apart_is : (n : ℕ) → apart n ≡ true → is_in ranges n ≡ false
    apart_is n h = not-true (is_in ranges n) h

    filtered : filter (λ f. not (is_in ranges f.character)) all_entries ≡ map (entry_for records uts46) (filter apart characters)
    unfolding entry_for
    filtered = filter-map (entry_for records uts46) (λ f. not (is_in ranges f.character)) characters

    in_all : (n : ℕ) → Contains characters n → is_in ranges (entry_for records uts46 n).character ≡ true → entry_for records uts46 n ≡ disallowed_entry (entry_for records uts46 n).character
    unfolding entry_for
    in_all n listed is = entry-listed n is listed

    beside : AreBeside ranges entries all_entries
    beside = record {
      others =
          e.made.made ∙ ap (map (entry_for records others)) same_characters
          ∙ sym (map_same (entry_for records uts46) (entry_for records others) (filter apart characters)
          (λ k d within. entry-apart _ (apart_is _ (filter_passes apart characters k d within))))
          ∙ sym filtered;
      disallowed = All-map (λ (f : EntryValue). is_in ranges f.character ≡ true → f ≡ disallowed_entry f.character) (entry_for records uts46) characters
          (λ k d within. in_all _ (All-contains_itself characters k d within));
      each = λ n scalar is. (
          let mapped = Contains-map (λ (r : Uts46RecordValue). r.c) uts46 (record { c = n; status = IsDisallowed }) (split.each n scalar is) in
          let listed = there n (Contains-append_right (map (λ (r : RecordValue). r.c) records) _ n mapped) in
          subst (Contains all_entries) (entry-listed n is listed) (Contains-map (entry_for records uts46) characters n listed));
    }

    of_disallowed : (n : ℕ) → IsScalar n → IsOfCharacters (disallowed_entry n)
    of_disallowed n scalar = record {
      character = scalar;
      class = omega arith;
      canonical = All-cons IsScalar n [] scalar (All-nil IsScalar);
      compatibility = All-cons IsScalar n [] scalar (All-nil IsScalar);
      mapper = All-cons IsScalar 0xFFFD [] refl (All-nil IsScalar);
    }

    of_character : (n : ℕ) → Contains characters n → IsOfCharacters (entry_for records uts46 n)
    of_character n listed = elim (cases_Bool (is_in ranges n)) as (λ _. IsOfCharacters (entry_for records uts46 n)) [
      | inl is ↦ (
          let one = made_of (λ (r : Uts46RecordValue). r.c) uts46 n (in_mapper n is listed) in
          let scalar = subst IsScalar one.2 (All-contains (λ (r : Uts46RecordValue). IsScalar r.c) uts46 one.0 split.characters one.1) in
          subst IsOfCharacters (sym (entry-listed n is listed)) (of_disallowed n scalar))
      | inr other ↦ (
          let kept_here = All-contains (λ m. apart m ≡ true → Contains (filter apart characters) m) characters n (Contains-filter apart characters) listed (ap not other) in
          let own = Contains-map (entry_for records others) some_characters n (from_kept n kept_here) in
          subst IsOfCharacters (sym (entry-apart n other))
          (All-contains IsOfCharacters entries _ e.characters (subst (λ (es : List EntryValue). Contains es (entry_for records others n)) (sym e.made.made) own)))
    ]

    are_of_characters : All IsOfCharacters all_entries
    are_of_characters = All-map IsOfCharacters (entry_for records uts46) characters (λ k d within. of_character _ (All-contains_itself characters k d within))

    -- data that pack the others, and ranges beside them
    pub Builds-split : (p : Packed) → PacksBeside ranges entries pairs p → IsFirstUnmet records p None → Builds records uts46 p
    Builds-split p packs fit =
        Builds-packed records uts46 unrefused p
        (record { entries = all_entries; pairs = pairs; made = made; same_pairs = e.same_pairs; rising_pairs = e.rising_pairs; packs = packs_all ranges entries all_entries pairs p packs beside })
        are_of_characters fit

module _ (records : List RecordValue) (uts46 others : List Uts46RecordValue) (ranges : List (ℕ × ℕ)) (end : ℕ) (split : IsSplit records uts46 others ranges end) (entries : List EntryValue) (pairs : List Pair)
    (e : AreExpanded records others entries pairs) where
  -- what fits is built
  pub Builds-fit : (p : Packed) → PacksBeside ranges entries pairs p → (o : Option Built) → IfSome o (λ b. (data_in b ≡ p) × IsFirstUnmet records p None) →
      IfSome o (λ b. Builds records uts46 (data_in b))
  Builds-fit p packs None h = tt
  Builds-fit p packs (Some b) h = subst (Builds records uts46) (sym h.0) (Builds-split records uts46 others ranges end split e.unrefused entries pairs e p packs h.1)
