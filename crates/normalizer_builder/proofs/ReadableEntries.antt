-- Entries of records that aren't refused have words that can be read again.
use Rattle.std.proofs.Common.{◌≡◌, ◌∙◌, ◌⊎◌, inl, inr, ℕ, ◌<◌, true, false, ◌&&◌, ◌||◌, nat_lt, List, [], ◌∷◌, map, All, Option, Some, None, IfSome, unwrap_or, ap, ap₂, subst, sym, refl, arith}
use Rattle.std.proofs.Common.{eq-eqb, if◌then◌else◌}
use Rattle.std.specs.Char.{IsScalar}
use Rattle.std.specs.List.{AllByRecursion}
use Rattle.std.proofs.lemmas.Bool.{false_from_ne_true, or_parts, true≢false}
use Rattle.std.proofs.lemmas.Bool.Decides.{nat_tests}
use Rattle.std.proofs.lemmas.List.Elements.{All-cons, All-nil}
use Rattle.normal_forms.specs.Boundary.{BeginsWithStarter}
use Rattle.normal_forms.specs.Reading.{IsText}
use Rattle.normalizer_tables.specs.declared.entry.Kind.{Kind}
use Rattle.normalizer_tables.specs.declared.entry.Kind.TheVariants as kind
use Rattle.normalizer_tables.specs.Entries.{EntryValue, class_in, reading_of_entries, kept_list, list_in, own_list}
use Rattle.normalizer_packing.specs.ReadBack.{AreReadable, class_by, tells_class}
use Rattle.normalizer_packing.specs.Spelling.{has_fixed_list, have_classes, list_eq}
use Rattle.normalizer_packing.proofs.lists.TableLemmas.{eq_list}
use Rattle.normalizer_records.specs.RecordValue.{RecordValue, Uts46RecordValue}
use Rattle.normalizer_records.specs.Faults.{IsFirstRefusal, IsFixedForm, IsFreeForm, begins_with_mark}
use Rattle.normalizer_records.specs.Meaning.{class_of}
use Rattle.normalizer_records.specs.Recorded.{IsOfCharacters}
use Rattle.normalizer_records.specs.Recorded.{AreMadeOf, entry_for}
use Rattle.normalizer_builder.specs.RecordedClasses.{mapper_class_of}
use Rattle.normalizer_builder.proofs.EntriesOfRecords.{IsAlone, IsTold, own_recorded, same_class, told}
use Rattle.normalizer_builder.proofs.NoRefusal.{IsGiven, IsGiven-recorded, asked_mark, class_of-unrecorded, recorded_list, recorded_list-replacement, unrecorded_replacement}

have_classes-own : (f : ℕ → ℕ) (x : List ℕ) → have_classes f (map f x) x ≡ true
have_classes-own f [] = refl
have_classes-own f (c ∷ x) = ap₂ (λ a b. a && b) (eq-eqb (f c) (f c) refl) (have_classes-own f x)

fixed_form-has : (records : List RecordValue) (n : ℕ) (x : List ℕ) → IsFixedForm records n x → has_fixed_list (class_of records) n x ≡ true
unfolding has_fixed_list
fixed_form-has records n x form = rw (form, has_fixed_list) (rw (eq_list x x refl, eq-eqb (class_of records n) (class_of records n) refl, have_classes-own (class_of records) x) refl)

no_mark : (k : ℕ) → nat_lt 0 k ≡ false → k ≡ 0
no_mark k e = grind (arith, nat_tests)

own_text : (k : Kind) (e : EntryValue) → IsOfCharacters e → IsText (unwrap_or (own_list k e) [])
own_text kind.Canonical e h = h.canonical
own_text kind.Compatibility e h = h.compatibility
own_text kind.Mapper e h = elim e.mapper as (λ o. IfSome o IsText → IsText (unwrap_or o [])) [ None ↦ λ _. All-nil IsScalar | Some x ↦ λ text. text ] h.mapper

-- no list of another character is that of U+0000
zero_only : (records : List RecordValue) (k : Kind) (n : ℕ) (o : Option (List ℕ)) → IfSome o (IsGiven records k n) → unwrap_or o [] ≡ 0 ∷ [] → n ≡ 0
zero_only records k n None given e = absurd cc
zero_only records k n (Some x) given e = let first : 0 < n → 0 < 0 = (subst (AllByRecursion (λ m. 0 < n → 0 < m)) e given.sound.all).0 in grind arith

module _ (records : List RecordValue) (uts46 : List Uts46RecordValue) (none : IsFirstRefusal records uts46 None) (entries : List EntryValue) (made : AreMadeOf records uts46 entries)
    (characters : All IsOfCharacters entries) where
  tells : (n : ℕ) → IsAlone records uts46 entries n ⊎ IsTold records uts46 entries n
  tells = told records uts46 none entries made characters

  same : class_in entries ≡ class_of records
  same = λ i n. same_class records uts46 none entries made characters n i

  told_alone : (k : Kind) (n : ℕ) → IsAlone records uts46 entries n → tells_class k entries n ≡ true
  unfolding tells_class kept_list
  told_alone k n alone = let list = eq_list (kept_list k entries n) (n ∷ []) (ap (λ o. unwrap_or o []) (alone.lists k)) in grind arith

  -- a list that is neither the character alone nor its fixed one begins with no mark, and is of none
  unmarked : (k : Kind) (n : ℕ) → IsTold records uts46 entries n → tells_class k entries n ≡ false →
      IfSome (recorded_list records uts46 k n) (λ x. (asked_mark records k n ≡ false) × (begins_with_mark records x ≡ false))
  unfolding tells_class kept_list
  unmarked k n t untold = by (recorded_list records uts46 k n) (t.lists k) (IsGiven-recorded records uts46 none k n)
    where
      by : (o : Option (List ℕ)) → list_in k entries n ≡ o → IfSome o (IsGiven records k n) → IfSome o (λ x. (asked_mark records k n ≡ false) × (begins_with_mark records x ≡ false))
      by None e given = tt
      by (Some x) e given =
          let kept : kept_list k entries n ≡ x = ap (λ o. unwrap_or o []) e in
          let parts = or_parts (has_fixed_list (class_in entries) n (kept_list k entries n)) (list_eq (kept_list k entries n) (n ∷ [])) untold in
          let free : IsFreeForm records n x = (
            λ own. true≢false (sym (eq_list (kept_list k entries n) (n ∷ []) (kept ∙ own)) ∙ parts.1),
            λ form. true≢false (sym (ap₂ (λ f y. has_fixed_list f n y) same kept ∙ fixed_form-has records n x form) ∙ parts.0),
          ) in
          (false_from_ne_true _ (λ mark. given.right (inl mark, free)), false_from_ne_true _ (λ mark. given.right (inr mark, free)))

  starter_first : (A : Type 0) (o : Option (List ℕ)) → IfSome o (λ x. A × (begins_with_mark records x ≡ false)) → BeginsWithStarter (reading_of_entries entries []) (unwrap_or o [])
  starter_first A None h = tt
  starter_first A (Some []) h = tt
  starter_first A (Some (c ∷ x)) h = ap (λ f. f c) same ∙ no_mark (class_of records c) h.1

  -- the entries of records that aren't refused can be read again
  pub AreReadable-made : (k : Kind) → AreReadable k entries
  unfolding entry_for kept_list
  AreReadable-made k = record {
    classes = λ n. elim (tells n) [ inl alone ↦ rw alone.class (omega arith) | inr t ↦ rw t.class t.characters.class ];
    hangul = λ n h. elim (tells n) as (λ _. class_in entries n ≡ 0) [ inl alone ↦ alone.class | inr t ↦ absurd (true≢false (sym h ∙ t.other)) ];
    replacement = (
      elim (tells 0xFFFD) as (λ _. list_in k entries 0xFFFD ≡ Some (0xFFFD ∷ [])) [ inl alone ↦ alone.lists k | inr t ↦ t.lists k ∙ recorded_list-replacement records uts46 none k ],
      ap (λ f. f 0xFFFD) same ∙ class_of-unrecorded records uts46 none 0xFFFD (unrecorded_replacement records uts46 none),
    );
    text = λ n scalar. elim (tells n) [
      | inl alone ↦ rw (alone.lists k, kept_list) (All-cons IsScalar n [] scalar (All-nil IsScalar))
      | inr t ↦ rw (t.lists k ∙ sym (own_recorded records uts46 k n), kept_list) (own_text k (entry_for records uts46 n) t.characters)
    ];
    zero = λ n scalar e. elim (tells n) as (λ _. n ≡ 0) [
      | inl alone ↦ (let kept : n ∷ [] ≡ 0 ∷ [] = sym (ap (λ o. unwrap_or o []) (alone.lists k)) ∙ e in cc)
      | inr t ↦ zero_only records k n (recorded_list records uts46 k n) (IsGiven-recorded records uts46 none k n) (sym (ap (λ o. unwrap_or o []) (t.lists k)) ∙ e)
    ];
    first = λ n scalar untold. elim (tells n) [
      | inl alone ↦ absurd (true≢false (sym (told_alone k n alone) ∙ untold))
      | inr t ↦ rw (t.lists k, kept_list) (starter_first _ (recorded_list records uts46 k n) (unmarked k n t untold))
    ];
  }

  -- the class in words is the recorded one, if the word of each mark has room for its class
  class_by-told : (k : Kind) → ((n : ℕ) → IsTold records uts46 entries n → tells_class k entries n ≡ false → class_of records n ≡ 0) → (n : ℕ) → class_by k entries n ≡ class_of records n
  unfolding class_by
  class_by-told k starts n = elim (tells n) [
    | inl alone ↦ (let own = alone.class in let unrecorded = class_of-unrecorded records uts46 none n alone.entry in grind arith)
    | inr t ↦ (let own = t.class in let start = starts n t in grind arith)
  ]

  pub class_by-canonical : (n : ℕ) → class_by kind.Canonical entries n ≡ class_of records n
  class_by-canonical = class_by-told kind.Canonical (λ n t untold. no_mark _ (unmarked kind.Canonical n t untold).0)

  pub class_by-compatibility : (n : ℕ) → class_by kind.Compatibility entries n ≡ class_of records n
  class_by-compatibility = class_by-told kind.Compatibility (λ n t untold. no_mark _ (unmarked kind.Compatibility n t untold).0)

  -- the mapper's words tell classes by its own lists
  pub class_by-mapper : (n : ℕ) → class_by kind.Mapper entries n ≡ mapper_class_of records uts46 n
  unfolding class_by mapper_class_of tells_class kept_list
  class_by-mapper n = elim (tells n) [
    | inl alone ↦ (let own = alone.class in let unrecorded = class_of-unrecorded records uts46 none n alone.entry in grind arith)
    | inr t ↦
        ap₂ (λ f o. if has_fixed_list f n (unwrap_or o []) || list_eq (unwrap_or o []) (n ∷ []) then f n else 0) same (t.lists kind.Mapper)
  ]
