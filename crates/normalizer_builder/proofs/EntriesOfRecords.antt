-- Entries for the recorded characters say of every character what the records say.
use Rattle.std.proofs.Common.{◌≡◌, ◌∙◌, ◌⊎◌, inl, inr, ℕ, ◌<◌, Bool, true, false, ◌==◌, List, [], ◌∷◌, All, length, map, find, Some, None, ap, subst, sym, refl, arith, cond, eq-eqb, eqb-true}
use Rattle.std.specs.List.{Contains}
use Rattle.std.specs.Option.{option_map}
use Rattle.std.proofs.lemmas.Bool.{true≢false}
use Rattle.std.proofs.lemmas.List.{get_or-map, length-map}
use Rattle.std.proofs.lemmas.List.Elements.{All-contains, Contains-append_left, Contains-append_right}
use Rattle.std.proofs.lemmas.List.Kept.{AllPairs-from_increasing}
use Rattle.normalizer_tables.specs.Hangul.{is_hangul_syllable}
use Rattle.normalizer_tables.specs.declared.entry.Kind.{Kind}
use Rattle.normalizer_tables.specs.declared.entry.Kind.TheVariants as kind
use Rattle.normalizer_tables.specs.Entries.{EntryValue, AreRising, own_list, class_in, list_in, entry_of as packed_entry_of}
use Rattle.normalizer_packing.specs.ReadBack.{list_by}
use Rattle.normalizer_packing.proofs.entry_data.EntryLemmas.{Contains-map, find-missing, find-tells}
use Rattle.normalizer_records.specs.RecordValue.{RecordValue, Uts46RecordValue}
use Rattle.normalizer_records.specs.Faults.{IsFirstRefusal}
use Rattle.normalizer_records.specs.Meaning.{class_of, entry_of, status_of}
use Rattle.normalizer_records.specs.Recorded.{IsOfCharacters}
use Rattle.normalizer_records.specs.Recorded.{AreMadeOf, entry_for, recorded_characters}
use Rattle.normalizer_builder.proofs.NoRefusal.{class_of-unrecorded, no_syllables, recorded_list, recorded_list-unrecorded}

pub own_recorded : (records : List RecordValue) (uts46 : List Uts46RecordValue) (k : Kind) (n : ℕ) → own_list k (entry_for records uts46 n) ≡ recorded_list records uts46 k n
unfolding entry_for
own_recorded records uts46 kind.Canonical n = refl
own_recorded records uts46 _ n = refl

find-map : {X Y : Type 0} (f : X → Y) (p : Y → Bool) (xs : List X) → find p (map f xs) ≡ option_map f (find (λ x. p (f x)) xs)
find-map f p [] = refl
find-map {X} f p (x ∷ xs) = elim (p (f x)) as (λ b. cond b (Some (f x)) (find p (map f xs)) ≡ option_map f (cond b (Some x) (find (λ y. p (f y)) xs))) [ true ↦ refl | false ↦ find-map f p xs ]

-- n isn't recorded, and has no entry
pub record IsAlone (records : List RecordValue) (uts46 : List Uts46RecordValue) (entries : List EntryValue) (n : ℕ) : Type 0 where
  pub entry : entry_of records n ≡ None
  pub status : status_of uts46 n ≡ None
  pub class : class_in entries n ≡ 0
  pub lists : (k : Kind) → list_in k entries n ≡ Some (n ∷ [])

-- n is recorded, and its entry says what is recorded
pub record IsTold (records : List RecordValue) (uts46 : List Uts46RecordValue) (entries : List EntryValue) (n : ℕ) : Type 0 where
  pub other : is_hangul_syllable n ≡ false
  pub characters : IsOfCharacters (entry_for records uts46 n)
  pub class : class_in entries n ≡ class_of records n
  pub lists : (k : Kind) → list_in k entries n ≡ recorded_list records uts46 k n

module _ (records : List RecordValue) (uts46 : List Uts46RecordValue) (none : IsFirstRefusal records uts46 None) (entries : List EntryValue) (made : AreMadeOf records uts46 entries)
    (characters : All IsOfCharacters entries) where
  pub AreRising-made : AreRising entries
  unfolding entry_for
  AreRising-made = subst AreRising (sym made.made) (λ i j d below within.
      let inside : j < length made.characters = omega (arith, length-map made.characters (entry_for records uts46)) in
      rw (get_or-map (entry_for records uts46) made.characters i 0 d (omega arith), get_or-map (entry_for records uts46) made.characters j 0 d inside)
      (AllPairs-from_increasing made.characters made.listed.rising i j 0 below inside))

  found : (n : ℕ) → packed_entry_of entries n ≡ option_map (entry_for records uts46) (find (λ c. c == n) made.characters)
  unfolding packed_entry_of entry_for
  found n = ap (find (λ e. e.character == n)) made.made ∙ find-map (entry_for records uts46) (λ e. e.character == n) made.characters

  pub told : (n : ℕ) → IsAlone records uts46 entries n ⊎ IsTold records uts46 entries n
  unfolding entry_of status_of class_in list_in entry_for
  told n = elim (find-tells (λ c. c == n) made.characters) [
    | inl missing ↦
        let nowhere : ¬ Contains (recorded_characters records uts46) n = λ there.
        true≢false (sym (eq-eqb n n refl) ∙ All-contains (λ c. (c == n) ≡ false) made.characters n missing.1 (All-contains (Contains made.characters) _ n made.listed.all there)) in
        let none_packed : packed_entry_of entries n ≡ None = found n ∙ ap (option_map (entry_for records uts46)) missing.0 in
        inl (record {
          entry = find-missing (λ (r : RecordValue). r.c) records n (λ h. nowhere (Contains-append_left _ _ n h));
          status = ap (option_map (λ (r : Uts46RecordValue). r.status)) (find-missing (λ (r : Uts46RecordValue). r.c) uts46 n (λ h. nowhere (Contains-append_right _ _ n h)));
          class = rw (none_packed, class_in) refl;
          lists = λ k. rw (none_packed, list_in) refl;
        })
    | inr some ↦
        let here : some.0 ≡ n = eqb-true _ _ some.3 in
        let listed : Contains made.characters n = subst (Contains made.characters) here some.2 in
        let packed : packed_entry_of entries n ≡ Some (entry_for records uts46 n) = found n ∙ ap (option_map (entry_for records uts46)) (some.1 ∙ ap Some here) in
        inr (record {
          other = All-contains (λ c. is_hangul_syllable c ≡ false) _ n (no_syllables records uts46 none) (All-contains (Contains (recorded_characters records uts46)) _ n made.listed.recorded listed);
          characters = All-contains IsOfCharacters entries _ characters (rw made.made (Contains-map (entry_for records uts46) made.characters n listed));
          class = rw (packed, class_in) refl;
          lists = λ k. rw (packed, list_in) (own_recorded records uts46 k n);
        })
  ]

  pub same_class : (n : ℕ) → class_in entries n ≡ class_of records n
  same_class n = elim (told n) [ inl alone ↦ alone.class ∙ sym (class_of-unrecorded records uts46 none n alone.entry) | inr t ↦ t.class ]

  -- the data's list of n, that of Hangul syllables by arithmetic
  pub same_list : (k : Kind) (n : ℕ) → list_by k entries n ≡ recorded_list records uts46 k n
  unfolding list_by
  same_list k n = elim (told n) [
    | inl alone ↦ (let own = alone.lists k in let unrecorded = recorded_list-unrecorded records uts46 none k n alone.entry alone.status in grind arith)
    | inr t ↦ rw t.other (t.lists k)
  ]
