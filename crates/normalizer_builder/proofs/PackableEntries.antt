-- Entries of records that aren't refused can be packed.
use Rattle.std.proofs.Common.{◌≡◌, ◌≢◌, ℕ, ◌<◌, ◌≤◌, true, false, nat_lt, nat_le, List, [], ◌∷◌, length, map, Option, Some, None, All, IfSome, inl, inr, refl, subst}
use Rattle.std.proofs.Common.{sym, arith, filter_map}
use Rattle.std.specs.List.{cons_option, list_all, list_any}
use Rattle.std.proofs.lemmas.Bool.{cases_Bool, false_from_ne_true, or_parts, true≢false}
use Rattle.std.proofs.lemmas.Bool.Decides.{nat_tests}
use Rattle.std.proofs.lemmas.List.Elements.{All-cons}
use Rattle.normalizer_tables.specs.SpecialLists.{fdfa_list}
use Rattle.normalizer_tables.specs.declared.entry.Kind.{Kind}
use Rattle.normalizer_packing.specs.declared.spelling.Spelling.{Spelling}
use Rattle.normalizer_packing.specs.declared.spelling.Spelling.TheVariants.{Final, Short, Listed}
use Rattle.normalizer_tables.specs.Entries.{EntryValue, class_in, own_list}
use Rattle.normalizer_packing.specs.Packing.{ArePackable}
use Rattle.normalizer_packing.specs.Spelling.{spelling, spelling_or_ignored, spelling_by_list, spelling_of_list}
use Rattle.normalizer_packing.specs.Stored.{HasLengthOfWord, is_narrow, listed_of, listed_in}
use Rattle.normalizer_records.specs.RecordValue.{RecordValue, Uts46RecordValue}
use Rattle.normalizer_records.specs.Faults.{IsFirstRefusal, is_long}
use Rattle.normalizer_records.specs.Recorded.{IsOfCharacters}
use Rattle.normalizer_records.specs.Recorded.{AreMadeOf, entry_for}
use Rattle.normalizer_builder.proofs.EntriesOfRecords.{AreRising-made, own_recorded}
use Rattle.normalizer_builder.proofs.NoRefusal.{IsGiven, IsGiven-recorded}

-- if not all characters are below, one is past U+FFFF
some_past : (x : List ℕ) → list_all (λ c. nat_le c 0xFFFF) x ≡ false → list_any (λ c. nat_lt 0xFFFF c) x ≡ true
some_past [] h = absurd (true≢false h)
some_past (c ∷ x) h = let later = some_past x in grind (arith, nat_tests)

wide_length : (x : List ℕ) → is_long x ≡ false → is_narrow x ≡ false → length x ≤ 16
unfolding is_narrow
wide_length x short wide = let past = some_past x in grind (arith, nat_tests)

length_of_word : (x : List ℕ) → 0 < length x → is_long x ≡ false → HasLengthOfWord x
unfolding HasLengthOfWord
length_of_word x some short = elim (cases_Bool (is_narrow x)) [
  | inl narrow ↦ rw (narrow, HasLengthOfWord) (let part = (or_parts (nat_lt 17 (length x)) _ short).0 in grind (arith, nat_tests))
  | inr wide ↦ rw (wide, HasLengthOfWord) (some, wide_length x short wide)
]

-- a word spells the list of U+FDFA
fdfa_spelled : (class : ℕ → ℕ) (n : ℕ) → spelling class n (Some fdfa_list) ≢ Listed
unfolding spelling spelling_or_ignored spelling_by_list spelling_of_list fdfa_list
fdfa_spelled class n e = absurd (grind arith)

-- the list of an entry made of records has a length for which a word has room, if it is in a table
listed_given : (records : List RecordValue) (m : ℕ) (class : ℕ → ℕ) (k : Kind) (e : EntryValue) → IfSome (own_list k e) (IsGiven records k m) → IfSome (listed_of class k e) HasLengthOfWord
unfolding listed_of
listed_given records m class k e given = of_list (own_list k e) given (spelling class e.character (own_list k e)) refl
  where
    of_list : (o : Option (List ℕ)) → IfSome o (IsGiven records k m) → (s : Spelling) → spelling class e.character o ≡ s →
        IfSome (elim s as (λ _. Option (List ℕ)) [ Final w ↦ None | Short w ↦ None | Listed ↦ o ]) HasLengthOfWord
    of_list o given (Final w) is = tt
    of_list o given (Short w) is = tt
    of_list None given Listed is = tt
    of_list (Some x) given Listed is = length_of_word x given.sound.some
        (false_from_ne_true _ (λ long. given.short (long, λ same. fdfa_spelled class e.character (subst (λ (y : List ℕ). spelling class e.character (Some y) ≡ Listed) same is))))

All-made : {X Y : Type 0} (P : Y → Type 0) (make : ℕ → X) (h : X → Option Y) → ((c : ℕ) → IfSome (h (make c)) P) → (cs : List ℕ) → All P (filter_map h (map make cs))
All-made P make h each [] = λ k d within. absurd (omega arith)
All-made P make h each (c ∷ cs) = elim (h (make c)) as (λ o. IfSome o P → All P (cons_option o (filter_map h (map make cs)))) [
  | Some y ↦ λ holds. All-cons P y (filter_map h (map make cs)) holds (All-made P make h each cs)
  | None ↦ λ _. All-made P make h each cs
] (each c)

pub ArePackable-made : (records : List RecordValue) (uts46 : List Uts46RecordValue) → IsFirstRefusal records uts46 None → (entries : List EntryValue) → AreMadeOf records uts46 entries →
    All IsOfCharacters entries → ArePackable entries
unfolding listed_in
ArePackable-made records uts46 none entries made characters = record {
  rising = AreRising-made records uts46 none entries made characters;
  lengths = λ k. subst (λ (es : List EntryValue). All HasLengthOfWord (filter_map (listed_of (class_in entries) k) es)) (sym made.made)
      (All-made HasLengthOfWord (entry_for records uts46) (listed_of (class_in entries) k)
      (λ c. listed_given records c (class_in entries) k (entry_for records uts46 c) (rw (own_recorded records uts46 k c) (IsGiven-recorded records uts46 none k c))) made.characters);
}
