-- What words say, by how their lists are spelled.
use Rattle.std.proofs.Common.{◌≡◌, ℕ, zero, suc, Contains, ◌<◌, true, List, [], ◌∷◌, Option, Some, None, unwrap_or, Bor, refl, arith, ap, sym, ◌∙◌}
use Rattle.std.proofs.lemmas.Bool.{or_left, or_right}
use Rattle.std.specs.Char.{OutOfScalarRange}
use Rattle.std.specs.List.{cons_option, filter_map, list_any}
use Rattle.std.specs.Option.{option_copied}
use Rattle.std.proofs.lemmas.Bool.Decides.{nat_tests}
use Rattle.normalizer_tables.specs.Hangul.{is_hangul_syllable}
use Rattle.normalizer_tables.specs.Pairs.{Pair}
use Rattle.normalizer_tables.specs.conditions.CharacterConditions.{is_surrogate}
use Rattle.normalizer_tables.specs.Table.{code_points}
use Rattle.normalizer_tables.specs.declared.entry.Kind.{Kind}
use Rattle.normalizer_packing.specs.declared.spelling.Spelling.{Spelling}
use Rattle.normalizer_packing.specs.declared.spelling.Spelling.TheVariants.{Final, Short, Listed}
use Rattle.normalizer_tables.specs.Entries.{EntryValue, class_in, reading_of_entries, entry_of, kept_list, list_in, own_list}
use Rattle.normalizer_packing.specs.Flags.{IsFlagged, without_flags}
use Rattle.normalizer_packing.specs.Packing.{HasFlags, IsPackedWord, IsSpelled}
use Rattle.normalizer_packing.specs.Spelling.{final_word, list_eq, spelling, spelling_by_list, spelling_or_ignored}
use Rattle.normalizer_packing.specs.Stored.{is_among, item_of, listed_in, listed_of, pointing_word}
use Rattle.normalizer_packing.proofs.lists.TableLemmas.{eq_list}
use Rattle.normalizer_packing.proofs.entry_data.EntryLemmas.{entry_of-own}

module _ (kind : Kind) (entries : List EntryValue) (pairs : List Pair) (n : ℕ) where
  pub final_packs : (w : ℕ) → spelling (class_in entries) n (list_in kind entries n) ≡ Final w → IsPackedWord kind entries pairs n w
  final_packs w is = record { spelled = rw is refl; flags = rw is tt }

  pub short_packs : (word w : ℕ) → spelling (class_in entries) n (list_in kind entries n) ≡ Short word → without_flags w ≡ word →
      IsFlagged (reading_of_entries entries pairs) pairs n (kept_list kind entries n) w → IsPackedWord kind entries pairs n w
  short_packs word w is same flags = record { spelled = rw is same; flags = rw is flags }

  pub listed_packs : (item w : ℕ) → spelling (class_in entries) n (list_in kind entries n) ≡ Listed → item ≡ item_of entries (kept_list kind entries n) →
      without_flags w ≡ pointing_word (class_in entries) (kept_list kind entries n) item → IsFlagged (reading_of_entries entries pairs) pairs n (kept_list kind entries n) w →
      IsPackedWord kind entries pairs n w
  listed_packs item w is item_is same flags = record { spelled = rw is (same ∙ ap (pointing_word (class_in entries) (kept_list kind entries n)) item_is); flags = rw is flags }

-- entries that say the same of a number, also in data of two kinds, give it the same word
pub word-same : (kind other : Kind) (es fs : List EntryValue) (pairs : List Pair) (n w : ℕ) → class_in fs ≡ class_in es → list_in other fs n ≡ list_in kind es n →
    ((x : List ℕ) → item_of fs x ≡ item_of es x) → IsPackedWord kind es pairs n w → IsPackedWord other fs pairs n w
unfolding kept_list
word-same kind other es fs pairs n w class list item h = by (spelling (class_in es) n (list_in kind es n)) (rw (class, list) refl) h.spelled h.flags
  where
    by : (s : Spelling) → spelling (class_in fs) n (list_in other fs n) ≡ s → IsSpelled es (kept_list kind es n) s w → HasFlags kind es pairs n s w → IsPackedWord other fs pairs n w
    by (Final v) is spelled flags = final_packs other fs pairs n w (is ∙ ap Final (sym spelled))
    by (Short v) is spelled flags = short_packs other fs pairs n v w is spelled (rw (class, list) flags)
    by Listed is spelled flags = listed_packs other fs pairs n (item_of es (kept_list kind es n)) w is (rw list (sym (item (kept_list kind es n)))) (rw (class, list) spelled) (rw (class, list) flags)

-- the word in another kind of data, if that has the same list
pub other_word : (kind other : Kind) (entries : List EntryValue) (pairs : List Pair) (n w : ℕ) → list_in kind entries n ≡ list_in other entries n → IsPackedWord other entries pairs n w →
    IsPackedWord kind entries pairs n w
other_word kind other entries pairs n w list h = word-same other kind entries entries pairs n w refl list (λ x. refl) h

-- the word of a character packs it
pub ruleset packed_words = (final_packs, short_packs, listed_packs)

-- the result of an element is among those of all
pub given_among : (f : EntryValue → Option (List ℕ)) (entries : List EntryValue) (e : EntryValue) (x : List ℕ) → Contains entries e → f e ≡ Some x →
    is_among x (filter_map f entries) ≡ true
unfolding is_among
given_among f [] e x there some = absurd (omega (arith, there.1))
given_among f (y ∷ entries) e x (zero, within, is) some = rw (ap f is ∙ some) (or_left (list_eq x x) (list_any (list_eq x) (filter_map f entries)) (eq_list x x refl))
given_among f (y ∷ entries) e x (suc k, within, is) some = elim (f y) as (λ o. list_any (list_eq x) (cons_option o (filter_map f entries)) ≡ true) [
  | None ↦ given_among f entries e x (k, omega arith, is) some
  | Some z ↦ or_right (list_eq x z) _ (given_among f entries e x (k, omega arith, is) some)
]

-- the character alone needs no table
pub alone_spelled : (class : ℕ → ℕ) (n : ℕ) → spelling class n (Some (n ∷ [])) ≡ Listed → ⊥
unfolding spelling spelling_or_ignored spelling_by_list
alone_spelled class n is = let same = eq_list (n ∷ []) (n ∷ []) refl in absurd (grind arith)

-- an ignored character needs none
ignored_spelled : (class : ℕ → ℕ) (n : ℕ) → spelling class n None ≡ Listed → ⊥
unfolding spelling spelling_or_ignored
ignored_spelled class n is = absurd (grind arith)

listed_own : (class : ℕ → ℕ) (kind : Kind) (e : EntryValue) (x : List ℕ) → own_list kind e ≡ Some x → spelling class e.character (Some x) ≡ Listed → listed_of class kind e ≡ Some x
unfolding listed_of
listed_own class kind e x own is = grind arith

-- a list that no word spells is one of those of its kind
pub listed_among : (kind : Kind) (entries : List EntryValue) (n : ℕ) → spelling (class_in entries) n (list_in kind entries n) ≡ Listed →
    is_among (kept_list kind entries n) (listed_in entries kind) ≡ true
unfolding list_in kept_list listed_in
listed_among kind entries n is = by (entry_of entries n) refl is
  where
    own : (e : EntryValue) → entry_of entries n ≡ Some e → (o : Option (List ℕ)) → own_list kind e ≡ o → spelling (class_in entries) n o ≡ Listed →
        is_among (unwrap_or o []) (filter_map (listed_of (class_in entries) kind) entries) ≡ true
    own e found None some is = absurd (ignored_spelled (class_in entries) n is)
    own e found (Some x) some is =
        let one = entry_of-own entries n e found in
        given_among (listed_of (class_in entries) kind) entries e x one.1 (listed_own (class_in entries) kind e x some (rw one.0 is))

    by : (o : Option EntryValue) → entry_of entries n ≡ o → spelling (class_in entries) n (elim o [ Some e ↦ own_list kind e | None ↦ Some (n ∷ []) ]) ≡ Listed →
        is_among (unwrap_or (elim o as (λ _. Option (List ℕ)) [ Some e ↦ own_list kind e | None ↦ Some (n ∷ []) ]) []) (filter_map (listed_of (class_in entries) kind) entries) ≡ true
    by None none is = absurd (alone_spelled (class_in entries) n is)
    by (Some e) found is = own e found (own_list kind e) refl is

pub surrogate_spelled : (class : ℕ → ℕ) (n : ℕ) (list : Option (List ℕ)) → n < code_points → OutOfScalarRange n → spelling class n list ≡ Final 0xC000FFFD
unfolding spelling final_word is_hangul_syllable is_surrogate code_points
surrogate_spelled class n list within out = grind (arith, nat_tests)

-- the word of a number that is no character
pub surrogate_packs : (kind : Kind) (entries : List EntryValue) (pairs : List Pair) (n : ℕ) → n < code_points → OutOfScalarRange n → IsPackedWord kind entries pairs n 0xC000FFFD
surrogate_packs kind entries pairs n within out = final_packs kind entries pairs n _ (surrogate_spelled _ n _ within out)

-- the same of a list that a look-up has lent
pub listed_lent : (kind : Kind) (entries : List EntryValue) (n : ℕ) (o : Option (Bor (List ℕ))) (k d : Bor (List ℕ)) → k ≡ unwrap_or o d → d.now ≡ [] → option_copied o ≡ list_in kind entries n →
    Listed ≡ spelling (class_in entries) n (list_in kind entries n) → is_among k.now (listed_in entries kind) ≡ true
unfolding kept_list
listed_lent kind entries n o k d is empty same spelled =
    let kept : k.now ≡ kept_list kind entries n = grind arith in
    let among = listed_among kind entries n (sym spelled) in rw kept among
