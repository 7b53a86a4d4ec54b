-- What entries say of characters, with and without those of the ranges beside them.
use Rattle.std.proofs.Common.{◌≡◌, ◌∙◌, ◌⊎◌, inl, inr, ℕ, ◌==◌, Bool, true, false, not, List, [], ◌∷◌, filter, filter_map, find, All, Option, Some, None, refl, sym, ap, arith}
use Rattle.std.proofs.Common.{eqb-true, eq-eqb}
use Rattle.std.specs.Char.{IsScalar}
use Rattle.std.specs.List.{cons_option}
use Rattle.std.proofs.lemmas.Bool.{cases_Bool, true≢false}
use Rattle.std.proofs.lemmas.Bool.Decides.{nat_tests}
use Rattle.std.proofs.lemmas.List.Elements.{All-contains, All-head, All-tail}
use Rattle.normalizer_tables.specs.Entries.{EntryValue, class_in, entry_of, list_in, own_list}
use Rattle.normalizer_tables.specs.declared.entry.Kind.{Kind}
use Rattle.normalizer_tables.specs.declared.entry.Kind.TheVariants.{Canonical, Compatibility, Mapper}
use Rattle.normalizer_tables.specs.SpecialLists.{fixed_list_of}
use Rattle.normalizer_tables.specs.declared.step.Step.{Step}
use Rattle.normalizer_tables.specs.declared.step.Step.TheVariants.{Default}
use Rattle.normalizer_packing.specs.declared.spelling.Spelling.{Spelling}
use Rattle.normalizer_packing.specs.declared.spelling.Spelling.TheVariants.{Final, Short, Listed}
use Rattle.normalizer_packing.specs.Disallowed.{AreBeside, disallowed_entry, is_in}
use Rattle.normalizer_packing.specs.Spelling.{final_word, has_fixed_list, spelling, spelling_by_list, spelling_of_list, spelling_or_ignored}
use Rattle.normalizer_packing.specs.StepWords.{asked_step, step_in, step_lists, stored_step, stored_steps}
use Rattle.normalizer_packing.specs.Stored.{canonical_lists, first_come, item_of, listed_in, listed_of, needed_items, supplementary_lists}
use Rattle.normalizer_packing.proofs.entry_data.EntryLemmas.{find-tells}
use Rattle.normalizer_packing.proofs.words_of_lists.SpelledWords.{alone_spelled}

-- what is looked for is found among those that pass, if it passes
pub find-filter : {X : Type 0} (p q : X → Bool) (xs : List X) → ((x : X) → p x ≡ true → q x ≡ true) → find p (filter q xs) ≡ find p xs
find-filter p q [] passes = refl
find-filter p q (x ∷ xs) passes = let rest = find-filter p q xs passes in let first = passes x in grind arith

-- and isn't if it doesn't
pub find-dropped : {X : Type 0} (p q : X → Bool) (xs : List X) → ((x : X) → p x ≡ true → q x ≡ false) → find p (filter q xs) ≡ None
find-dropped p q [] drops = refl
find-dropped p q (x ∷ xs) drops = let rest = find-dropped p q xs drops in let first = drops x in grind arith

-- what is dropped has no result
filter_map-filter : {X Y : Type 0} (h : X → Option Y) (q : X → Bool) (xs : List X) → All (λ x. q x ≡ false → h x ≡ None) xs → filter_map h (filter q xs) ≡ filter_map h xs
filter_map-filter h q [] none = refl
filter_map-filter {X} {Y} h q (x ∷ xs) none =
    let rest = filter_map-filter h q xs (All-tail (λ y. q y ≡ false → h y ≡ None) x xs none) in
    let first = All-head (λ y. q y ≡ false → h y ≡ None) x xs none in
    elim (cases_Bool (q x)) as (λ _. filter_map h (filter q (x ∷ xs)) ≡ filter_map h (x ∷ xs)) [
      | inl kept ↦ rw kept (ap (cons_option (h x)) rest)
      | inr dropped ↦ rw (dropped, first dropped) rest
    ]

-- the spelling of U+FFFD as the list of a character, by its final word
abbrev replaced : Option ℕ → Spelling
replaced (Some w) = Final w
replaced None = Short 0xFFFD

no_fixed-replacement : (class : ℕ → ℕ) (n : ℕ) → has_fixed_list class n (0xFFFD ∷ []) ≡ false
unfolding has_fixed_list fixed_list_of
no_fixed-replacement class n = grind (arith, nat_tests)

not_final : (n : ℕ) → final_word n ≡ None → (n == 0xFFFD) ≡ false
unfolding final_word
not_final n none = grind arith

pub replacement_spelled : (class : ℕ → ℕ) (n : ℕ) → spelling class n (Some (0xFFFD ∷ [])) ≡ replaced (final_word n)
unfolding spelling spelling_or_ignored spelling_by_list spelling_of_list
replacement_spelled class n = let free = no_fixed-replacement class n in let other = not_final n in grind (arith, nat_tests)

unlisted : (class : ℕ → ℕ) (n : ℕ) (o : Option (List ℕ)) → ((spelling class n o ≡ Listed) → ⊥) → elim (spelling class n o) as (λ _. Option (List ℕ)) [ Final w ↦ None | Short w ↦ None | Listed ↦ o ] ≡ None
unlisted class n o spelled = by (spelling class n o) refl
  where
    by : (s : Spelling) → spelling class n o ≡ s → elim s as (λ _. Option (List ℕ)) [ Final w ↦ None | Short w ↦ None | Listed ↦ o ] ≡ None
    by (Final w) is = refl
    by (Short w) is = refl
    by Listed is = absurd (spelled is)

replacement_unlisted : (class : ℕ → ℕ) (n : ℕ) → spelling class n (Some (0xFFFD ∷ [])) ≡ Listed → ⊥
replacement_unlisted class n is = by (final_word n) (sym (replacement_spelled class n) ∙ is)
  where
    by : (o : Option ℕ) → replaced o ≡ Listed → ⊥
    by (Some w) e = absurd cc
    by None e = absurd cc

-- words spell all lists of a disallowed character
disallowed-unlisted : (class : ℕ → ℕ) (kind : Kind) (n : ℕ) → listed_of class kind (disallowed_entry n) ≡ None
unfolding listed_of
disallowed-unlisted class Canonical n = unlisted class n (Some (n ∷ [])) (alone_spelled class n)
disallowed-unlisted class Compatibility n = unlisted class n (Some (n ∷ [])) (alone_spelled class n)
disallowed-unlisted class Mapper n = unlisted class n (Some (0xFFFD ∷ [])) (replacement_unlisted class n)

-- and no step of it needs the supplement
disallowed-stepless : (entries : List EntryValue) (n : ℕ) → asked_step entries (disallowed_entry n) ≡ Default
unfolding asked_step
disallowed-stepless entries n = grind arith

default_stored : stored_step Default ≡ None
unfolding stored_step
default_stored = refl

-- what an entry says, or that there is none
abbrev entry_class : Option EntryValue → ℕ
entry_class o = elim o as (λ _. ℕ) [ Some e ↦ e.class | None ↦ 0 ]

abbrev entry_list : Kind → ℕ → Option EntryValue → Option (List ℕ)
entry_list kind n o = elim o as (λ _. Option (List ℕ)) [ Some e ↦ own_list kind e | None ↦ Some (n ∷ []) ]

abbrev entry_step : List EntryValue → Option EntryValue → Step
entry_step entries o = elim o as (λ _. Step) [ Some e ↦ asked_step entries e | None ↦ Default ]

module _ (ranges : List (ℕ × ℕ)) (entries all : List EntryValue) (beside : AreBeside ranges entries all) where
  entry-apart : (n : ℕ) → is_in ranges n ≡ false → entry_of all n ≡ entry_of entries n
  unfolding entry_of
  entry-apart n apart = sym (ap (find (λ (e : EntryValue). e.character == n)) beside.others
      ∙ find-filter (λ (e : EntryValue). e.character == n) (λ e. not (is_in ranges e.character)) all (λ e same. ap (λ m. not (is_in ranges m)) (eqb-true _ _ same) ∙ ap not apart))

  entry-none : (n : ℕ) → is_in ranges n ≡ true → entry_of entries n ≡ None
  unfolding entry_of
  entry-none n is = ap (find (λ (e : EntryValue). e.character == n)) beside.others
      ∙ find-dropped (λ (e : EntryValue). e.character == n) (λ e. not (is_in ranges e.character)) all (λ e same. ap (λ m. not (is_in ranges m)) (eqb-true _ _ same) ∙ ap not is)

  -- the entry of a number in the ranges, if it has one
  entry-in : (n : ℕ) → is_in ranges n ≡ true → ((entry_of all n ≡ None) × (IsScalar n → ⊥)) ⊎ (entry_of all n ≡ Some (disallowed_entry n))
  unfolding entry_of
  entry-in n is = elim (find-tells {X = EntryValue} (λ e. e.character == n) all) [
    | inl none ↦ inl (none.0, λ scalar. true≢false (sym (eq-eqb n n refl) ∙ All-contains (λ (e : EntryValue). (e.character == n) ≡ false) all (disallowed_entry n) none.1 (beside.each n scalar is)))
    | inr some ↦ inr (
        let same : some.0.character ≡ n = eqb-true _ _ some.3 in
        some.1 ∙ ap Some (All-contains (λ (e : EntryValue). is_in ranges e.character ≡ true → e ≡ disallowed_entry e.character) all some.0 beside.disallowed some.2 (ap (is_in ranges) same ∙ is)
        ∙ ap disallowed_entry same))
  ]

  class-same : (n : ℕ) → class_in all n ≡ class_in entries n
  unfolding class_in
  class-same n = elim (cases_Bool (is_in ranges n)) as (λ _. class_in all n ≡ class_in entries n) [
    | inl is ↦ elim (entry-in n is) as (λ _. class_in all n ≡ class_in entries n) [
      | inl none ↦ ap entry_class (none.0 ∙ sym (entry-none n is))
      | inr some ↦ ap entry_class some ∙ ap entry_class (sym (entry-none n is))
    ]
    | inr apart ↦ ap entry_class (entry-apart n apart)
  ]

  pub classes : class_in all ≡ class_in entries
  classes = λ i n. class-same n i

  -- a list that a disallowed character has without an entry too
  list-same : (kind : Kind) → ((n : ℕ) → own_list kind (disallowed_entry n) ≡ Some (n ∷ [])) → (n : ℕ) → list_in kind all n ≡ list_in kind entries n
  unfolding list_in
  list-same kind alone n = elim (cases_Bool (is_in ranges n)) as (λ _. list_in kind all n ≡ list_in kind entries n) [
    | inl is ↦ elim (entry-in n is) as (λ _. list_in kind all n ≡ list_in kind entries n) [
      | inl none ↦ ap (entry_list kind n) (none.0 ∙ sym (entry-none n is))
      | inr some ↦ ap (entry_list kind n) some ∙ alone n ∙ ap (entry_list kind n) (sym (entry-none n is))
    ]
    | inr apart ↦ ap (entry_list kind n) (entry-apart n apart)
  ]

  pub list-apart : (kind : Kind) (n : ℕ) → is_in ranges n ≡ false → list_in kind all n ≡ list_in kind entries n
  unfolding list_in
  list-apart kind n apart = ap (entry_list kind n) (entry-apart n apart)

  pub canonical-same : (n : ℕ) → list_in Canonical all n ≡ list_in Canonical entries n
  canonical-same n = list-same Canonical (λ m. refl) n

  pub compatibility-same : (n : ℕ) → list_in Compatibility all n ≡ list_in Compatibility entries n
  compatibility-same n = list-same Compatibility (λ m. refl) n

  -- what the mapper replaces
  pub list-replaced : (n : ℕ) → IsScalar n → is_in ranges n ≡ true → list_in Mapper all n ≡ Some (0xFFFD ∷ [])
  unfolding list_in
  list-replaced n scalar is = elim (entry-in n is) as (λ _. list_in Mapper all n ≡ Some (0xFFFD ∷ [])) [
    | inl none ↦ absurd (none.1 scalar)
    | inr some ↦ ap (entry_list Mapper n) some
  ]

  -- entries beside which those of the ranges have no result
  given-same : {Y : Type 0} (h : EntryValue → Option Y) → ((n : ℕ) → h (disallowed_entry n) ≡ None) → filter_map h all ≡ filter_map h entries
  given-same h none = sym (ap (filter_map h) beside.others ∙ filter_map-filter h (λ e. not (is_in ranges e.character)) all
      (λ k d within dropped. ap h (beside.disallowed k d within (in-dropped _ dropped)) ∙ none _))
    where
      in-dropped : (b : Bool) → not b ≡ false → b ≡ true
      in-dropped true e = refl
      in-dropped false e = absurd (true≢false e)

  pub listed-same : (kind : Kind) → listed_in all kind ≡ listed_in entries kind
  unfolding listed_in
  listed-same kind = ap (λ class. filter_map (listed_of class kind) all) classes ∙ given-same (listed_of (class_in entries) kind) (disallowed-unlisted (class_in entries) kind)

  pub canonical_lists-same : canonical_lists all ≡ canonical_lists entries
  unfolding canonical_lists
  canonical_lists-same = ap first_come (listed-same Canonical)

  pub supplementary_lists-same : supplementary_lists all ≡ supplementary_lists entries
  unfolding supplementary_lists
  supplementary_lists-same = rw (listed-same Canonical, listed-same Compatibility, listed-same Mapper) refl

  pub item_of-same : (x : List ℕ) → item_of all x ≡ item_of entries x
  unfolding item_of
  item_of-same x = rw (canonical_lists-same, supplementary_lists-same) refl

  pub needed_items-same : needed_items all ≡ needed_items entries
  needed_items-same = rw (canonical_lists-same, supplementary_lists-same) refl

  asked-same : (e : EntryValue) → asked_step all e ≡ asked_step entries e
  unfolding asked_step
  asked-same e = rw classes refl

  pub step_lists-same : step_lists all ≡ step_lists entries
  unfolding step_lists stored_steps
  step_lists-same = ap first_come
      (ap (λ (asked : EntryValue → Step). filter_map (λ e. stored_step (asked e)) all) (λ i e. asked-same e i)
      ∙ given-same (λ e. stored_step (asked_step entries e)) (λ n. ap stored_step (disallowed-stepless entries n) ∙ default_stored))

  pub step_in-same : (n : ℕ) → step_in all n ≡ step_in entries n
  unfolding step_in
  step_in-same n = elim (cases_Bool (is_in ranges n)) as (λ _. step_in all n ≡ step_in entries n) [
    | inl is ↦ elim (entry-in n is) as (λ _. step_in all n ≡ step_in entries n) [
      | inl none ↦ ap (entry_step all) none.0 ∙ ap (entry_step entries) (sym (entry-none n is))
      | inr some ↦ ap (entry_step all) some ∙ disallowed-stepless all n ∙ ap (entry_step entries) (sym (entry-none n is))
    ]
    | inr apart ↦ ap (entry_step all) (entry-apart n apart) ∙ by (entry_of entries n)
  ]
    where
      by : (o : Option EntryValue) → entry_step all o ≡ entry_step entries o
      by None = refl
      by (Some e) = asked-same e
