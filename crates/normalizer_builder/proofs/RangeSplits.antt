-- The records that ranges list are split into ranges that stay ranges, and the records of the others.
use Rattle.std.proofs.Common.{◌≡◌, ◌∙◌, ◌⊎◌, inl, inr, ℕ, suc, ◌+◌, ◌-◌, ◌<◌, ◌≤◌, ◌==◌, Bool, true, false, not, cond, ◌&&◌, ◌||◌, nat_lt, nat_le, List, [], ◌∷◌, ◌++◌, filter, find, All, AllPairs, Contains, take, get_or, length}
use Rattle.std.proofs.Common.{Some, None, refl, sym, ap, subst, arith, flat_map}
use Rattle.std.specs.Char.{IsScalar}
use Rattle.std.specs.Int.{is_in_range}
use Rattle.std.proofs.lemmas.Bool.{and_parts, cases_Bool, false_from_ne_true, not-true, true≢false}
use Rattle.std.proofs.lemmas.Bool.Decides.{nat_tests}
use Rattle.std.proofs.Math.Seq.{take-suc}
use Rattle.std.proofs.lemmas.List.{append-nil}
use Rattle.std.proofs.lemmas.List.Concat.{flat_map-append}
use Rattle.std.proofs.lemmas.List.Elements.{All-append, All-head, All-nil, All-tail, Contains-append_left, Contains-append_right, filter-append}
use Rattle.std.proofs.lemmas.List.Folds.{list_any-append}
use Rattle.std.proofs.lemmas.List.Kept.{AllPairs-cons}
use Rattle.normalizer_tables.specs.Hangul.{is_hangul_syllable}
use Rattle.normalizer_packing.specs.Disallowed.{is_in}
use Rattle.normalizer_records.specs.Faults.{is_disallowed, is_fixed}
use Rattle.normalizer_records.specs.Meaning.{entry_of}
use Rattle.normalizer_records.specs.Ranges.{Uts46RangeValue, entries_of}
use Rattle.normalizer_records.specs.RecordValue.{IsDisallowed, IsIgnored, MapsTo, RecordValue, Status, Uts46RecordValue}
use Rattle.normalizer_records.proofs.RangeRecords.{IsOfRange, character, of_ranges, record_in_range, records_of_range}
use Rattle.normalizer_records.proofs.RisingLemmas.{rising}
use Rattle.normalizer_builder.specs.inner.Ranges.{IsSplit, ends_of, is_free, is_recorded, whole_range}

-- a filter of what all passes, or of what none does
filter_all : {X : Type 0} (q : X → Bool) (xs : List X) → All (λ x. q x ≡ true) xs → filter q xs ≡ xs
filter_all q [] h = refl
filter_all q (x ∷ xs) h = rw (All-head (λ y. q y ≡ true) x xs h) (ap (λ ys. x ∷ ys) (filter_all q xs (All-tail (λ y. q y ≡ true) x xs h)))

filter_none : {X : Type 0} (q : X → Bool) (xs : List X) → All (λ x. q x ≡ false) xs → filter q xs ≡ []
filter_none q [] h = refl
filter_none q (x ∷ xs) h = rw (All-head (λ y. q y ≡ false) x xs h) (filter_none q xs (All-tail (λ y. q y ≡ false) x xs h))

-- two tests that agree on a list
filter_same : {X : Type 0} (p q : X → Bool) (xs : List X) → All (λ x. p x ≡ q x) xs → filter p xs ≡ filter q xs
filter_same p q [] h = refl
filter_same p q (x ∷ xs) h = rw (All-head (λ y. p y ≡ q y) x xs h) (ap (λ ys. cond (q x) (x ∷ ys) ys) (filter_same p q xs (All-tail (λ y. p y ≡ q y) x xs h)))

-- what is known of a range that stays one
pub record IsWhole (records : List RecordValue) (r : Uts46RangeValue) (ends : ℕ × ℕ) : Type 0 where
  status : r.status ≡ IsDisallowed
  first : ends.0 ≡ r.first
  last : ends.1 + 1 ≡ r.end
  unrecorded : (n : ℕ) → r.first ≤ n → n < r.end → entry_of records n ≡ None
  unfixed : (n : ℕ) → r.first ≤ n → n < r.end → is_fixed n ≡ false

disallowed_status : (s : Status) → is_disallowed s ≡ true → s ≡ IsDisallowed
disallowed_status IsDisallowed h = refl
disallowed_status IsIgnored h = absurd (true≢false (sym h))
disallowed_status (MapsTo x) h = absurd (true≢false (sym h))

free_unfixed : (first end n : ℕ) → is_free first end ≡ true → first ≤ n → n < end → is_fixed n ≡ false
unfolding is_free is_fixed is_hangul_syllable
free_unfixed first end n free low high = grind (arith, nat_tests)

unrecorded_in : (records : List RecordValue) (first end n : ℕ) → is_recorded records first end ≡ false → first ≤ n → n < end → find (λ r. r.c == n) records ≡ None
unfolding is_recorded
unrecorded_in [] first end n none low high = refl
unrecorded_in (r ∷ records) first end n none low high =
    let rest = unrecorded_in records first end n in grind (arith, nat_tests)

ends_are : (first end : ℕ) (ends : ℕ × ℕ) → ends_of first end ≡ Some ends → (ends.0 ≡ first) × (ends.1 + 1 ≡ end)
unfolding ends_of
ends_are first end ends is = by _ refl is
  where
    by : (b : Bool) → (nat_lt 0 end && ((is_in_range 0 0xD7FF first || is_in_range 0xE000 0x10FFFF first) && (is_in_range 0 0xD7FF (end - 1) || is_in_range 0xE000 0x10FFFF (end - 1)))) ≡ b →
        cond b (Some (first, end - 1)) None ≡ Some ends → (ends.0 ≡ first) × (ends.1 + 1 ≡ end)
    by false test e = absurd cc
    by true test e =
        let same : (first, end - 1) ≡ ends = cc in
        let some = (and_parts (nat_lt 0 end) _ test).0 in
        let last : end - 1 ≡ ends.1 = ap (λ (p : ℕ × ℕ). p.1) same in
        (sym (ap (λ (p : ℕ × ℕ). p.0) same), grind (arith, nat_tests))

pub whole_is : (records : List RecordValue) (r : Uts46RangeValue) (ends : ℕ × ℕ) → whole_range records r ≡ Some ends → IsWhole records r ends
unfolding whole_range entry_of
whole_is records r ends is = by _ refl is
  where
    by : (b : Bool) → (is_disallowed r.status && (is_free r.first r.end && not (is_recorded records r.first r.end))) ≡ b → cond b (ends_of r.first r.end) None ≡ Some ends → IsWhole records r ends
    by false test e = absurd cc
    by true test e =
        let one = and_parts (is_disallowed r.status) _ test in
        let two = and_parts (is_free r.first r.end) _ one.1 in
        let both = ends_are r.first r.end ends e in
        record {
          status = disallowed_status r.status one.0;
          first = both.0;
          last = both.1;
          unrecorded = λ n low high. unrecorded_in records r.first r.end n (not-true (is_recorded records r.first r.end) two.1) low high;
          unfixed = λ n low high. free_unfixed r.first r.end n two.0 low high;
        }

-- two lists one after the other
AllPairs-append : {X : Type 0} (R : X → X → Type 0) (xs ys : List X) → AllPairs R xs → AllPairs R ys → All (λ x. All (R x) ys) xs → AllPairs R (xs ++ ys)
AllPairs-append R [] ys left right across = right
AllPairs-append R (x ∷ xs) ys left right across =
    AllPairs-cons R x (xs ++ ys) (All-append (R x) xs ys (λ k d within. left 0 (suc k) d (omega arith) (omega arith)) (All-head (λ z. All (R z) ys) x xs across))
    (AllPairs-append R xs ys (λ i j d below within. left (suc i) (suc j) d (omega arith) (omega arith)) right (All-tail (λ z. All (R z) ys) x xs across))

or_false : (b : Bool) → (b || false) ≡ b
or_false true = refl
or_false false = refl

-- in one of the ranges, or in the last one
in_push : (ranges : List (ℕ × ℕ)) (r : ℕ × ℕ) (n : ℕ) → is_in (ranges ++ r ∷ []) n ≡ (is_in ranges n || ((nat_le r.0 n && nat_le n r.1) || false))
unfolding is_in
in_push ranges r n = list_any-append (λ (s : ℕ × ℕ). nat_le s.0 n && nat_le n s.1) ranges (r ∷ [])

module _ (records : List RecordValue) where
  pub none_split : IsSplit records [] [] [] 0
  unfolding is_in
  none_split = record {
    rising = λ i j d below within. absurd (omega arith);
    before = All-nil (λ r. r.c < 0);
    early = λ m is. absurd (true≢false (sym is));
    kept = refl;
    disallowed = All-nil (λ r. is_in [] r.c ≡ true → r.status ≡ IsDisallowed);
    characters = All-nil (λ r. IsScalar r.c);
    each = λ m scalar is. absurd (true≢false (sym is));
    unrecorded = λ m is. absurd (true≢false (sym is));
    unfixed = λ m is. absurd (true≢false (sym is));
  }

  module _ (r : Uts46RangeValue) (all others : List Uts46RecordValue) (whole : List (ℕ × ℕ)) (end : ℕ) (so_far : IsSplit records all others whole end) (later : end ≤ r.first) (some : r.first ≤ r.end) where
    own : All (IsOfRange r.first r.end r.status) (entries_of r)
    own = records_of_range r some

    own_rise : AllPairs (λ x y. x.c < y.c) (entries_of r)
    own_rise = subst (AllPairs (λ (x y : Uts46RecordValue). x.c < y.c)) (append-nil (entries_of r)) (rising character r.first r.end (entries_of r ++ []) (of_ranges r.first r.end (r ∷ []) (omega arith, some, omega arith)))

    all_rise : AllPairs (λ x y. x.c < y.c) (all ++ entries_of r)
    all_rise = AllPairs-append (λ (x y : Uts46RecordValue). x.c < y.c) all (entries_of r) so_far.rising own_rise
        (λ k d within i e inside. let low = so_far.before k d within in let high = (own i e inside).low in omega arith)

    all_before : All (λ x. x.c < r.end) (all ++ entries_of r)
    all_before = All-append (λ (x : Uts46RecordValue). x.c < r.end) all (entries_of r)
        (λ k d within. let low = so_far.before k d within in omega arith) (λ k d within. (own k d within).high)

    all_scalars : All (λ x. IsScalar x.c) (all ++ entries_of r)
    all_scalars = All-append (λ (x : Uts46RecordValue). IsScalar x.c) all (entries_of r) so_far.characters (λ k d within. (own k d within).scalar)

    -- none of a range's own characters is in the ranges before it
    apart : (m : ℕ) → r.first ≤ m → is_in whole m ≡ false
    apart m low = false_from_ne_true _ (λ is. let high = so_far.early m is in omega arith)

    pub listed_split : IsSplit records (all ++ entries_of r) (others ++ entries_of r) whole r.end
    listed_split = record {
      rising = all_rise;
      before = all_before;
      early = λ m is. (let high = so_far.early m is in omega arith);
      kept =
          sym (filter-append (λ (x : Uts46RecordValue). not (is_in whole x.c)) all (entries_of r)
          ∙ ap (λ xs. xs ++ filter (λ (x : Uts46RecordValue). not (is_in whole x.c)) (entries_of r)) (sym so_far.kept)
          ∙ ap (λ xs. others ++ xs) (filter_all (λ (x : Uts46RecordValue). not (is_in whole x.c)) (entries_of r) (λ k d within. ap not (apart _ (own k d within).low))));
      disallowed = All-append (λ (x : Uts46RecordValue). is_in whole x.c ≡ true → x.status ≡ IsDisallowed) all (entries_of r)
          so_far.disallowed (λ k d within is. absurd (true≢false (sym is ∙ apart _ (own k d within).low)));
      characters = all_scalars;
      each = λ m scalar is. Contains-append_left all (entries_of r) _ (so_far.each m scalar is);
      unrecorded = so_far.unrecorded;
      unfixed = so_far.unfixed;
    }

    module _ (ends : ℕ × ℕ) (is_whole : IsWhole records r ends) where
      in_own : (m : ℕ) → r.first ≤ m → m < r.end → is_in (whole ++ ends ∷ []) m ≡ true
      in_own m low high = let first = is_whole.first in let last = is_whole.last in
          in_push whole ends m ∙ (let b : (nat_le ends.0 m && nat_le m ends.1) ≡ true = grind (arith, nat_tests) in rw (apart m low, b) refl)

      in_cases : (m : ℕ) → is_in (whole ++ ends ∷ []) m ≡ true → ((r.first ≤ m) × (m < r.end)) ⊎ (is_in whole m ≡ true)
      in_cases m is = elim (cases_Bool (is_in whole m)) as (λ _. ((r.first ≤ m) × (m < r.end)) ⊎ (is_in whole m ≡ true)) [
        | inl other ↦ inr other
        | inr none ↦ (
            let first = is_whole.first in
            let last = is_whole.last in
            let here : ((nat_le ends.0 m && nat_le m ends.1) || false) ≡ true = sym (in_push whole ends m ∙ rw none refl) ∙ is in
            let low : ends.0 ≤ m = grind (arith, nat_tests) in
            let high : m ≤ ends.1 = grind (arith, nat_tests) in
            inl (omega arith, omega arith))
      ]

      in_earlier : (m : ℕ) → m < end → is_in (whole ++ ends ∷ []) m ≡ is_in whole m
      in_earlier m below = let first = is_whole.first in
          in_push whole ends m ∙ (let b : (nat_le ends.0 m && nat_le m ends.1) ≡ false = grind (arith, nat_tests) in rw b (or_false (is_in whole m)))

      pub whole_split : IsSplit records (all ++ entries_of r) others (whole ++ ends ∷ []) r.end
      whole_split = record {
        rising = all_rise;
        before = all_before;
        early = λ m is. elim (in_cases m is) as (λ _. m < r.end) [ inl here ↦ here.1 | inr other ↦ (let high = so_far.early m other in omega arith) ];
        kept =
            so_far.kept ∙ sym (filter-append (λ (x : Uts46RecordValue). not (is_in (whole ++ ends ∷ []) x.c)) all (entries_of r)
            ∙ ap (λ xs. filter (λ (x : Uts46RecordValue). not (is_in (whole ++ ends ∷ []) x.c)) all ++ xs)
            (filter_none (λ (x : Uts46RecordValue). not (is_in (whole ++ ends ∷ []) x.c)) (entries_of r) (λ k d within. let o = own k d within in ap not (in_own _ o.low o.high)))
            ∙ append-nil _
            ∙ filter_same (λ (x : Uts46RecordValue). not (is_in (whole ++ ends ∷ []) x.c)) (λ x. not (is_in whole x.c)) all (λ k d within. ap not (in_earlier _ (so_far.before k d within))));
        disallowed = All-append (λ (x : Uts46RecordValue). is_in (whole ++ ends ∷ []) x.c ≡ true → x.status ≡ IsDisallowed) all (entries_of r)
            (λ k d within is. so_far.disallowed k d within (sym (in_earlier _ (so_far.before k d within)) ∙ is))
            (λ k d within is. (own k d within).is ∙ is_whole.status);
        characters = all_scalars;
        each = λ m scalar is. elim (in_cases m is) as (λ _. Contains (all ++ entries_of r) (record { c = m; status = IsDisallowed })) [
          | inl here ↦ Contains-append_right all (entries_of r) _ (subst (λ (s : Status). Contains (entries_of r) (record { c = m; status = s })) is_whole.status (record_in_range r m here.0 here.1 scalar))
          | inr other ↦ Contains-append_left all (entries_of r) _ (so_far.each m scalar other)
        ];
        unrecorded = λ m is. elim (in_cases m is) as (λ _. entry_of records m ≡ None) [ inl here ↦ is_whole.unrecorded m here.0 here.1 | inr other ↦ so_far.unrecorded m other ];
        unfixed = λ m is. elim (in_cases m is) as (λ _. is_fixed m ≡ false) [ inl here ↦ is_whole.unfixed m here.0 here.1 | inr other ↦ so_far.unfixed m other ];
      }

-- what the first elements give, and one more
pub flat_map-next : {X A : Type 0} (f : X → List A) (xs : List X) (i : ℕ) (x : X) → i < length xs → x ≡ get_or xs i x → flat_map f (take (i + 1) xs) ≡ flat_map f (take i xs) ++ f x
flat_map-next {X} {A} f xs i x within here =
    let next : suc i ≡ i + 1 = omega arith in
    subst (λ (n : ℕ). flat_map f (take n xs) ≡ flat_map f (take i xs) ++ f x) next
    (ap (flat_map f) (take-suc xs i x within) ∙ flat_map-append f (take i xs) (get_or xs i x ∷ []) ∙ ap (λ ys. flat_map f (take i xs) ++ ys) (append-nil (f (get_or xs i x)) ∙ ap f (sym here)))
