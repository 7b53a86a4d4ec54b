-- The first condition that fails, found number by number.
use Rattle.std.proofs.Common.{◌≡◌, ℕ, min, ◌+◌, ◌-◌, ◌<◌, ◌≤◌, inl, inr, false, List, ◌++◌, length, take, drop, All, Bor, IfSome, MatchOption}
use Rattle.std.proofs.Common.{Option, Some, None, slice_get, slice_index_or, get_or, get_or-drop, refl, ap, sym, ◌∙◌, subst, length-drop, length-take, arith}
use Rattle.std.specs.List.{AllWithin, Contains, HoldsAt as HoldsAtPlace}
use Rattle.std.specs.Option.{option_copied}
use Rattle.std.proofs.lemmas.Bool.{cases_lt}
use Rattle.std.proofs.lemmas.List.{get_or-take, take-append-drop}
use Rattle.std.proofs.lemmas.List.Elements.{All-contains}
use Rattle.std.proofs.lemmas.Option.{slice_get_within, slice_get-get_or, slice_get_cases, slice_get_past, slice_get_read, get_or_from_slice_get}
use Rattle.std.specs.Char.{IsScalar}
use Rattle.normalizer_tables.specs.declared.condition.Condition.{Condition}
use Rattle.normalizer_tables.specs.declared.condition.Condition.TheVariants.{Hangul}
use Rattle.normalizer_tables.specs.conditions.CharacterConditions.{IsSoundHangul}
use Rattle.normalizer_tables.specs.conditions.Conditions.{IsFirstFailing, IsMet, says}
use Rattle.normalizer_tables.specs.conditions.Loaded.{Loaded}
use Rattle.normalizer_check.specs.inner.Walk.{is_asked_of_words, AreUnasked, IsMetBefore, IsPlaceOfFirstFailing}
use Rattle.normalizer_tables.proofs.lists.ListedLemmas.{drop_member}
use Rattle.normalizer_check.proofs.conditions.EachCondition.{of_each-unasked}
use Rattle.normalizer_check.proofs.conditions.LoadedLemmas.{IsMet-parts}

-- what is checked before the walk is met, and what is checked of the characters below `number`
abbrev pub IsMetBelow : Loaded → ℕ → Condition → Type 0
IsMetBelow loaded number c = IsMetBefore loaded c × ((n : ℕ) → n < number → IsScalar n → (says loaded c).of_each n)

-- so much is met of the conditions before this place, and the condition at it fails
pub record FailsFirst (loaded : Loaded) (conditions : List Condition) (number place : ℕ) : Type 0 where
  pub within : place ≤ length conditions
  pub before : AllWithin (IsMetBelow loaded number) conditions 0 place
  pub fails : (c : Condition) → slice_get conditions place ≡ Some c → ¬ IsMet loaded c

slice_get-take : (conditions : List Condition) (n k : ℕ) (c : Condition) → k < n → slice_get conditions k ≡ Some c → slice_get (take n conditions) k ≡ Some c
slice_get-take conditions n k c h e =
    let within = slice_get_within conditions k c e in
    slice_get-get_or (take n conditions) k c (simp length-take (omega arith)) ∙ ap Some (get_or-take n conditions k c h ∙ get_or_from_slice_get conditions k c c e)

-- checking a number suffices for those from `from` on and below `next`, by the first condition that fails for it
pub FailsFirst-step : (loaded : Loaded) (conditions : List Condition) (from number next place nearer : ℕ) → FailsFirst loaded conditions from place →
    ((c : Condition) → IsMetBefore loaded c → (IsScalar number → (says loaded c).of_each number) → (n : ℕ) → from ≤ n → n < next → IsScalar n → (says loaded c).of_each n) →
    IsPlaceOfFirstFailing (λ c. IsScalar number → (says loaded c).of_each number) (take place conditions) nearer → FailsFirst loaded conditions next nearer
FailsFirst-step loaded conditions from number next place nearer old settles new =
    let short : nearer ≤ min place (length conditions) = simp length-take at new.within in
    record {
      within = omega arith;
      before = λ k d low h.
          (let met = old.before k d low (omega arith) in (
            met.0,
            λ n nh. elim (cases_lt n from) [
              | inl less ↦ met.1 n less
              | inr behind ↦ settles (slice_index_or conditions k d) met.0 (subst (λ c. IsScalar number → (says loaded c).of_each number) (get_or-take place conditions k d (omega arith)) (new.before k d low h)) n behind nh
            ],
          ));
      fails = λ c e q. elim (cases_lt nearer place) [
        | inl less ↦ new.fails c (slice_get-take conditions place nearer c less e) (((IsMet-parts loaded c).0 q).1 number)
        | inr past ↦ old.fails c (let same : nearer ≡ place = omega arith in rw same at e) q
      ];
    }

All-front : (P : Condition → Type 0) (conditions : List Condition) (place : ℕ) → AllWithin P conditions 0 place → All P (take place conditions)
All-front P conditions place h k d kh =
    let short : k < min place (length conditions) = simp length-take at kh in
    subst P (sym (get_or-take place conditions k d (omega arith))) (h k d (omega arith) (omega arith))

-- if Hangul is among the conditions that are met before the walk, it is sound
pub has_sound_hangul : (loaded : Loaded) (conditions : List Condition) (place : ℕ) → IsPlaceOfFirstFailing (IsMetBefore loaded) conditions place →
    Contains (take place conditions) Hangul → (n : ℕ) → IsSoundHangul loaded.characters n
unfolding says
has_sound_hangul loaded conditions place h asked = (All-contains (IsMetBefore loaded) (take place conditions) Hangul (All-front (IsMetBefore loaded) conditions place h.before) asked).0

-- if these are all numbers, it is the first that fails
pub FailsFirst-all : (loaded : Loaded) (conditions : List Condition) (number place : ℕ) (r : Option Condition) → FailsFirst loaded conditions number place →
    AllWithin (λ c. IsMetBelow loaded number c → IsMet loaded c) conditions 0 place → r ≡ slice_get conditions place → IsFirstFailing (IsMet loaded) conditions r
unfolding IsFirstFailing
FailsFirst-all loaded conditions number place None h all e =
    let past : length conditions ≤ place = elim (slice_get_cases conditions place).1 [ inl some ↦ (let found = some.2 in cc) | inr none ↦ none.0 ] in
    λ k d kh. let less : k < place = omega (arith, past, kh) in all k d (omega arith) less (h.before k d (omega arith) less)
FailsFirst-all loaded conditions number place (Some c) h all e = (
  take place conditions,
  drop (place + 1) conditions,
  sym (take-append-drop place conditions) ∙ ap (λ x. take place conditions ++ x) (drop_member conditions place c (sym e)),
  All-front (IsMet loaded) conditions place (λ k d low kh. all k d low kh (h.before k d low kh)),
  h.fails c (sym e),
)

-- no condition before the place depends on words
pub unasked : (loaded : Loaded) (conditions : List Condition) (number place asked : ℕ) → place ≤ asked → AreUnasked conditions asked →
    AllWithin (λ c. IsMetBelow loaded number c → IsMet loaded c) conditions 0 place
unasked loaded conditions number place asked early none k d low h met =
    (IsMet-parts loaded (slice_index_or conditions k d)).1 (met.0, λ n is. of_each-unasked loaded _ (none k d low (omega arith)) n)

-- the first that fails is not among those that depend on no word
pub FirstFailing-asked : (P : Condition → Type 0) (conditions : List Condition) (asked failing place : ℕ) → asked ≤ failing → failing ≤ length conditions →
    ((c : Condition) → is_asked_of_words c ≡ false → P c) → AreUnasked conditions asked →
    IsPlaceOfFirstFailing P (take (failing - asked) (drop asked conditions)) place → IsPlaceOfFirstFailing P (take failing conditions) (asked + place)
FirstFailing-asked P conditions asked failing place early within holds none h =
    let long : length (drop asked conditions) ≡ length conditions - asked = length-drop asked conditions in
    let rest : length (take (failing - asked) (drop asked conditions)) ≡ failing - asked = length-take (failing - asked) (drop asked conditions) ∙ omega (arith, long) in
    let all : length (take failing conditions) ≡ failing = length-take failing conditions ∙ omega arith in
    let same : (j : ℕ) (d : Condition) → j < failing - asked → get_or (take (failing - asked) (drop asked conditions)) j d ≡ get_or (take failing conditions) (asked + j) d = (λ j d below.
    get_or-take (failing - asked) (drop asked conditions) j d below ∙ get_or-drop asked conditions j d ∙ sym (get_or-take failing conditions (asked + j) d (omega arith))) in
    record {
      within = omega (arith, h.within, rest, all);
      before = λ k d low kh. elim (cases_lt k asked) [
        | inl less ↦ subst P (sym (get_or-take failing conditions k d (omega arith))) (holds _ (none k d low less))
        | inr behind ↦
            let back : asked + (k - asked) ≡ k = omega arith in
            let inner : k - asked < failing - asked = omega (arith, h.within, rest, kh) in
            subst (λ j. P (get_or (take failing conditions) j d)) back (subst P (same (k - asked) d inner) (h.before (k - asked) d (omega arith) (omega arith)))
      ];
      fails = λ c e.
          (let low : asked + place < length (take failing conditions) = slice_get_within (take failing conditions) (asked + place) c e in
          let inner : place < failing - asked = omega (arith, low, all) in
          h.fails c (slice_get-get_or (take (failing - asked) (drop asked conditions)) place c (omega (arith, rest)) ∙ ap Some (same place c inner ∙ get_or_from_slice_get (take failing conditions) (asked + place) c c e)));
    }

-- the result of `get` and `copied` on a slice
pub copied_slice_get : (conditions : List Condition) (place : ℕ) (o : Option (Bor Condition)) → IfSome o (λ x. x.now ≡ get_or conditions place x.now) →
    MatchOption o (length conditions ≤ place) (λ x. (place < length conditions) × HoldsAtPlace (λ y. x.now ≡ y) conditions place) → option_copied o ≡ slice_get conditions place
copied_slice_get conditions place None same found = sym (slice_get_past conditions place found)
copied_slice_get conditions place (Some x) same found = sym (slice_get_read conditions (length conditions) place x.now refl found.0 same)
