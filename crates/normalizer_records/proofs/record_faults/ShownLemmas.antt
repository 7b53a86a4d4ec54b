-- Records show a fault exactly if one of them does.
use Rattle.std.proofs.Common.{◌≡◌, ℕ, zero, suc, ◌<◌, ◌⊎◌, ◌↔◌, ◌==◌, ◌&&◌, Bool, true, List, [], ◌∷◌, ◌++◌}
use Rattle.std.proofs.Common.{Contains, IsSomeAnd, IsTrue, Option, Some, None, is_some, inl, inr, refl, sym, ap, subst, ◌∙◌, arith, count_by, filter_map}
use Rattle.std.specs.List.{cons_option, list_any}
use Rattle.std.proofs.lemmas.Bool.{cases_Bool, true≢false}
use Rattle.std.proofs.lemmas.Bool.Decides.{Decides-or, nat_tests}
use Rattle.std.proofs.lemmas.List.Elements.{All-contains}
use Rattle.std.proofs.lemmas.List.Folds.{Any-from_list_any, list_any-from_Any}
use Rattle.normalizer_tables.specs.Pairs.{Pair}
use Rattle.normalizer_records.specs.declared.at_fault.RecordAtFault.{RecordAtFault}
use Rattle.normalizer_records.specs.declared.at_fault.RecordAtFault.TheVariants.{OfCharacter, OfMapper}
use Rattle.normalizer_records.specs.declared.records.BuildError.{BuildError}
use Rattle.normalizer_records.specs.declared.records.BuildError.TheVariants as error
use Rattle.normalizer_records.specs.RecordValue.{RecordValue, Uts46RecordValue}
use Rattle.normalizer_records.specs.Meaning.{pair_of_record, pairs_of}
use Rattle.normalizer_records.specs.Faults.{has_fixed_fault, has_mapping_fault, HasChainFault, HasPairFault, is_bad_mapping, is_bad_status, is_fixed, is_fixed_for_mapper, IsChain, IsOnLongChain}
use Rattle.normalizer_records.specs.AtFault.{first_of, IsCharacterOfFirst, IsFirstShowing, IsTwice, MapperShowsFault, ShowsFault}
use Rattle.normalizer_records.proofs.record_faults.FirstLemmas.{is_there}
use Rattle.normalizer_records.proofs.replacing.ChainLemmas.{record_of}

any_is : {X : Type 0} (p : X → Bool) (xs : List X) → IsTrue (list_any p xs) ↔ ((x : X) × Contains xs x × (p x ≡ true))
any_is p xs = (
  λ h. let any = Any-from_list_any p xs h in (any.1, (any.0, any.2, any.3), any.4),
  λ h. list_any-from_Any p xs (h.1.0, h.0, h.1.1, h.1.2, h.2),
)

counted : {X : Type 0} (p : X → Bool) (xs : List X) → 0 < count_by p xs → (x : X) × Contains xs x × (p x ≡ true)
counted p [] some = absurd (omega arith)
counted p (x ∷ xs) some = elim (cases_Bool (p x)) [
  | inl passes ↦ (x, (0, omega arith, refl), passes)
  | inr fails ↦
      let more : 0 < count_by p xs = grind (arith, nat_tests) in
      let rest = counted p xs more in
      let within = rest.1.1 in
      (rest.0, (suc rest.1.0, omega arith, rest.1.2), rest.2)
]

from_cons : {X Y : Type 0} (f : X → Option Y) (x : X) (xs : List X) (y : Y) → (Contains (filter_map f xs) y → (z : X) × Contains xs z × (f z ≡ Some y)) →
    (o : Option Y) → f x ≡ o → Contains (cons_option o (filter_map f xs)) y → (z : X) × Contains (x ∷ xs) z × (f z ≡ Some y)
from_cons f x xs y later None is k = let r = later k in let within = r.1.1 in (r.0, (suc r.1.0, omega arith, r.1.2), r.2)
from_cons f x xs y later (Some z) is (zero, within, same) = (x, (0, omega arith, refl), is ∙ ap Some same)
from_cons f x xs y later (Some z) is (suc k, within, same) =
    let r = later (k, omega arith, same) in
    let inside = r.1.1 in
    (r.0, (suc r.1.0, omega arith, r.1.2), r.2)

from_filter_map : {X Y : Type 0} (f : X → Option Y) (xs : List X) (y : Y) → Contains (filter_map f xs) y → (x : X) × Contains xs x × (f x ≡ Some y)
from_filter_map f [] y h = let within = h.1 in absurd (omega arith)
from_filter_map f (x ∷ xs) y h = from_cons f x xs y (from_filter_map f xs y) (f x) refl h

module _ (records : List RecordValue) (uts46 : List Uts46RecordValue) where
  -- a record shows the fault, or one of the mapper's does
  abbrev pub IsShown : BuildError → Type 0
  IsShown e =
      ((r : RecordValue) × Contains records r × ShowsFault records uts46 e r)
      ⊎ ((r : Uts46RecordValue) × Contains uts46 r × MapperShowsFault records uts46 e r)

  pub showing : (e : BuildError) (n m : Option ℕ) → IsCharacterOfFirst (λ (r : RecordValue). r.c) (ShowsFault records uts46 e) records n →
      (n ≡ None → IsCharacterOfFirst (λ (r : Uts46RecordValue). r.c) (MapperShowsFault records uts46 e) uts46 m) → IsFirstShowing records uts46 e (first_of n m)
  unfolding IsFirstShowing IsCharacterOfFirst first_of
  showing e None None h mapper = (h, mapper refl)
  showing e None (Some c) h mapper = (h, mapper refl)
  showing e (Some c) m h mapper = h

  pub is_shown : (e : BuildError) (o : Option RecordAtFault) → IsFirstShowing records uts46 e o → IsTrue (is_some o) ↔ IsShown e
  unfolding IsFirstShowing
  is_shown e (Some (OfCharacter c)) (r, (before, after, parts, others, shows), same) =
      (λ _. inl (r, is_there records before after r parts, shows), λ _. refl)
  is_shown e (Some (OfMapper c)) (none, (r, (before, after, parts, others, shows), same)) =
      (λ _. inr (r, is_there uts46 before after r parts, shows), λ _. refl)
  is_shown e None (none, never) = (
    λ h. absurd (true≢false (sym h)),
    λ h. elim h [
      | inl shown ↦ absurd (All-contains (λ r. ¬ ShowsFault records uts46 e r) records shown.0 none shown.1 shown.2)
      | inr shown ↦ absurd (All-contains (λ r. ¬ MapperShowsFault records uts46 e r) uts46 shown.0 never shown.1 shown.2)
    ],
  )

  pub IsShown-fixed : (has_fixed_fault records uts46 ≡ true) ↔ IsShown error.Fixed
  unfolding has_fixed_fault ShowsFault MapperShowsFault
  IsShown-fixed = Decides-or _ _ (any_is (λ (r : RecordValue). is_fixed r.c) records) (any_is is_fixed_for_mapper uts46)

  pub IsShown-mapping : (has_mapping_fault records uts46 ≡ true) ↔ IsShown error.Mapping
  unfolding has_mapping_fault ShowsFault MapperShowsFault
  IsShown-mapping = Decides-or _ _ (any_is is_bad_mapping records) (any_is (λ (r : Uts46RecordValue). is_bad_status r.status) uts46)

  pub IsShown-chain : HasChainFault records ↔ IsShown error.Chain
  unfolding HasChainFault IsChain IsOnLongChain ShowsFault MapperShowsFault
  IsShown-chain = (there, back)
    where
      there : HasChainFault records → IsShown error.Chain
      there ([], chain, long) = absurd (omega arith)
      there (c ∷ rest, chain, long) =
          let r = record_of records c chain.0 in
          inl (r.0, r.1, subst (IsOnLongChain records) (sym r.2) ([], rest, chain, long))

      back : IsShown error.Chain → HasChainFault records
      back (inl (r, inside, on)) = (on.0 ++ r.c ∷ on.1, on.2, on.3)
      back (inr (r, inside, never)) = absurd never

  pub IsShown-pair : HasPairFault records ↔ IsShown error.Pair
  unfolding HasPairFault pairs_of ShowsFault MapperShowsFault
  IsShown-pair = (there, back)
    where
      there : HasPairFault records → IsShown error.Pair
      there (first, second, twice) =
          let (p, inside, same) = counted (λ (q : Pair). (q.0 == second) && (q.1 == first)) (pairs_of records) (omega arith) in
          let (r, listed, is) = from_filter_map pair_of_record records p inside in
          let second_is : p.0 ≡ second = grind (arith, nat_tests) in
          let first_is : p.1 ≡ first = grind (arith, nat_tests) in
          inl (r, listed, rw (is, second_is, first_is) twice)

      back : IsShown error.Pair → HasPairFault records
      back (inl (r, inside, shows)) = of_pair (pair_of_record r) shows
        where
          of_pair : (o : Option Pair) → IsSomeAnd o (IsTwice (pairs_of records)) → HasPairFault records
          of_pair None never = absurd never
          of_pair (Some p) twice = (p.1, p.0, twice)
      back (inr (r, inside, never)) = absurd never
