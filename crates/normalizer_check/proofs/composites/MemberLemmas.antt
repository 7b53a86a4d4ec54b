-- The firsts and the results of pairs, one pair after another.
use Rattle.std.proofs.Common.{◌≡◌, ℕ, ◌+◌, ◌≤◌, ◌<◌, suc, List, [], ◌∷◌, ◌++◌, length, take, drop, All, Some}
use Rattle.std.proofs.Common.{refl, sym, ap, subst, ◌∙◌, append_assoc, arith}
use Rattle.std.specs.Prelude.{slice_get}
use Rattle.std.proofs.lemmas.List.{take-append-drop, take_all, take_more}
use Rattle.std.proofs.lemmas.List.Elements.{All-append, All-cons, All-nil}
use Rattle.std.proofs.lemmas.Option.{get_or_from_slice_get}
use Rattle.std.proofs.Math.Seq.{drop-cons}
use Rattle.normalizer_tables.specs.Characters.{Characters}
use Rattle.normalizer_tables.specs.conditions.PairConditions.{IsComposable}
use Rattle.normalizer_tables.specs.Pairs.{Pair}
use Rattle.normalizer_check.specs.EachCharacter.{composing_members, IsFirstUncomposable}

members-append : (x y : List Pair) → composing_members (x ++ y) ≡ composing_members x ++ composing_members y
members-append [] y = refl
members-append (p ∷ x) y = ap (λ m. p.1 ∷ p.2 ∷ m) (members-append x y)

module _ (s : Characters) (pairs : List Pair) (i : ℕ) (p : Pair) (lt : i < length pairs) (is : slice_get pairs i ≡ Some p)
    (so_far : All (IsComposable s) (composing_members (take i pairs))) where
  parts : composing_members pairs ≡ composing_members (take i pairs) ++ p.1 ∷ p.2 ∷ composing_members (drop (i + 1) pairs)
  parts =
      let e : i + 1 ≡ suc i = omega arith in
      let step : drop i pairs ≡ p ∷ drop (i + 1) pairs
      = rw e (drop-cons pairs i p lt) ∙ ap (λ q. q ∷ drop (i + 1) pairs) (get_or_from_slice_get pairs i p p is) in
      ap composing_members (sym (take-append-drop i pairs)) ∙ members-append (take i pairs) (drop i pairs)
      ∙ ap (λ ps. composing_members (take i pairs) ++ composing_members ps) step

  pub first_fails : ¬ IsComposable s p.1 → IsFirstUncomposable s pairs (Some p.1)
  first_fails fails = (composing_members (take i pairs), p.2 ∷ composing_members (drop (i + 1) pairs), parts, so_far, fails)

  pub result_fails : IsComposable s p.1 → ¬ IsComposable s p.2 → IsFirstUncomposable s pairs (Some p.2)
  result_fails holds fails =
      let front = composing_members (take i pairs) in
      let rest = composing_members (drop (i + 1) pairs) in (
        front ++ p.1 ∷ [],
        rest,
        parts ∙ sym (append_assoc front (p.1 ∷ []) (p.2 ∷ rest)),
        All-append (IsComposable s) front (p.1 ∷ []) so_far (All-cons (IsComposable s) p.1 [] holds (All-nil (IsComposable s))),
        fails,
      )

  pub both_hold : IsComposable s p.1 → IsComposable s p.2 → All (IsComposable s) (composing_members (take (i + 1) pairs))
  both_hold holds also =
      let front = composing_members (take i pairs) in
      let more : composing_members (take (i + 1) pairs) ≡ front ++ p.1 ∷ p.2 ∷ []
      = ap composing_members (take_more pairs i p lt ∙ ap (λ q. take i pairs ++ q ∷ []) (get_or_from_slice_get pairs i p p is))
      ∙ members-append (take i pairs) (p ∷ []) in
      subst (All (IsComposable s)) (sym more)
      (All-append (IsComposable s) front (p.1 ∷ p.2 ∷ []) so_far
      (All-cons (IsComposable s) p.1 (p.2 ∷ []) holds (All-cons (IsComposable s) p.2 [] also (All-nil (IsComposable s)))))

pub all_hold : (s : Characters) (pairs : List Pair) (i : ℕ) → length pairs ≤ i →
    All (IsComposable s) (composing_members (take i pairs)) → All (IsComposable s) (composing_members pairs)
all_hold s pairs i le so_far = subst (λ ps. All (IsComposable s) (composing_members ps)) (take_all i pairs le) so_far
