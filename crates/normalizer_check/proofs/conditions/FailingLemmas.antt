-- The first of a list of conditions that fails.
use Rattle.std.proofs.Common.{List, [], ◌∷◌, All, Option, Some, None, refl, ap, subst, arith}
use Rattle.std.proofs.lemmas.List.Elements.{All-cons, All-nil}
use Rattle.normalizer_tables.specs.conditions.Conditions.{IsFirstFailing}
use Rattle.normalizer_check.proofs.conditions.LoadedLemmas.{All-behind}

-- a condition that fails is among those that are checked
pub IsFirstFailing-not_all : {C : Type 0} (P : C → Type 0) (conditions : List C) (c : C) → IsFirstFailing P conditions (Some c) → All P conditions → ⊥
unfolding IsFirstFailing
IsFirstFailing-not_all P conditions c h all = h.4 (All-behind P h.0 (c ∷ h.1) (subst (All P) h.2 all) 0 c (omega arith))

-- the first condition fails
pub IsFirstFailing-here : {C : Type 0} (P : C → Type 0) (c : C) (cs : List C) → ¬ P c → IsFirstFailing P (c ∷ cs) (Some c)
unfolding IsFirstFailing
IsFirstFailing-here P c cs fails = ([], cs, refl, All-nil P, fails)

-- it holds, and the result is that of the others
pub IsFirstFailing-next : {C : Type 0} (P : C → Type 0) (c : C) (cs : List C) (r : Option C) → P c → IsFirstFailing P cs r → IsFirstFailing P (c ∷ cs) r
unfolding IsFirstFailing
IsFirstFailing-next P c cs None holds others = All-cons P c cs holds others
IsFirstFailing-next P c cs (Some d) holds others = (c ∷ others.0, others.1, ap (λ x. c ∷ x) others.2, All-cons P c others.0 holds others.3, others.4)

pub IsFirstFailing-none : {C : Type 0} (P : C → Type 0) → IsFirstFailing P [] None
unfolding IsFirstFailing
IsFirstFailing-none P = All-nil P

-- for functions that check one condition after another
pub ruleset failing = (IsFirstFailing-here, IsFirstFailing-next, IsFirstFailing-none)
