-- Lists of conditions that are met.
use Rattle.std.proofs.Common.{◌↔◌, ℕ, ◌+◌, List, ◌++◌, length, All, subst, arith}
use Rattle.std.specs.Char.{IsScalar}
use Rattle.std.proofs.lemmas.List.{get_or_append_left, get_or-append-add, length-append}
use Rattle.normalizer_tables.specs.declared.condition.Condition.{Condition}
use Rattle.normalizer_check.specs.RequiredConditions.{AreAcceptedPairs, composing_conditions, decomposing_conditions, IsAccepted, pair_conditions}
use Rattle.normalizer_tables.specs.Characters.{Characters}
use Rattle.normalizer_tables.specs.conditions.Conditions.{IsMet, says}
use Rattle.normalizer_check.specs.inner.Walk.{IsMetBefore}
use Rattle.normalizer_tables.specs.conditions.Loaded.{bounds_of_cap, characters_and_pairs, Loaded}
use Rattle.normalizer_tables.specs.Pairs.{Pair}
use Rattle.normalizer_check.proofs.conditions.EachCondition.{IsMet-alone}

-- a condition is met if and only if what is checked before the walk is met, and what is checked of each character
pub IsMet-parts : (d : Loaded) (c : Condition) → IsMet d c ↔ (IsMetBefore d c × ((n : ℕ) → IsScalar n → (says d c).of_each n))
IsMet-parts d c = (λ met. ((met.0, λ n is plain. met.1 n is), met.1), λ parts. (parts.0.0, parts.1))

pub All-front : {A : Type 0} (P : A → Type 0) (xs ys : List A) → All P (xs ++ ys) → All P xs
All-front P xs ys all = λ k c h. subst P (get_or_append_left xs ys c k h) (all k c (omega (arith, h, length-append xs ys)))

pub All-behind : {A : Type 0} (P : A → Type 0) (xs ys : List A) → All P (xs ++ ys) → All P ys
All-behind P xs ys all = λ k c h. subst P (get_or-append-add xs ys k c) (all (length xs + k) c (omega (arith, h, length-append xs ys)))

-- the conditions on words and those on pairs, each by themselves
pub parts_met : (s : Characters) (pairs : List Pair) → All (IsMet (characters_and_pairs s pairs)) (composing_conditions s.is_mapper) →
    IsAccepted s (bounds_of_cap s.decompositions.cap) × AreAcceptedPairs s (bounds_of_cap s.decompositions.cap) pairs
parts_met s pairs met = (
  λ k c h. IsMet-alone (characters_and_pairs s pairs) _ (All-front (IsMet (characters_and_pairs s pairs)) decomposing_conditions (pair_conditions s.is_mapper) met k c h),
  All-behind (IsMet (characters_and_pairs s pairs)) decomposing_conditions (pair_conditions s.is_mapper) met,
)
