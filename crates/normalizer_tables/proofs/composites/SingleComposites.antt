-- When a list composes to one character.
use Rattle.std.proofs.Common.{◌≡◌, ◌≢◌, ◌↔◌, refl, ℕ, ◌+◌, ◌≤◌, List, [], ◌∷◌, length, drop, Some, None, slice_get, ap, arith}
use Rattle.std.proofs.lemmas.List.{drop_all}
use Rattle.normal_forms.specs.Reading.{Reading, IsStarter}
use Rattle.normal_forms.specs.Composition.{joined, visit, compose_from, compose}
use Rattle.normal_forms.specs.Boundary.{BeginsAtBoundary}
use Rattle.normalizer_tables.proofs.lists.ListedLemmas.{drop_member}

-- a visit takes nothing from the working list
length-visit : (d : Reading) (w : List ℕ) (c : ℕ) → length w ≤ length (visit d w c)
unfolding visit
length-visit d [] c = omega arith
length-visit d (a ∷ between) c = grind (arith, length-visit d between c)

length-compose_from : (d : Reading) (w rest : List ℕ) → length w ≤ length (compose_from d w rest)
unfolding compose_from
length-compose_from d w [] = omega arith
length-compose_from d w (c ∷ rest) = omega (arith, length-visit d w c, length-compose_from d (visit d w c) rest)

-- a list composes from its first character on
pub compose-first : (d : Reading) (text : List ℕ) (first : ℕ) → slice_get text 0 ≡ Some first → compose_from d (first ∷ []) (drop 1 text) ≡ compose d text
unfolding compose compose_from visit
compose-first d [] first h = cc
compose-first d (c ∷ text) first h = cc

-- the next character joins
pub compose_from-joined : (d : Reading) (text : List ℕ) (place a c next : ℕ) → slice_get text place ≡ Some c → joined d a [] c ≡ Some next →
    compose_from d (next ∷ []) (drop (place + 1) text) ≡ compose_from d (a ∷ []) (drop place text)
unfolding compose_from visit
compose_from-joined d text place a c next h joins = rw (drop_member text place c h, joins, compose_from, visit) refl

-- it doesn't, and so two characters stay
pub compose_from-kept : (d : Reading) (text : List ℕ) (place a c n : ℕ) → slice_get text place ≡ Some c → joined d a [] c ≡ None → compose_from d (a ∷ []) (drop place text) ≢ n ∷ []
unfolding compose_from visit
compose_from-kept d text place a c n h stays =
    rw (drop_member text place c h, stays, compose_from, visit) (λ alone. absurd (omega (arith, length-compose_from d (a ∷ c ∷ []) (drop (place + 1) text), ap length alone)))

-- none is left
pub compose_from-end : (d : Reading) (text : List ℕ) (place a : ℕ) → length text ≤ place → compose_from d (a ∷ []) (drop place text) ≡ a ∷ []
unfolding compose_from
compose_from-end d text place a h = rw (drop_all place text h) refl

-- nothing composes to nothing
pub compose-empty : (d : Reading) (text : List ℕ) (n : ℕ) → slice_get text 0 ≡ None → compose d text ≢ n ∷ []
unfolding compose compose_from
compose-empty d [] n h alone = cc
compose-empty d (c ∷ text) n h alone = cc

-- a list is not empty and begins at a boundary exactly if its first character does
pub begins_safely : (d : Reading) (x : List ℕ) (first : ℕ) → slice_get x 0 ≡ Some first → ((x ≢ []) × BeginsAtBoundary d x) ↔ (IsStarter d first × ((a : ℕ) → d.pair a first ≡ None))
begins_safely d [] first h = cc
begins_safely d (c ∷ x) first h = let same : c ≡ first = cc in rw (← same) (λ p. p.1, λ p. (λ e. cc, p))

-- what the function that composes a list cites
pub ruleset compositions = (compose-first, compose-empty, compose_from-joined, compose_from-kept, compose_from-end)
