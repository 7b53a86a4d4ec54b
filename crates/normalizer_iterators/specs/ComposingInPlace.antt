-- Composing what is buffered, in its place.
use Rattle.std.specs.Prelude.{◌≡◌, ℕ, nat_le, List, [], ◌∷◌, ◌++◌, Option}
use Rattle.normal_forms.specs.Boundary.{BeginsWithStarter}
use Rattle.normal_forms.specs.Reading.{Reading}
use Rattle.normal_forms.specs.CompositionByStarters.{is_above, join, compose_after, compose_by_starters}
use Rattle.normalizer_tables.specs.Pairs.{Pair}
use Rattle.normalizer_iterators.specs.declared.waiting.ClassedChar.{ClassedChar}
use Rattle.normalizer_iterators.specs.declared.waiting.WaitingList.{WaitingList}
use Rattle.normalizer_iterators.specs.WaitingList.{ordered_text, AgreesWith}
use Rattle.normalizer_iterators.specs.inner.Segments.{HasPairsOf}

-- D115: marks after a starter block a character if and only if its class is below `unblocked`
abbrev pub BlockBelow : Reading → List ℕ → ℕ → Type 0
BlockBelow d marks unblocked = (c : ℕ) → is_above d marks c ≡ nat_le unblocked (d.class c)

-- by each reading that has the class and the pairs: this is what a starter and the character compose to after marks
-- that block so, if they do
abbrev pub IsJoinBy : List Pair → ℕ → ℕ → ClassedChar → Option ℕ → Type 0
IsJoinBy pairs a unblocked given r =
    (d : Reading) (marks : List ℕ) → HasPairsOf pairs d → BlockBelow d marks unblocked
    → given.class ≡ d.class given.character → r ≡ join d a marks given.character

-- what a starter and y compose to, at the front of which is what was left in place: y joins only if nothing was
abbrev pub composed_before : Reading → ℕ → List ℕ → List ℕ → List ℕ
composed_before d a [] y = compose_after d a [] y
composed_before d a (m ∷ marks) y = a ∷ compose_by_starters d y

-- a starter became a composite by what was in order after it; what is left doesn't join
abbrev pub ComposesInPlace : List Pair → ℕ → WaitingList → ℕ → WaitingList → Type 0
ComposesInPlace pairs a old composite new =
    (d : Reading) (rest : List ℕ) → HasPairsOf pairs d → AgreesWith d old → BeginsWithStarter d rest
    → compose_after d a [] (ordered_text old ++ rest)
    ≡ composed_before d composite (ordered_text new) (ordered_text new ++ rest)
