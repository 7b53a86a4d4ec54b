-- What a decomposition that is composed has still to yield.
use Rattle.std.specs.Prelude.{◌≡◌, ℕ, ◌+◌, ◌≤◌, List, [], ◌∷◌, Option, Some, None}
use Rattle.std.specs.Iterator.{Count}
use Rattle.normal_forms.specs.Reading.{Reading}
use Rattle.normal_forms.specs.CompositionByStarters.{compose_after, compose_by_starters}
use Rattle.normalizer_tables.specs.declared.characters.IgnoredCharacters.TheVariants.{Dropped}
use Rattle.normalizer_tables.specs.Pairs.{Pair}
use Rattle.normalizer_tables.specs.Readings.{reading_by}
use Rattle.normalizer_text.specs.DecodingSteps.{Spells}
use Rattle.normalizer_iterators.specs.declared.decomposition.Decomposition.{Decomposition}
use Rattle.normalizer_iterators.specs.declared.error.NormalizeError.{NormalizeError}
use Rattle.normalizer_iterators.specs.declared.error.NormalizeError.TheVariants.{Memory}
use Rattle.normalizer_iterators.specs.DecompositionItems as decomposition
use Rattle.normalizer_iterators.specs.Delegate.{Extent, MayYield}

-- what the starter that was taken, if one was, and the remaining characters compose to
abbrev pub composed_ahead : Reading → Option ℕ → List ℕ → List ℕ
composed_ahead d None y = compose_by_starters d y
composed_ahead d (Some a) y = compose_after d a [] y

-- how many characters may come, if at most n are read
abbrev pub ahead_left : Option ℕ → ℕ → ℕ
ahead_left None n = n
ahead_left (Some a) n = n + 1

module _ {I : Type 0} where
  -- these characters, if memory suffices
  pub record WillYieldAfter (Comes : I → List ℕ → Type 0) (d : Reading) (ahead : Option ℕ) (s : Decomposition I)
      (out : List ℕ) : Type 0 where
    pub unread : List ℕ
    pub source : decomposition.WillYield Comes s unread
    pub text : out ≡ composed_ahead d ahead unread

  -- a starter became a composite by what followed it; what is ahead comes next
  pub record ComposesStarter (gives : I → Option ℕ → I → Type 0) (left : I → Count) (d : Reading) (starter : ℕ)
      (old : Decomposition I) (composite : ℕ) (ahead : Option ℕ) (new : Decomposition I) : Type 0 where
    pub text : (y : List ℕ) → decomposition.WillYield (Spells gives) old y → (rest : List ℕ)
        × (compose_after d starter [] y ≡ composite ∷ rest) × WillYieldAfter (Spells gives) d ahead new rest
    pub came : (e : Extent) (rest : List ℕ) → WillYieldAfter (MayYield gives e) d ahead new rest → (y : List ℕ)
        × decomposition.WillYield (MayYield gives e) old y × (compose_after d starter [] y ≡ composite ∷ rest)
    pub short : decomposition.StaysShort gives old → decomposition.StaysShort gives new
    pub long : decomposition.IsLong gives new → decomposition.IsLong gives old
    pub fewer : ahead_left ahead (decomposition.items_left left new) ≤ decomposition.items_left left old

  -- the same using data and pairs
  abbrev pub ComposesStarterBy : (I → Option ℕ → I → Type 0) → (I → Count) → List Pair → ℕ → Decomposition I → ℕ
      → Option ℕ → Decomposition I → Type 0
  ComposesStarterBy gives left pairs starter old =
      ComposesStarter gives left (reading_by old.characters Dropped pairs) starter old

  -- a fault came: the runs that were to come were not short
  abbrev pub IsRefused : (I → Option ℕ → I → Type 0) → Decomposition I → NormalizeError → Type 0
  IsRefused gives old e =
      (e ≡ Memory) × (decomposition.StaysShort gives old → ⊥) × decomposition.IsLong gives old
