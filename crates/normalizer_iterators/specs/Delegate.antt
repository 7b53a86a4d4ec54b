-- Iterators of characters that others read from.
use Rattle.std.specs.Prelude.{◌≡◌, ℕ, ◌<◌, Bool, List, [], Option, MatchOption, OnSome, ⊤}
use Rattle.std.specs.Iterator.{Count, Drains, IsFinite, Yields, size}
use Rattle.normal_forms.specs.Reading.{Reading}
use Rattle.normal_forms.specs.ShortRuns.{HasShortRuns}
use Rattle.std.specs.declared.iter.Iterator.{Ghosts}
use Rattle.normalizer_text.specs.DecodingSteps.{Spells}

-- what is said of an iterator of characters: when it may be called, what its calls yield, and how much is left
abbrev pub Source : Type 0 → Type 1
Source I = Ghosts I ℕ

-- how far the calls of an iterator are followed: up to its first `None`, or so far
pub data Extent : Type 0 where
  to_end : Extent
  so_far : Extent

-- calls of an iterator may yield these characters
abbrev pub MayYield : {I : Type 0} → (I → Option ℕ → I → Type 0) → Extent → I → List ℕ → Type 0
MayYield {I = I} gives to_end it x = Drains gives it x
MayYield {I = I} gives so_far it x = (after : I) × Yields gives it x after

-- what an iterator may have yielded so far has no short runs
abbrev pub HasYieldedLong : {I : Type 0} → (I → Option ℕ → I → Type 0) → (ℕ → Bool) → Reading → I → Type 0
HasYieldedLong {I = I} gives has_class_form d it =
    (x : List ℕ) × (after : I) × Yields gives it x after × ¬ HasShortRuns has_class_form d x

-- what an iterator yields after the character that it yielded last; nothing if that was `None`
abbrev pub ComesAfter : {I : Type 0} → (I → List ℕ → Type 0) → Option ℕ → I → List ℕ → Type 0
ComesAfter Comes last it x = MatchOption last (x ≡ []) (λ _. Comes it x)

-- what it spells there
abbrev pub SpellsAfter : {I : Type 0} → (I → Option ℕ → I → Type 0) → Option ℕ → I → List ℕ → Type 0
SpellsAfter gives last it x = ComesAfter (Spells gives) last it x

-- it may be called, and ends; nothing is required of it if it yielded `None`
abbrev pub IsReadyAfter : {I : Type 0} → (I → Type 0) → (I → Count) → Option ℕ → I → Type 0
IsReadyAfter can left last it = MatchOption last ⊤ (λ _. can it × IsFinite (left it))

-- a call from `before` yielded this and left `after`, nearer to the end after a character
pub record HasRead {I : Type 0} (gives : I → Option ℕ → I → Type 0) (left : I → Count) (before : I) (given : Option ℕ)
    (after : I) : Type 0 where
  pub step : gives before given after
  pub nearer : OnSome given (size (left after) < size (left before))
