-- Positions at which a text may be read piece by piece: nothing is reordered across a starter (The Unicode Standard,
-- D107, D109).
use Rattle.std.specs.Prelude.{◌≡◌, ℕ, Bool, false, List, [], ◌∷◌}
use Rattle.normal_forms.specs.Reading.{Reading, IsStarter}
use Rattle.normal_forms.specs.Offence.{IsFirst}
use Rattle.normal_forms.specs.ShortRuns.{continues}

-- x is empty, or the list of its first character begins with a starter
abbrev pub BeginsChunk : Reading → List ℕ → Type 0
BeginsChunk d [] = Unit {0}
BeginsChunk d (c ∷ x) = (s : ℕ) × IsFirst (d.list c) s × IsStarter d s

-- x is empty, or its first character does not continue what comes before it
abbrev pub DoesNotContinue : (ℕ → Bool) → Reading → List ℕ → Type 0
DoesNotContinue has_class_form d [] = Unit {0}
DoesNotContinue has_class_form d (c ∷ x) = continues has_class_form d c ≡ false
