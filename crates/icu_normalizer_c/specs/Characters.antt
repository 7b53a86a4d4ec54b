-- What C is told of characters, and of the version of Unicode.
use Rattle.std.specs.Prelude.{◌≡◌, ℕ, ◌+◌, ◌*◌, ◌&&◌, nat_lt, Bool, true, Some, unwrap_or, if◌then◌else◌}
use Rattle.icu_normalizer.specs.AnyNormalizers.{has_boundary, made_by_borrowed}
use Rattle.icu_normalizer.specs.BoundaryBefore.{HasBoundaryBefore}
use Rattle.icu_normalizer.specs.Forms.{MadeForm}
use Rattle.icu_normalizer.specs.declared.any_normalizer.AnyNormalizerBorrowed.{AnyNormalizerBorrowed}
use Rattle.normalizer_tables.specs.declared.step.Step.{Step}
use Rattle.normalizer_tables.specs.declared.step.Step.TheVariants.{Default, Singleton, Expansion}
use Rattle.normalizer_handles.specs.Defects.{no_character}
use Rattle.normalizer_handles.specs.Properties.{composite_in, step_in}
use Rattle.normalizer_handles.specs.declared.properties.Properties.{Properties}

-- what two characters compose to, or no character
abbrev pub composite_or_none : Properties → (first second : ℕ) → ℕ
composite_or_none q first second = unwrap_or (composite_in q first second) no_character

-- the characters of a step, of which there may be none, one or two
abbrev pub parts_of : Step → ℕ × ℕ
parts_of Default = (no_character, no_character)
parts_of (Singleton a) = (a, no_character)
parts_of (Expansion a b) = (a, b)

-- these are the characters of the step of a character
abbrev pub IsStep : Properties → (c : ℕ) → (parts : ℕ × ℕ) → Type 0
IsStep q c parts = (step : Step) × (step_in q c ≡ Some step) × (parts ≡ parts_of step)

-- It is what a normalizer that makes the form says of a character. If so, a text that begins with it is normalized apart
-- from what comes before it.
abbrev pub IsBoundary : MadeForm → (c : ℕ) → Bool → Type 0
IsBoundary m c answer =
    ((n : AnyNormalizerBorrowed) × (made_by_borrowed n ≡ m) × (answer ≡ has_boundary n c))
    × (answer ≡ true → HasBoundaryBefore m.reading m.form c)

-- a version as one number, a byte each, or 0 if one of its numbers is above 255
abbrev pub number_of_version : ℕ × ℕ × ℕ → ℕ
number_of_version v =
    if nat_lt v.0 256 && (nat_lt v.1 256 && nat_lt v.2 256) then 0x10000 * v.0 + 0x100 * v.1 + v.2 else 0
