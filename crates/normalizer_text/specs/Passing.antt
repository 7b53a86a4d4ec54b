-- Passing over characters that stay as they are, by a byte for each.
use Rattle.std.specs.Prelude.{◌≡◌, ◌≢◌, ℕ, ◌-◌, ◌<◌, ◌&&◌, not, nat_le, if◌then◌else◌, false, All}
use Rattle.std.specs.Prelude.{List, [], ◌∷◌, take, drop, Option, Some, None, option_and_then}
use Rattle.normalizer_passing.specs.PassBytes.{byte_of, least_after, starter_byte}
use Rattle.normalizer_text.specs.declared.decoding_step.Step.{Step}
use Rattle.normalizer_text.specs.DecodingSteps.{IsBoundary, IsLastStep}
use Rattle.normalizer_text.specs.Encodings.{Encoding, first_in}

-- the least byte that passes after a step, if the step passes where `least` is the least that does; none for an error
unfoldable pub next_least : (bytes : List ℕ) → ℕ → Step → Option ℕ
next_least bytes least s = if not s.is_error && nat_le least (byte_of bytes s.character)
    then Some (least_after (byte_of bytes s.character)) else None

-- the same after some steps, if each passes
unfoldable pub least_past : (bytes : List ℕ) → ℕ → List Step → Option ℕ
least_past bytes least [] = Some least
least_past bytes least (s ∷ ss) = option_and_then (λ next. least_past bytes next ss) (next_least bytes least s)

-- all characters before the place pass, in order, and `least` is the least byte that passes after them
pub record PassesTo (e : Encoding) (bytes units : List ℕ) (end least : ℕ) : Type 0 where
  pub boundary : IsBoundary (first_in e) units end
  pub pass : least_past bytes 1 boundary.before ≡ Some least

-- all characters before the place pass, in order
pub record Passes (e : Encoding) (bytes units : List ℕ) (end : ℕ) : Type 0 where
  pub least : ℕ
  pub to : PassesTo e bytes units end least

-- a step passes by a byte that isn't 0: it is no error, takes so many units, and its character has this byte
abbrev pub PassesBy : (bytes : List ℕ) → Step → (byte width : ℕ) → Type 0
PassesBy bytes s byte width =
    0 < byte → (s.is_error ≡ false) × (s.width ≡ width) × (byte_of bytes s.character ≡ byte)

-- the same of the step at a place
abbrev pub IsByteAt : Encoding → (bytes units : List ℕ) → (place byte width : ℕ) → Type 0
IsByteAt e bytes units place byte width = PassesBy bytes (first_in e (drop place units)) byte width

-- of the characters before `end`, the last starter is at `start`, and from `stop` on there are marks; both are 0 if
-- there is no starter
pub record IsLastStarter (e : Encoding) (bytes units : List ℕ) (end start stop : ℕ) : Type 0 where
  pub boundary : IsBoundary (first_in e) (take end units) stop
  pub marks : All (λ s. byte_of bytes s.character ≢ starter_byte) boundary.after
  pub starter : 0 < stop → (s : Step) × IsLastStep (first_in e) (take stop units) s
      × (byte_of bytes s.character ≡ starter_byte) × (start ≡ stop - s.width)
  pub none : stop ≡ 0 → start ≡ 0
