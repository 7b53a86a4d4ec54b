-- Characters that are passthrough: what is known of them without looking up their words.
use Rattle.std.specs.Prelude.{◌≡◌, ℕ, ◌<◌, false, List, [], ◌∷◌}
use Rattle.std.specs.Char.{IsScalar}
use Rattle.normalizer_tables.specs.Characters.{Characters, class_of, has_class_form, list_of}

-- c is its own list, whatever the list of ignored characters is, and has class 0 and no class form
pub record IsPassthrough (s : Characters) (c : ℕ) : Type 0 where
  pub itself : (ignored : List ℕ) → list_of s ignored c ≡ c ∷ []
  pub starter : class_of s c ≡ 0
  pub no_class_form : has_class_form s c ≡ false

-- each character below a number does
abbrev pub IsPassthroughBelow : Characters → ℕ → Type 0
IsPassthroughBelow s bound = (c : ℕ) → IsScalar c → c < bound → IsPassthrough s c
