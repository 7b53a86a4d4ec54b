-- A small reading, to show that the hypotheses of the laws can be met: U+00E4 is U+0061 with U+0308 above it, and
-- U+0327 is a mark below.
use Rattle.std.specs.Prelude.{ℕ, ◌==◌, ◌&&◌, List, [], ◌∷◌, Option, Some, None, if◌then◌else◌}
use Rattle.normal_forms.specs.Reading.{Reading}

-- U+00E4 decomposes to U+0061 U+0308
unfoldable pub example_list : ℕ → List ℕ
example_list c = if c == 0xE4 then 0x61 ∷ 0x308 ∷ [] else c ∷ []

-- U+0308 is a mark above, U+0327 one below
unfoldable pub example_class : ℕ → ℕ
example_class c = if c == 0x308 then 230 else if c == 0x327 then 202 else 0

-- U+0061 U+0308 compose to U+00E4
unfoldable pub example_pair : ℕ → ℕ → Option ℕ
example_pair a c = if a == 0x61 && c == 0x308 then Some 0xE4 else None

-- the reading of these
unfoldable pub example : Reading
example = record { list = example_list; class = example_class; pair = example_pair }

-- A reading whose pairs join to characters with other lists, to show that the laws of the cut need the lists of
-- results: U+0041 decomposes to U+0061, U+0062 and U+0063, of which the first two join to it; U+0042 decomposes to
-- U+0064, which U+0063 joins with to it.
unfoldable pub unfaithful_list : ℕ → List ℕ
unfaithful_list c = if c == 0x41 then 0x61 ∷ 0x62 ∷ 0x63 ∷ [] else if c == 0x42 then 0x64 ∷ [] else c ∷ []

-- the pairs of that reading
unfoldable pub unfaithful_pair : ℕ → ℕ → Option ℕ
unfaithful_pair a c =
    if a == 0x61 && c == 0x62 then Some 0x41 else if a == 0x63 && c == 0x64 then Some 0x42 else None

-- that reading, in which all characters are starters
unfoldable pub unfaithful : Reading
unfaithful = record { list = unfaithful_list; class = λ c. 0; pair = unfaithful_pair }
