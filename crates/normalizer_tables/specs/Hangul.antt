-- Hangul syllables decompose by arithmetic (The Unicode Standard, section 3.12).
use Rattle.std.specs.Prelude.{ℕ, ◌+◌, ◌-◌, ◌/◌, ◌%◌, Bool, ◌==◌, List, [], ◌∷◌, if◌then◌else◌}
use Rattle.std.specs.Int.{is_in_range}

-- SBase, the first syllable
abbrev pub s_base : ℕ
s_base = 0xAC00

-- LBase, the first leading consonant
abbrev pub l_base : ℕ
l_base = 0x1100

-- VBase, the first vowel
abbrev pub v_base : ℕ
v_base = 0x1161

-- TBase, one before the first trailing consonant
abbrev pub t_base : ℕ
t_base = 0x11A7

-- how many syllables have the same leading consonant and vowel
abbrev pub t_count : ℕ
t_count = 28

-- how many syllables have the same leading consonant
abbrev pub n_count : ℕ
n_count = 588

-- a precomposed Hangul syllable (section 3.12)
unfoldable pub is_hangul_syllable : ℕ → Bool
is_hangul_syllable c = is_in_range 0xAC00 0xD7A3 c

-- the leading consonant and the vowel, and the trailing consonant if there is one
unfoldable pub hangul_decomposition : ℕ → List ℕ
hangul_decomposition c =
    let index = c - s_base in
    let leading = l_base + index / n_count in
    let vowel = v_base + index % n_count / t_count in
    let trailing = index % t_count in
    if trailing == 0 then leading ∷ vowel ∷ [] else leading ∷ vowel ∷ (t_base + trailing) ∷ []
