-- Hangul syllables compose by arithmetic (The Unicode Standard, section 3.12).
use Rattle.std.specs.Prelude.{ℕ, ◌+◌, ◌-◌, ◌*◌, ◌%◌, Bool, ◌&&◌, ◌==◌, Option, Some, None, if◌then◌else◌}
use Rattle.std.specs.Int.{is_in_range}
use Rattle.normalizer_tables.specs.Hangul.{s_base, l_base, v_base, t_base, t_count, n_count, is_hangul_syllable}

-- a leading consonant of which syllables are composed
unfoldable pub is_leading_consonant : ℕ → Bool
is_leading_consonant c = is_in_range 0x1100 0x1112 c

-- a vowel of which syllables are composed
unfoldable pub is_vowel : ℕ → Bool
is_vowel c = is_in_range 0x1161 0x1175 c

-- a trailing consonant of which syllables are composed; TBase itself is none
unfoldable pub is_trailing_consonant : ℕ → Bool
is_trailing_consonant c = is_in_range 0x11A8 0x11C2 c

-- a syllable of a leading consonant and a vowel alone
unfoldable pub is_lv_syllable : ℕ → Bool
is_lv_syllable c = is_hangul_syllable c && ((c - s_base) % t_count == 0)

-- the syllable of a leading consonant and a vowel
unfoldable pub lv_syllable : ℕ → ℕ → ℕ
lv_syllable leading vowel = s_base + ((leading - l_base) * n_count + (vowel - v_base) * t_count)

-- the syllable of a leading consonant and a vowel, or of such a syllable and a trailing consonant
unfoldable pub compose_hangul : ℕ → ℕ → Option ℕ
compose_hangul first second =
    if is_leading_consonant first && is_vowel second then Some (lv_syllable first second)
    else if is_lv_syllable first && is_trailing_consonant second then Some (first + (second - t_base))
    else None
