-- The pairs of characters that have a primary composite (The Unicode Standard, D114), Hangul ones included.
use Rattle.std.specs.Prelude.{◌≡◌, ℕ, Bool, true, ◌&&◌, ◌||◌, ◌==◌, nat_eq, nat_lt, List, AllPairs, find, Option}
use Rattle.std.specs.Prelude.{None, if◌then◌else◌, slice_index_or}
use Rattle.std.specs.List.{list_any}
use Rattle.std.specs.Option.{option_map}
use Rattle.std.specs.Int.{is_in_range}
use Rattle.normalizer_tables.specs.HangulComposition.{compose_hangul}

-- the second character, the first, and what they compose to
abbrev pub Pair : Type 0
Pair = ℕ × ℕ × ℕ

-- whether two triples are the same
abbrev pub same_pair : Pair → Pair → Bool
same_pair p q = (nat_eq p.0 q.0 && nat_eq p.1 q.1) && nat_eq p.2 q.2

-- the triple comes before those of this second and this first
unfoldable pub is_before : Pair → ℕ → ℕ → Bool
is_before p second first = nat_lt p.0 second || ((p.0 == second) && nat_lt p.1 first)

-- triples that are sorted, without duplicates, by second, then by first
abbrev pub AreRising : List Pair → Type 0
AreRising pairs = AllPairs (λ p q. is_before p q.0 q.1 ≡ true) pairs

-- the triple is of this second and this first
unfoldable pub is_of : Pair → ℕ → ℕ → Bool
is_of p first second = (p.0 == second) && (p.1 == first)

-- the result of the first triple of these two characters
unfoldable pub listed_result : List Pair → ℕ → ℕ → Option ℕ
listed_result pairs first second = option_map (λ p. p.2) (find (λ p. is_of p first second) pairs)

-- a vowel or a trailing consonant of the block Hangul Jamo, the old ones included
unfoldable pub is_vowel_or_trailing_jamo : ℕ → Bool
is_vowel_or_trailing_jamo c = is_in_range 0x1161 0x11FF c

-- what two characters compose to: by the arithmetic of Hangul alone if the second is a vowel or a trailing consonant,
-- else as listed
unfoldable pub pair_of : List Pair → ℕ → ℕ → Option ℕ
pair_of pairs first second =
    if is_vowel_or_trailing_jamo second then compose_hangul first second else listed_result pairs first second

-- no character composes with this one after it
unfoldable pub IsNeverSecond : List Pair → ℕ → Type 0
IsNeverSecond pairs second = (first : ℕ) → pair_of pairs first second ≡ None

-- a listed pair has this second
unfoldable pub is_listed_second : List Pair → ℕ → Bool
is_listed_second pairs second = list_any (λ p. p.0 == second) pairs

-- some character may compose with this one after it: it is a vowel or trailing jamo, or a listed pair has it second
unfoldable pub may_be_second : List Pair → ℕ → Bool
may_be_second pairs second = is_vowel_or_trailing_jamo second || is_listed_second pairs second

-- the pair at a place
unfoldable pub pair_at : List Pair → ℕ → Pair
pair_at pairs place = slice_index_or pairs place (0, 0, 0)
