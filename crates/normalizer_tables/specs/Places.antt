-- The places of characters in a list, by a word for each code point.
use Rattle.std.specs.Prelude.{◌≡◌, ℕ, ◌<◌, ◌+◌, ◌-◌, ◌==◌, List, AllPairs, length, nat_lt, Option, Some, None, if◌then◌else◌}
use Rattle.std.specs.Prelude.{slice_index}
use Rattle.std.specs.List.{position_or_len}
use Rattle.normalizer_tables.specs.Table.{code_points}

-- the items are sorted, without duplicates, by character
abbrev pub AreRisingBy : {X : Type 0} → (X → ℕ) → List X → Type 0
AreRisingBy character items = AllPairs (λ x y. character x < character y) items

-- the place of a character in a list, counted from 1; 0 if it isn't there
unfoldable pub place_word : List ℕ → ℕ → ℕ
place_word characters n =
    let place = position_or_len (λ c. c == n) characters in
    if nat_lt place (length characters) then place + 1 else 0

-- the words are the places of all characters
unfoldable pub ArePlaces : List ℕ → List ℕ → Type 0
ArePlaces characters words = (n : ℕ) → n < code_points → slice_index words n ≡ place_word characters n

-- the place that such words have for a character, counted from 0
unfoldable pub place_in : List ℕ → ℕ → Option ℕ
place_in words n = if slice_index words n == 0 then None else Some (slice_index words n - 1)
