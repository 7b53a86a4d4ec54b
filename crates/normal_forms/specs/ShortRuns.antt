-- Texts whose runs need little room: at most 17 characters are buffered at a time while such a text is read lazily.
use Rattle.std.specs.Prelude.{◌≡◌, ℕ, ◌+◌, ◌-◌, ◌≤◌, Bool, true, false, ◌||◌, List, [], ◌∷◌, length, if◌then◌else◌}
use Rattle.normal_forms.specs.Reading.{Reading}

-- how many characters may be buffered
abbrev pub buffer_limit : ℕ
buffer_limit = 17

-- the list has no member
abbrev pub is_empty : List ℕ → Bool
is_empty [] = true
is_empty (c ∷ x) = false

-- c is buffered with what comes before it: its word is a class form, or it is dropped (its list is empty)
unfoldable pub continues : (ℕ → Bool) → Reading → ℕ → Bool
continues has_class_form d c = has_class_form c || is_empty (d.list c)

-- how many characters the lists of the leading characters that continue have together
unfoldable pub leading_length : (ℕ → Bool) → Reading → List ℕ → ℕ
leading_length has_class_form d [] = 0
leading_length has_class_form d (c ∷ x) =
    if continues has_class_form d c then length (d.list c) + leading_length has_class_form d x else 0

-- the list of each other character after its first, with the lists of those that continue after it, has at most 17
unfoldable pub HasShortChunks : (ℕ → Bool) → Reading → List ℕ → Type 0
HasShortChunks has_class_form d [] = Unit {0}
HasShortChunks has_class_form d (c ∷ x) =
    (continues has_class_form d c ≡ false → length (d.list c) - 1 + leading_length has_class_form d x ≤ buffer_limit)
    × HasShortChunks has_class_form d x

-- the lists of the leading characters that continue have at most 17 characters together, and the other chunks are short
-- too
pub record HasShortRuns (has_class_form : ℕ → Bool) (d : Reading) (x : List ℕ) : Type 0 where
  pub leading : leading_length has_class_form d x ≤ buffer_limit
  pub chunks : HasShortChunks has_class_form d x
