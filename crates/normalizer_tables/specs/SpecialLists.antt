-- The fixed lists that no word spells.
use Rattle.std.specs.Prelude.{ℕ, ◌==◌, List, [], ◌∷◌, Option, Some, None, if◌then◌else◌}

-- a character whose list begins with a mark: its list, its class, and the classes of the members
pub record FixedList : Type 0 where
  pub list : List ℕ
  pub class : ℕ
  pub member_classes : List ℕ

-- a fixed list with the class of the character and the classes of the members
abbrev pub fixed_list_with : List ℕ → ℕ → List ℕ → Option FixedList
fixed_list_with members k ks = Some (record { list = members; class = k; member_classes = ks })

-- the nine characters that have a fixed list
unfoldable pub fixed_list_of : ℕ → Option FixedList
fixed_list_of c =
    if c == 0x0340 then fixed_list_with (0x0300 ∷ []) 230 (230 ∷ [])
    else if c == 0x0341 then fixed_list_with (0x0301 ∷ []) 230 (230 ∷ [])
    else if c == 0x0343 then fixed_list_with (0x0313 ∷ []) 230 (230 ∷ [])
    else if c == 0x0344 then fixed_list_with (0x0308 ∷ 0x0301 ∷ []) 230 (230 ∷ 230 ∷ [])
    else if c == 0x0F73 then fixed_list_with (0x0F71 ∷ 0x0F72 ∷ []) 0 (129 ∷ 130 ∷ [])
    else if c == 0x0F75 then fixed_list_with (0x0F71 ∷ 0x0F74 ∷ []) 0 (129 ∷ 132 ∷ [])
    else if c == 0x0F81 then fixed_list_with (0x0F71 ∷ 0x0F80 ∷ []) 0 (129 ∷ 130 ∷ [])
    else if c == 0xFF9E then fixed_list_with (0x3099 ∷ []) 0 (8 ∷ [])
    else if c == 0xFF9F then fixed_list_with (0x309A ∷ []) 0 (8 ∷ [])
    else None

-- the list of U+FDFA ARABIC LIGATURE SALLALLAHOU ALAYHE WASALLAM
unfoldable pub fdfa_list : List ℕ
fdfa_list =
    0x0635 ∷ 0x0644 ∷ 0x0649 ∷ 0x0020 ∷ 0x0627 ∷ 0x0644 ∷ 0x0644 ∷ 0x0647 ∷ 0x0020 ∷ 0x0639 ∷ 0x0644 ∷ 0x064A ∷ 0x0647
    ∷ 0x0020 ∷ 0x0648 ∷ 0x0633 ∷ 0x0644 ∷ 0x0645 ∷ []
