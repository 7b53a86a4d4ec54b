-- Where the data are.
use Rattle.std.specs.Prelude.{ℕ, List, [], ◌∷◌, ◌++◌, codes, Option, Some, None, slice_get}

-- the path that `--data` names; else what UNINORM_DATA has, unless that is empty; else the first of the program's own
abbrev pub path_of : (named variable : Option (List ℕ)) → (own : List (List ℕ)) → Option (List ℕ)
path_of (Some named) variable own = Some named
path_of None (Some (byte ∷ bytes)) own = Some (byte ∷ bytes)
path_of None (Some []) own = slice_get own 0
path_of None None own = slice_get own 0

-- those that a program in a folder may have: prepared data and Unicode's files, beside it and where it is installed
abbrev pub own_paths : (folder : List ℕ) → List (List ℕ)
own_paths folder = (folder ++ codes "/data/unicode/prepared") ∷ (folder ++ codes "/../share/uninorm/prepared")
    ∷ (folder ++ codes "/data/unicode") ∷ (folder ++ codes "/../share/uninorm") ∷ []
