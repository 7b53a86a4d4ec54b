-- The version of Unicode that a file states in its head.
use Rattle.std.specs.Prelude.{ℕ, ◌==◌, ◌&&◌, ◌||◌, not, Bool, List, [], ◌∷◌, take_while}
use Rattle.std.specs.Prelude.{Option, Some, None, if◌then◌else◌}
use Rattle.std.specs.Option.{option_and_then, option_map, option_or}
use Rattle.std.specs.List.{slice_split, enumerate_from}
use Rattle.std.specs.Char.{is_ascii_digit}
use Rattle.normalizer_ucd.specs.declared.error.LineFault.{LineFault}
use Rattle.normalizer_ucd.specs.declared.error.Problem.TheVariants.{OtherVersion}
use Rattle.normalizer_ucd.specs.declared.error.UcdFile.{UcdFile}
use Rattle.normalizer_ucd.specs.declared.stated.Version.{Version}
use Rattle.normalizer_ucd.specs.declared.stated.Statement.{Statement}
use Rattle.normalizer_ucd.specs.FallibleReads.{fault}
use Rattle.normalizer_ucd.specs.Fields.{has_data, lines, number, part}

-- what a function finds in the first item in which it finds something
abbrev pub find_map : {A B : Type 0} → (A → Option B) → List A → Option B
find_map f [] = None
find_map f (x ∷ xs) = option_or (f x) (find_map f xs)

abbrev pub is_digit_or_stop : ℕ → Bool
is_digit_or_stop b = is_ascii_digit b || (b == 0x2E)

-- the longest runs of digits and full stops
abbrev pub words : List ℕ → List (List ℕ)
words line = slice_split (λ b. not (is_digit_or_stop b)) line

-- a number of a word, by how many full stops come before it
abbrev pub number_at : List ℕ → ℕ → Option ℕ
number_at word n = option_and_then (number 10) (part word 0x2E n)

-- three decimal numbers that full stops join, at the beginning of a word
abbrev pub version_of : List ℕ → Option Version
version_of word = option_and_then (λ major. option_and_then (λ minor. option_map (λ update.
    record { major = major; minor = minor; update = update }) (number_at word 2)) (number_at word 1)) (number_at word 0)

-- the first version in a line
unfoldable pub version_in : List ℕ → Option Version
version_in line = find_map version_of (words line)

-- the lines before the first with data, by their numbers from n on
abbrev pub head_from : ℕ → List (List ℕ) → List (ℕ × List ℕ)
head_from n parts = take_while (λ x. not (has_data x.1)) (enumerate_from n parts)

abbrev pub statement_in : ℕ × List ℕ → Option Statement
statement_in x = option_map (λ version. record { version = version; line = x.0 }) (version_in x.1)

-- the first version in the head of a file, and its line
unfoldable pub stated_in : List (List ℕ) → Option Statement
stated_in parts = find_map statement_in (head_from 1 parts)

-- the version that a file states
abbrev pub stated_version : List ℕ → Option Version
stated_version file = option_map (λ s. s.version) (stated_in (lines file))

abbrev pub is_same : Version → Version → Bool
is_same v w = (v.major == w.major) && ((v.minor == w.minor) && (v.update == w.update))

-- the line of a file that states another version than that of another file
abbrev pub other_version : Option Statement → UcdFile → Option Statement → Option LineFault
other_version (Some s) name (Some t) =
    if is_same s.version t.version then None else Some (fault (record { file = name; line = t.line }) OtherVersion)
other_version _ name _ = None
