-- The head of a file, line by line.
use Rattle.std.proofs.Common.{◌≡◌, ℕ, ◌+◌, ◌≤◌, ◌<◌, List, [], ◌∷◌, length, drop, cond, not, true, false, Option}
use Rattle.std.proofs.Common.{Some, None, Bor, refl}
use Rattle.std.specs.List.{enumerate_from}
use Rattle.std.proofs.lemmas.List.Sums.{take_while-cons}
use Rattle.std.proofs.Math.ListN.{drop_of_length-le}
use Rattle.normalizer_ucd.specs.declared.stated.Version.{Version}
use Rattle.normalizer_ucd.specs.declared.stated.Statement.{Statement}
use Rattle.normalizer_ucd.specs.Fields.{has_data}
use Rattle.normalizer_ucd.specs.Versions.{find_map, head_from, statement_in, version_in}
use Rattle.normalizer_ucd.proofs.Loop.{one_more, part_at, texts}

-- what the lines from a place on state, the first by the number n
abbrev pub stated_from : ℕ → List (Bor (List ℕ)) → ℕ → Option Statement
stated_from n parts i = find_map statement_in (head_from n (texts (drop i parts)))

front : (n : ℕ) (line : List ℕ) (others : List (List ℕ)) →
    head_from n (line ∷ others) ≡ cond (not (has_data line)) ((n, line) ∷ head_from (n + 1) others) []
front n line others = take_while-cons (λ (x : ℕ × List ℕ). not (has_data x.1)) (n, line) (enumerate_from (n + 1) others)

pub at_data : (n i : ℕ) (parts : List (Bor (List ℕ))) → i < length parts → has_data (part_at parts i) ≡ true →
    stated_from n parts i ≡ None
at_data n i parts lt h = rw (one_more parts i lt, front n (part_at parts i) (texts (drop (i + 1) parts)), h) refl

pub at_version : (n i : ℕ) (parts : List (Bor (List ℕ))) (v : Version) → i < length parts →
    has_data (part_at parts i) ≡ false → version_in (part_at parts i) ≡ Some v →
    stated_from n parts i ≡ Some (record { version = v; line = n })
at_version n i parts v lt h w =
    rw (one_more parts i lt, front n (part_at parts i) (texts (drop (i + 1) parts)), h, w) refl

pub at_none : (n i : ℕ) (parts : List (Bor (List ℕ))) → i < length parts → has_data (part_at parts i) ≡ false →
    version_in (part_at parts i) ≡ None → stated_from n parts i ≡ stated_from (n + 1) parts (i + 1)
at_none n i parts lt h w = rw (one_more parts i lt, front n (part_at parts i) (texts (drop (i + 1) parts)), h, w) refl

pub at_end : (n i : ℕ) (parts : List (Bor (List ℕ))) → length parts ≤ i → stated_from n parts i ≡ None
at_end n i parts le = rw (drop_of_length-le parts le) refl
