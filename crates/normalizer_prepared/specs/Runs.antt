-- A table of words, as runs of equal ones.
use Rattle.std.specs.Prelude.{ℕ, ◌+◌, ◌-◌, ◌*◌, nat_lt, List, [], ◌∷◌, replicate, if◌then◌else◌}
use Rattle.std.specs.List.{flat_map}
use Rattle.normalizer_tables.specs.Ranges.{WordRange}

-- the size of a run, and the word of its code points
abbrev pub Run : Type 0
Run = ℕ × ℕ

-- how many code points a run of this size has: one more below 128, otherwise a multiple of 512
abbrev pub run_size : ℕ → ℕ
run_size n = if nat_lt n 128 then n + 1 else 512 * (n - 127)

-- the words of runs
abbrev pub words_of : List Run → List ℕ
words_of runs = flat_map (λ r. replicate (run_size r.0) r.1) runs

-- the ranges of the code points of runs, from this one on
unfoldable pub ranges_from : ℕ → List Run → List WordRange
ranges_from n [] = []
ranges_from n (r ∷ runs) = (n, n + run_size r.0 - 1, r.1) ∷ ranges_from (n + run_size r.0) runs
