-- Reading from left to right: a value and the bytes after it, or the first fault that is met.
use Rattle.std.specs.Prelude.{◌≡◌, ℕ, zero, suc, ◌+◌, ◌*◌, ◌==◌, List, [], ◌∷◌, length, Result, Ok, Err}
use Rattle.std.specs.Prelude.{if◌then◌else◌}
use lib.Utf8.{scalar}
use Rattle.normalizer_tables.specs.Table.{Table, code_points}
use Rattle.normalizer_tables.specs.Pairs.{Pair}
use Rattle.normalizer_tables.specs.Data.{Decompositions, Lists, Supplement}
use Rattle.normalizer_prepared.specs.declared.fault.Fault.{Fault}
use Rattle.normalizer_prepared.specs.declared.fault.Fault.TheVariants.{Short, Runs, Scalar}
use Rattle.normalizer_prepared.specs.declared.fault.ReadError.{ReadError}
use Rattle.normalizer_prepared.specs.declared.fault.ReadError.TheVariants as errors
use Rattle.normalizer_prepared.specs.Runs.{Run, words_of}

-- what is wrong, and how many bytes are left there
abbrev pub Wrong : Type 0
Wrong = Fault × ℕ

infixl 10 ◌>>=◌
abbrev pub ◌>>=◌ : {A B : Type 0} → Result A Wrong → (A → Result B Wrong) → Result B Wrong
(Ok x) >>= f = f x
(Err e) >>= f = Err e

-- an error of a function is the fault that is met in reading, or `Memory`
abbrev pub Fails : {Y : Type 0} → ReadError → Result Y Wrong → Type 0
Fails errors.Memory read = Unit {0}
Fails (errors.Wrong fault left) read = read ≡ Err (fault, left)

-- what a function returns, seen by `view`, is what reading returns, unless memory ran out
abbrev pub Gives : {X Y : Type 0} → (X → Y) → Result X ReadError → Result Y Wrong → Type 0
Gives view (Ok x) read = read ≡ Ok (view x)
Gives view (Err e) read = Fails e read

-- a value and the bytes after it
abbrev pub Read : Type 0 → Type 0
Read A = Result (A × List ℕ) Wrong

abbrev pub byte_at : List ℕ → Read ℕ
byte_at [] = Err (Short, 0)
byte_at (b ∷ rest) = Ok (b, rest)

-- a number of this many bytes
unfoldable pub number_at : ℕ → List ℕ → Read ℕ
number_at zero bytes = Ok (0, bytes)
number_at (suc width) bytes = do
  low ← byte_at bytes
  high ← number_at width low.1
  Ok (low.0 + 256 * high.0, high.1)

-- this many items, one after another
unfoldable pub items_at : {A : Type 0} → (List ℕ → Read A) → ℕ → List ℕ → Read (List A)
items_at item_at zero bytes = Ok ([], bytes)
items_at item_at (suc n) bytes = do
  first ← item_at bytes
  others ← items_at item_at n first.1
  Ok (first.0 ∷ others.0, others.1)

unfoldable pub list_at : {A : Type 0} → (List ℕ → Read A) → List ℕ → Read (List A)
list_at item_at bytes = do
  n ← number_at 4 bytes
  items_at item_at n.0 n.1

-- a character
unfoldable pub scalar_at : List ℕ → Read ℕ
scalar_at bytes = do
  n ← number_at 3 bytes
  if scalar n.0 then Ok n else Err (Scalar, length bytes)

unfoldable pub pair_at : List ℕ → Read Pair
pair_at bytes = do
  second ← scalar_at bytes
  first ← scalar_at second.1
  result ← scalar_at first.1
  Ok ((second.0, first.0, result.0), result.1)

-- the size of a run, and the word of its code points
unfoldable pub run_at : List ℕ → Read Run
run_at bytes = do
  size ← byte_at bytes
  word ← number_at 4 size.1
  Ok ((size.0, word.0), word.1)

abbrev pub table : List Run → ℕ → Table
table runs past = record { words = words_of runs; past = past }

-- the words of runs, which must be those of all code points, and the word of all numbers above
unfoldable pub table_at : List ℕ → Read Table
table_at bytes = do
  runs ← list_at run_at bytes
  past ← number_at 4 runs.1
  if length (words_of runs.0) == code_points then Ok (table runs.0 past.0, past.1) else Err (Runs, length bytes)

unfoldable pub decompositions_at : List ℕ → Read Decompositions
decompositions_at bytes = do
  table ← table_at bytes
  cap ← number_at 2 table.1
  Ok (record { table = table.0; cap = cap.0 }, cap.1)

unfoldable pub lists_at : List ℕ → Read Lists
lists_at bytes = do
  narrow ← list_at (number_at 2) bytes
  wide ← list_at scalar_at narrow.1
  Ok (record { scalars16 = narrow.0; scalars24 = wide.0 }, wide.1)

unfoldable pub supplement_at : List ℕ → Read Supplement
supplement_at bytes = do
  table ← table_at bytes
  scalars ← list_at scalar_at table.1
  Ok (record { table = table.0; scalars24 = scalars.0 }, scalars.1)
