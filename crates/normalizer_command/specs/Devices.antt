-- What is known of the files and of the output of a run.
use Rattle.std.specs.Prelude.{ℕ, List, Option, None, ⊤}
use Rattle.std.specs.declared.io.ErrorKind.{ErrorKind}

-- of the file of a name: its bytes, if they are known; that it can be opened; that it can't, for this reason; that it was
-- opened, and no read of it was refused; and that one was
pub record Files : Type 1 where
  pub bytes_of : List ℕ → Option (List ℕ)
  pub can_open : List ℕ → Type 0
  pub cannot_open : List ℕ → ErrorKind → Type 0
  pub unrefused : List ℕ → Type 0
  pub read_refused : List ℕ → Type 0

-- the files; and of the output the bytes that it took, if they are known, and that a write was refused on the way from one
-- state to another
pub record Devices (W : Type 0) : Type 1 where
  pub files : Files
  pub taken : W → Option (List ℕ)
  pub write_refused : W → W → Type 0

abbrev pub devices : {W : Type 0} → Files → (taken : W → Option (List ℕ)) → (write_refused : W → W → Type 0) → Devices W
devices files taken write_refused = record { files = files; taken = taken; write_refused = write_refused }

-- files of which nothing is known
abbrev pub unknown : Files
unknown = record {
  bytes_of = λ _. None;
  can_open = λ _. ⊤;
  cannot_open = λ _ _. ⊤;
  unrefused = λ _. ⊤;
  read_refused = λ _. ⊤;
}
