-- Files in memory, by their names.
use Rattle.std.proofs.Common.{◌≡◌, ℕ, ◌+◌, ◌<◌, ◌≤◌, true, false, suc, List, ◌∷◌, length, get_or, drop, Some, None, ap, ◌∙◌, arith}
use Rattle.std.specs.Prelude.{bytes_eq, if◌then◌else◌}
use Rattle.std.proofs.Math.Seq.{drop-cons}
use Rattle.std.proofs.Math.ListN.{drop_of_length-le}
use Rattle.normalizer_command.specs.InMemory.{bytes_in}
use Rattle.normalizer_command.specs.declared.memory.NamedFile.{NamedFile}

module _ (files : List NamedFile) (i : ℕ) (name : List ℕ) where
  drop-file : (d : NamedFile) → i < length files → drop i files ≡ get_or files i d ∷ drop (i + 1) files
  drop-file d lt = let e : i + 1 ≡ suc i = omega arith in rw e (drop-cons files i d lt)

  -- a file has the name, or another one may
  pub found-file : (d : NamedFile) → i < length files → bytes_eq (get_or files i d).name.now name ≡ true → bytes_in (drop i files) name ≡ Some (get_or files i d).bytes.now
  found-file d lt same =
      ap (λ fs. bytes_in fs name) (drop-file d lt)
      ∙ ap (λ b. if b then Some (get_or files i d).bytes.now else bytes_in (drop (i + 1) files) name) same

  pub other-file : (d : NamedFile) → i < length files → bytes_eq (get_or files i d).name.now name ≡ false → bytes_in (drop i files) name ≡ bytes_in (drop (i + 1) files) name
  other-file d lt differs =
      ap (λ fs. bytes_in fs name) (drop-file d lt)
      ∙ ap (λ b. if b then Some (get_or files i d).bytes.now else bytes_in (drop (i + 1) files) name) differs

  pub no-file : length files ≤ i → bytes_in (drop i files) name ≡ None
  no-file le = ap (λ fs. bytes_in fs name) (drop_of_length-le files le)
