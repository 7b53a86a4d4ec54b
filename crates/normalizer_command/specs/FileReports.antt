-- Reports of files that failed.
use Rattle.std.specs.Prelude.{◌≡◌, ℕ, List, [], ◌∷◌, ◌++◌, Option, IfSome, IsSomeAnd}
use Rattle.normalizer_command.specs.declared.fault.Fault.{Fault}

-- the name of a file, and why it failed
abbrev pub Report : Type 0
Report = List ℕ × Fault

-- if the reports are known then, they were known before, and there is one more
abbrev pub Tells : Option (List Report) → Option (List Report) → Report → Type 0
Tells before after report = IfSome after (λ told. IsSomeAnd before (λ earlier. told ≡ earlier ++ (report ∷ [])))
