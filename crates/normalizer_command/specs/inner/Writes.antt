-- What was made is written, or a write is refused.
use Rattle.std.specs.Prelude.{◌≡◌, ◌⊎◌, ℕ, List, Option}
use Rattle.std.specs.Io.KnownBytes.{Appends}
use Rattle.normalizer_io.specs.Transfer.{AppendsFront}
use Rattle.normalizer_command.specs.FileReports.{Report, Tells}
use Rattle.normalizer_command.specs.declared.fault.Fault.TheVariants.{Write}

-- bytes are written, and that is all; or a part of them, a report says so, and the status is 2
abbrev pub IsWriteOf : (before after : Option (List ℕ)) → (Refused : Type 0) → (path bytes : List ℕ)
    → (told told' : Option (List Report)) → (status : ℕ) → Type 0
IsWriteOf before after Refused path bytes told told' status =
    (Appends before after bytes × (told' ≡ told) × (status ≡ 0))
    ⊎ (AppendsFront before after bytes × Refused × Tells told told' (path, Write) × (status ≡ 2))
