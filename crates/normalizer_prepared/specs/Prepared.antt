-- What a file of prepared data holds.
use Rattle.std.specs.Prelude.{◌≡◌, ℕ, List, Ok}
use Rattle.normalizer_packing.specs.declared.Packed.{Packed}
use Rattle.normalizer_prepared.specs.Files.{held_in}
use Rattle.normalizer_prepared.specs.declared.reading.PreparedData.{PreparedData}

-- the data in a file that was read
abbrev pub prepared_in : PreparedData → Packed
prepared_in d = d.built.packed

-- the bytes are a file that holds these data
abbrev pub IsFileOf : List ℕ → Packed → Type 0
IsFileOf bytes p = (d : PreparedData) × (held_in bytes ≡ Ok d) × (prepared_in d ≡ p)
