-- The first line that states a record, line by line.
use Rattle.std.proofs.Common.{◌≡◌, ℕ, ◌+◌, ◌≤◌, ◌<◌, List, length, drop, true, false, None, Some, Bor, refl}
use Rattle.std.proofs.Math.ListN.{drop_of_length-le}
use Rattle.normalizer_records.specs.declared.at_fault.RecordAtFault.{RecordAtFault}
use Rattle.normalizer_ucd.specs.declared.error.UcdFile.{UcdFile}
use Rattle.normalizer_ucd.specs.RecordPlaces.{first_stating, states}
use Rattle.normalizer_ucd.proofs.Loop.{one_more, part_at, texts}

module _ (name : UcdFile) (r : RecordAtFault) (n i : ℕ) (parts : List (Bor (List ℕ))) where
  pub at_line : i < length parts → states r (part_at parts i) ≡ true →
      first_stating name r n (texts (drop i parts)) ≡ Some (record { file = name; line = n })
  unfolding first_stating
  at_line lt h = rw (one_more parts i lt, h) refl

  pub at_other : i < length parts → states r (part_at parts i) ≡ false →
      first_stating name r n (texts (drop i parts)) ≡ first_stating name r (n + 1) (texts (drop (i + 1) parts))
  unfolding first_stating
  at_other lt h = rw (one_more parts i lt, h) refl

  pub at_end : length parts ≤ i → first_stating name r n (texts (drop i parts)) ≡ None
  unfolding first_stating
  at_end le = rw (drop_of_length-le parts le) refl
