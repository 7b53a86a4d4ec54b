-- What is found of all records together, by which each is looked at.
use Rattle.std.specs.Prelude.{◌≡◌, false, map, All}
use Rattle.normalizer_records.specs.declared.refusals.Findings.{Findings}
use Rattle.normalizer_records.specs.Faults.{AreMapperRising, AreRising, has_fixed_fault, IsOnLongChain}
use Rattle.normalizer_records.specs.Recorded.{ListsCharacters}
use Rattle.normalizer_records.specs.inner.Chains.{IsSetOf}
use Rattle.normalizer_records.specs.inner.CutLists.{IsCutEntry}

-- records that are sorted and have no fixed character, the characters on long chains, and the entries
pub record AreFound (f : Findings) : Type 0 where
  pub rising : AreRising f.records
  pub mapper : AreMapperRising f.uts46
  pub fixed : has_fixed_fault f.records f.uts46 ≡ false
  pub chains : IsSetOf (IsOnLongChain f.records) f.long
  pub listed : ListsCharacters f.records f.uts46 (map (λ e. e.character) f.entries.items)
  pub entries : All (IsCutEntry f.records f.uts46) f.entries.items
