use Rattle.std.proofs.Common.{◌≡◌, All, map, take}
use Rattle.normalizer_records.specs.inner.CutLists.{IsCutEntry}
use Rattle.normalizer_records.proofs.refusals.cut_entries.Given as goal

abbrev pub invariant-loop-place : goal.invariant-loop-place
invariant-loop-place l = record {
  characters : map (λ e. e.character) l.entries.items ≡ take l.place l.characters;
  cut : All (IsCutEntry l.records l.uts46) l.entries.items;
}
