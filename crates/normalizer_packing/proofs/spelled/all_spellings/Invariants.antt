use Rattle.std.proofs.Common.{◌≡◌, All, map, take}
use Rattle.normalizer_tables.specs.Entries.{class_in}
use Rattle.normalizer_packing.specs.inner.Spelled.{HaveRoomForFlags, spellings_of}
use Rattle.normalizer_packing.proofs.spelled.all_spellings.Given as goal

-- those of the entries so far
abbrev pub invariant-loop-entry : goal.invariant-loop-entry
invariant-loop-entry l =
    record {
      each : l.spellings.items ≡ map (spellings_of (class_in l.entries)) (take l.entry-index l.entries);
      room : All HaveRoomForFlags l.spellings.items;
    }
