use Rattle.std.proofs.Common.{◌≡◌, drop}
use Rattle.normalizer_command.specs.InMemory.{bytes_in}
use Rattle.normalizer_command.proofs.memory.bytes_of.Given as goal

-- what the files that are left have of the name all have
abbrev pub invariant-loop-file : goal.invariant-loop-file
invariant-loop-file l = bytes_in (drop l.file-index l.files) l.name ≡ bytes_in l.files l.name
