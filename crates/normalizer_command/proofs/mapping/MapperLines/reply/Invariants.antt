use Rattle.std.proofs.Common.{◌≡◌, ◌+◌, ◌++◌, drop, map}
use Rattle.std.specs.Prelude.{string_bytes}
use Rattle.icu_normalizer.specs.Mappers.{mapper_data_of_borrowed}
use Rattle.normalizer_command.specs.Making.{mapping_of}
use Rattle.normalizer_command.specs.inner.EachLine.{replies_to}
use Rattle.normalizer_command.proofs.mapping.MapperLines.reply.Given as goal

-- what is written, and what will be of the lines that are left
abbrev pub invariant-loop-index : goal.invariant-loop-index
invariant-loop-index l = let m = mapping_of (mapper_data_of_borrowed l.self.mapper) in
    string_bytes l.output ++ replies_to l.self.task m l.self.name.now (l.before + l.index) (map (λ line. line.now) (drop l.index l.line-items))
    ≡ replies_to l.self.task m l.self.name.now l.before (map (λ line. line.now) l.line-items)
