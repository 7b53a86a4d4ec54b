use Rattle.std.proofs.Common.{map, take}
use Rattle.icu_normalizer.specs.Mappers.{mapper_data_of_borrowed}
use Rattle.normtool_command.specs.Labels.{TellsLabels}
use Rattle.normtool_command.proofs.worker.labels.Given as goal

abbrev pub invariant-loop-field : goal.invariant-loop-field
invariant-loop-field l = TellsLabels (mapper_data_of_borrowed l.mapper) (map (λ part. part.now) (take l.field-index l.field-items)) l.answer l.lines.items
