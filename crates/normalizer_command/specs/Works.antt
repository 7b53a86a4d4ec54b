-- What is done with files.
use Rattle.std.specs.Prelude.{◌≡◌, List}
use Rattle.icu_normalizer.specs.RecordValue.{RecordValue, Uts46RecordValue}
use Rattle.icu_normalizer.specs.Mappers.{mapper_data_of}
use Rattle.normalizer_streams.specs.declared.ill_formed.ErrorMode.{ErrorMode}
use Rattle.normalizer_command.specs.declared.command.Command.{Command}
use Rattle.normalizer_command.specs.declared.command.Command.TheVariants as command
use Rattle.normalizer_command.specs.declared.command.MapperTask.{MapperTask}
use Rattle.normalizer_command.specs.declared.command.Task.{Task}
use Rattle.normalizer_command.specs.declared.worker.Worker.{Worker}
use Rattle.normalizer_command.specs.declared.worker.Worker.TheVariants as worker
use Rattle.normalizer_command.specs.Making.{Making, Makes, Mapping, Maps, making_by, mapping_by}

-- something of a normal form, or something of the mapper
pub data Work : Type 0 where
  OfForm : Task → ErrorMode → Making → Work
  OfMapper : MapperTask → ErrorMode → Mapping → Work

-- the work of a command, by what records mean
abbrev pub work_by : List RecordValue → List Uts46RecordValue → Command → Work
work_by records uts46 (command.OfForm task mode form) = OfForm task mode (making_by records form)
work_by records uts46 (command.OfMapper task mode) = OfMapper task mode (mapping_by records uts46)

-- the worker does this work
abbrev pub Does : Worker → Work → Type 0
Does (worker.OfForm task mode n) (OfForm task' mode' m) = (task ≡ task') × (mode ≡ mode') × Makes n m
Does (worker.OfMapper task mode n) (OfMapper task' mode' m) =
    (task ≡ task') × (mode ≡ mode') × Maps (mapper_data_of n) m
Does worker work = ⊥
