-- What a command is done by.
use Rattle.icu_normalizer.specs.Mappers.{mapper_data_of}
use Rattle.icu_normalizer.specs.AnyNormalizers.{made_by}
use Rattle.normtool_command.specs.declared.worker.Worker.{Worker}
use Rattle.normtool_command.specs.declared.worker.Worker.TheVariants as worker
use Rattle.normtool_command.specs.Tasks.{Work, Write, Check, Locate, Map, Validate, Label}

-- what a worker does, and by which data
abbrev pub work_by : Worker → Work
work_by (worker.Write n) = Write (made_by n)
work_by (worker.Check n) = Check (made_by n)
work_by (worker.Locate n) = Locate (made_by n)
work_by (worker.Map m) = Map (mapper_data_of m)
work_by (worker.Validate m) = Validate (mapper_data_of m)
work_by (worker.Label m) = Label (mapper_data_of m)
