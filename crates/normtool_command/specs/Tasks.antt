-- What each command does, and by which data.
use Rattle.icu_normalizer.specs.Forms.{MadeForm}
use Rattle.icu_normalizer.specs.Uts46.{MapperData}
use Rattle.icu_normalizer.specs.declared.any_normalizer.NormalForm.{NormalForm}
use Rattle.normtool_command.specs.declared.arguments.Command.{Command}
use Rattle.normtool_command.specs.declared.arguments.Command.TheVariants as command

-- what is done, and by which data
pub data Work : Type 0 where
  Write : MadeForm → Work
  Check : MadeForm → Work
  Locate : MadeForm → Work
  Map : MapperData → Work
  Validate : MapperData → Work
  Label : MapperData → Work

-- what is done by the data for a normal form, or by the mapper's
pub data Task : Type 0 where
  OfForm : (MadeForm → Work) → NormalForm → Task
  OfMapper : (MapperData → Work) → Task

abbrev pub task_of : Command → Task
task_of (command.Write form) = OfForm Write form
task_of (command.Check form) = OfForm Check form
task_of (command.Locate form) = OfForm Locate form
task_of command.Map = OfMapper Map
task_of command.Validate = OfMapper Validate
task_of command.Label = OfMapper Label
