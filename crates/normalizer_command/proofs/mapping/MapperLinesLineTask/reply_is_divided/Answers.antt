use Rattle.icu_normalizer.specs.Mappers.{mapper_data_of_borrowed}
use Rattle.normalizer_command.proofs.LineLaws.{divided_reply, silent_reply}
use Rattle.normalizer_command.proofs.mapping.MapperLinesLineTask.reply_is_divided.Goals as goal

pub returns-clause-silent : goal.returns-clause-silent
returns-clause-silent c = λ lines.
    let t = c.args.self.now in
    silent_reply (mapper_data_of_borrowed t.mapper) t.task t.name.now lines

pub returns-clause-divided : goal.returns-clause-divided
returns-clause-divided c = λ lines front rest.
    let t = c.args.self.now in
    divided_reply (mapper_data_of_borrowed t.mapper) t.task t.name.now lines front rest
