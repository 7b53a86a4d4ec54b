use Rattle.icu_normalizer.specs.Mappers.{mapper_data_of_borrowed}
use Rattle.normalizer_command.specs.Works.{OfMapper}
use Rattle.normalizer_command.proofs.MapperLemmas.{lines_are_cut, lines_are_written}
use Rattle.normalizer_command.proofs.OutcomeLemmas.{failed-so, outcome-cut}
use Rattle.normalizer_command.proofs.mapping.MapperLines.write.Goals as goal

pub returns-in_err-replied : goal.returns-in_err-replied
returns-in_err-replied g c = λ m maps.
    let e = c.in_err-replied.ensures in
    let t = c.args.self.now in
    outcome-cut (OfMapper t.task c.args.mode m) t.name.now _ _ _ _ _ c.from_residual.result _ c.from_residual.ensures.1 (c.requires m)
    (failed-so g.S.Source.bytes_left g.S.Source.refusal g.W.Target.refusal _ _ _ _ _ e.read e.write e.read_ahead e.ahead)
    (lines_are_cut t.task c.args.mode (mapper_data_of_borrowed t.mapper) m maps t.name.now _ (c.requires m) _ _ e.front)

pub returns : goal.returns
returns g c = λ m maps.
    let t = c.args.self.now in record {
      done = lines_are_written t.task c.args.mode (mapper_data_of_borrowed t.mapper) m maps t.name.now _ (c.requires m) _ _ c.in_ok-replied.replied c.answer.result
          c.in_ok-replied.ensures.reply c.answer.ensures;
      why = tt;
      left = tt;
    }
