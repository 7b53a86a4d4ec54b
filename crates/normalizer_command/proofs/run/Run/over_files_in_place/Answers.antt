use Rattle.normalizer_command.specs.InPlace.{IsRefused}
use Rattle.normalizer_command.proofs.FileLemmas.{goes_on, is_done, name_at}
use Rattle.normalizer_command.proofs.InPlaceLemmas.{no-write}
use Rattle.normalizer_command.proofs.run.Run.over_files_in_place.Goals as goal

pub loop-name-preserved : goal.loop-name-preserved
loop-name-preserved g c = λ w does end rest.
    let over = c.in_place-outcome.ensures in
    c.loop-name.invariant w does end
    (goes_on _ c.args.self.now.names.now c.loop-name.name-index _ _ c.in_place-outcome.result c.loop-name-test.true
    (record {
      opened = over.opened;
      done = over.done w does;
      kept = over.kept;
      why = over.why w does;
      told = c.tell.ensures;
      status = rw (← c.status_of.ensures) c.greater-status.ensures;
    })
    end (no-write (g.I.Inputs.files c.args.self.now.inputs.now) (IsRefused g.P.Replacer.refused g.P.New.Target.refusal) (name_at c.args.self.now.names.now c.loop-name.name-index)
    c.in_place-outcome.result (over.why w does)) rest)

pub returns : goal.returns
returns g c = λ w does. c.loop-name.invariant w does _
    (is_done _ c.args.self.now.names.now c.loop-name.name-index _ c.loop-name-test.false)
