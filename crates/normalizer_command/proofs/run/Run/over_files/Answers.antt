use Rattle.std.proofs.Common.{◌≡◌, true, false, sym, ◌∙◌}
use Rattle.normalizer_command.proofs.FileLemmas.{goes_on, is_done, stops}
use Rattle.normalizer_command.proofs.run.Run.over_files.Goals as goal

pub returns-then-is_refused_write : goal.returns-then-is_refused_write
returns-then-is_refused_write g c = λ w does.
    let over = c.over_file-outcome.ensures in
    c.loop-name.invariant w does _
    (stops _ c.args.self.now.names.now c.loop-name.name-index _ _ c.over_file-outcome.result c.loop-name-test.true
    (record { opened = over.opened; is = over.is w does; told = c.tell.ensures; status = rw (← c.status_of.ensures) c.greater-status.ensures })
    (c.is_refused_write.ensures.0 c.if-is_refused_write.true))

pub loop-name-preserved : goal.loop-name-preserved
loop-name-preserved g c = λ w does end rest.
    let over = c.over_file-outcome.ensures in
    c.loop-name.invariant w does end
    (goes_on _ c.args.self.now.names.now c.loop-name.name-index _ _ c.over_file-outcome.result c.loop-name-test.true
    (record { opened = over.opened; is = over.is w does; told = c.tell.ensures; status = rw (← c.status_of.ensures) c.greater-status.ensures })
    end (λ refused. let differ : true ≡ false = sym (c.is_refused_write.ensures.1 refused) ∙ c.if-is_refused_write.false in cc) rest)

pub returns : goal.returns
returns g c = λ w does. c.loop-name.invariant w does _
    (is_done _ c.args.self.now.names.now c.loop-name.name-index _ c.loop-name-test.false)
