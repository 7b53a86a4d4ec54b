use Rattle.std.proofs.Common.{drop, map}
use Rattle.normalizer_command.specs.Devices.{devices}
use Rattle.normalizer_command.specs.Outcomes.{AreDone, State, state}
use Rattle.normalizer_command.specs.Works.{Does, Work}
use Rattle.normalizer_command.proofs.run.Run.over_files.Given as goal

-- what follows for the files that are left follows for all
abbrev pub invariant-loop-name : goal.invariant-loop-name
invariant-loop-name g l = let d = devices (g.I.Inputs.files l.self.inputs.now) g.W.Target.bytes_taken g.W.Target.refusal in
    (w : Work) → Does l.worker w → (end : State _) → AreDone d w (map (λ name. name.now) (drop l.name-index l.self.names.now))
    (state l.writer (g.R.Reports.reports l.reports) l.status) end
    → AreDone d w (map (λ name. name.now) l.self.names.now) (state l.fn.writer (g.R.Reports.reports l.fn.reports) 0) end
