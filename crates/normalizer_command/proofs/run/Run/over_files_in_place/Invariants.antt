use Rattle.std.proofs.Common.{drop, map}
use Rattle.normalizer_command.specs.InPlace.{AreDoneInPlace, IsRefused}
use Rattle.normalizer_command.specs.Outcomes.{State, state}
use Rattle.normalizer_command.specs.Works.{Does, Work}
use Rattle.normalizer_command.proofs.run.Run.over_files_in_place.Given as goal

-- what follows for the files that are left follows for all
abbrev pub invariant-loop-name : goal.invariant-loop-name
invariant-loop-name g l =
    let f = g.I.Inputs.files l.self.inputs.now in
    let replaced = g.P.Replacer.replaced in
    let refused = IsRefused g.P.Replacer.refused g.P.New.Target.refusal in
    (w : Work) → Does l.worker w → (end : State _) → AreDoneInPlace f replaced refused w (map (λ name. name.now) (drop l.name-index l.self.names.now))
    (state l.replacer (g.R.Reports.reports l.reports) l.status) end
    → AreDoneInPlace f replaced refused w (map (λ name. name.now) l.self.names.now) (state l.fn.replacer (g.R.Reports.reports l.fn.reports) 0) end
