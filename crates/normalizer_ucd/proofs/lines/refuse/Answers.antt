use Rattle.std.proofs.Common.{◌≡◌, Bool, Option, Some, None, Err, refl, sym, ◌∙◌, ap}
use Rattle.std.specs.Prelude.{find}
use Rattle.std.specs.Option.{option_map}
use Rattle.normalizer_ucd.specs.declared.error.Place.{Place}
use Rattle.normalizer_ucd.specs.declared.error.Problem.{Problem}
use Rattle.normalizer_ucd.specs.FallibleReads.{fault, unless}
use Rattle.normalizer_ucd.proofs.lines.refuse.Goals as goal

fault_of : (place : Place) (o : Option (Problem × Bool)) (p : Option Problem) → p ≡ option_map (λ found. found.0) o →
    unless (option_map (λ found. fault place found.0) o) (tt {0}) ≡ unless (option_map (fault place) p) (tt {0})
fault_of place None p is = rw is refl
fault_of place (Some found) p is = rw is refl

pub returns-in-Some : goal.returns-in-Some
returns-in-Some c =
    fault_of c.args.place (find (λ found. found.1) c.args.findings.now) (Some c.in-Some.problem)
    (sym c.in-Some.is ∙ c.first_so.ensures)
    ∙ ap Err (sym c.fault.ensures)

pub returns-in-None : goal.returns-in-None
returns-in-None c =
    fault_of c.args.place (find (λ found. found.1) c.args.findings.now) None (sym c.in-None.is ∙ c.first_so.ensures)
