use Rattle.std.proofs.Common.{length, subst, sym, take}
use Rattle.std.proofs.Math.Seq.{take-length}
use Rattle.normalizer_streams.specs.Mismatches.{IsTextOf}
use Rattle.normalizer_streams.specs.declared.ill_formed.ErrorMode.TheVariants.{Replacement}
use Rattle.normalizer_streams.proofs.ComparisonLemmas.{Ends-found, Ends-replaced}
use Rattle.normalizer_streams.proofs.mismatch.end_of_text.Goals as goal

pub returns-in-Replacement-clause-text : goal.returns-in-Replacement-clause-text
returns-in-Replacement-clause-text c =
    let piece = c.args.piece.now in
    subst (λ mode. IsTextOf mode piece (take (length piece) piece)) (sym c.in-Replacement.is)
    (subst (IsTextOf Replacement piece) (sym (take-length piece)) (Ends-replaced piece))

pub returns-in-Fatal-clause-text : goal.returns-in-Fatal-clause-text
returns-in-Fatal-clause-text c = Ends-found c.args.mode c.args.piece.now c.first_ill_formed.result c.in-Fatal.is c.first_ill_formed.ensures.first c.first_ill_formed.ensures.none
