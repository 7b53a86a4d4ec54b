use Rattle.icu_normalizer.specs.AnyNormalizers.{made_by}
use Rattle.normalizer_streams.proofs.ComparisonLemmas.{settled}
use Rattle.normalizer_streams.proofs.mismatch.compare_settled.Goals as goal

pub returns-clause-compared : goal.returns-clause-compared
returns-clause-compared c = λ passed a.
    let part = rw c.bytes-bytes.ensures at c.in-Some.ensures.part in
    let piece = rw c.bytes-bytes.ensures at c.in_ok-found.ensures.compared in
    settled (made_by c.args.normalizer.now) passed c.args.carried.now c.in-Some.place c.args.cursor.now c.compare_piece.new.cursor a part
    c.args.mode c.in_ok-found.found c.remove_front.new.self c.remove_front.ensures (piece passed a.at)
