use Rattle.std.proofs.Common.{◌++◌, refl, subst, sym, take}
use Rattle.icu_normalizer.specs.Checks.{IsLastingOffence}
use Rattle.icu_normalizer.specs.Encodings.{Encoding}
use Rattle.normalizer_streams.specs.Mismatches.{IsTextOf}
use Rattle.normalizer_streams.proofs.mismatch.compare_piece.Goals as goal

pub returns-in-Some-default-clause-compared : goal.returns-in-Some-default-clause-compared
returns-in-Some-default-clause-compared c = λ passed at.
    let piece = c.args.piece.now in
    let text = take c.unwrap_or.result piece in
    let place = c.in-Some-default.offence.place in
    let lasting = subst (λ m. IsLastingOffence m Encoding.Utf8 text c.in-Ok.offence) c.as_borrowed.ensures c.in-Ok.ensures.is in
    let found = rw c.in-Some-default.is-0 at lasting in (
      text,
      place,
      subst (λ n. IsTextOf c.args.mode piece (take n piece)) (sym c.unwrap_or.ensures) c.end_of_text-end.ensures.text,
      record { first = found.offence; differ = found.differ c.in-Some-default.offence refl; lasts = λ right. found.lasts right c.in-Some-default.offence refl },
      c.position.ensures (passed ++ take place text) (c.advance_over.ensures passed at),
    )
