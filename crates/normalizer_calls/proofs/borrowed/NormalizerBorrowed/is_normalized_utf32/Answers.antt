use Rattle.std.proofs.Common.{◌≡◌, ◌∙◌, false, true, refl, sym}
use Rattle.std.proofs.lemmas.List.Sums.{list_all-from_AllPass}
use lib.Utf8.{scalar}
use Rattle.normalizer_calls.proofs.borrowed.NormalizerBorrowed.is_normalized_utf32.Goals as goal

pub returns-then-not-are_characters : goal.returns-then-not-are_characters
returns-then-not-are_characters g c = record {
  is = (
    λ no. absurd (cc no),
    λ both.
        let all : true ≡ false = sym (list_all-from_AllPass scalar c.args.units.now both.0) ∙ sym c.are_characters.ensures ∙ c.if-not-are_characters.true in absurd (cc),
  );
  room = λ _. refl;
  refused = tt;
}
