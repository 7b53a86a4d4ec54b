use Rattle.std.proofs.Common.{refl, rules}
use Rattle.std.specs.Cow.{cow_str_bytes, IsBorrowedStr}
use Rattle.normalizer_text.specs.Encodings.{Encoding}
use Rattle.normalizer_calls.specs.Owned.{ReturnsForm}
use Rattle.normalizer_calls.proofs.results.OwnedLemmas.{ReturnsForm-borrowed, ReturnsForm-owned}
use Rattle.normalizer_calls.proofs.results.TextAnswers.{ReturnsFormOfText-bytes}
use Rattle.normalizer_calls.proofs.borrowed.NormalizerBorrowed.normalize.Goals as goal

pub returns-then-branch : goal.returns-then-branch
returns-then-branch g c = ReturnsFormOfText-bytes _ _ c.utf8.text (g.met.F.Forming.suits c.args.self.now.form) _
    (ReturnsForm-borrowed c.in_ok-write_unless_own.ensures.wrote c.if-branch.true refl tt)

pub returns : goal.returns
returns g c = ReturnsFormOfText-bytes _ _ c.utf8.text (g.met.F.Forming.suits c.args.self.now.form) _
    (ReturnsForm-owned c.in_ok-write_unless_own.ensures.wrote c.if-branch.false c.new-owned.ensures.bytes refl (λ borrowed. borrowed))

pub returns-in_err-write_unless_own : goal.returns-in_err-write_unless_own
returns-in_err-write_unless_own g c =
    let form : ReturnsForm cow_str_bytes IsBorrowedStr (g.F.Forming.made_form c.args.self.now.form) Encoding.Utf8 c.args.text.now c.from_residual.result = search rules in
    ReturnsFormOfText-bytes _ _ c.utf8.text (g.met.F.Forming.suits c.args.self.now.form) _ form
