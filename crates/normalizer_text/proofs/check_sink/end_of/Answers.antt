use Rattle.std.proofs.Common.{◌≡◌, true, false, refl, sym, ◌∙◌}
use Rattle.normalizer_text.proofs.sinks.CheckSinkLemmas.{starts_at}
use Rattle.normalizer_text.proofs.check_sink.end_of.Goals as goal

pub returns-then-starts_with : goal.returns-then-starts_with
returns-then-starts_with g c =
    (refl, (starts_at c.requires.decides c.args.expected.now c.args.position c.args.piece.now c.starts_with.result c.starts_with.ensures.value).0 c.if-starts_with.true)

pub returns-else-starts_with : goal.returns-else-starts_with
returns-else-starts_with g c = λ stands.
    let yes = (starts_at c.requires.decides c.args.expected.now c.args.position c.args.piece.now c.starts_with.result c.starts_with.ensures.value).1 stands in
    let no : true ≡ false = sym yes ∙ c.if-starts_with.false in
    cc
