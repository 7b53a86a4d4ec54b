use Rattle.std.proofs.Common.{arith, sym, ◌∙◌}
use Rattle.normalizer_text.specs.inner.Trails.{trail_ranges}
use Rattle.normalizer_text.proofs.sequences.MatchLemmas.{matched_more, matched_stop}
use Rattle.normalizer_text.proofs.sequences.RowLemmas.{length-trail_ranges}
use Rattle.normalizer_text.proofs.utf8.Trail.matched.Goals as goal

pub loop-n-preserved : goal.loop-n-preserved
loop-n-preserved c =
    let all = length-trail_ranges c.args.self in
    let more = matched_more (trail_ranges c.args.self) c.args.bytes.now c.loop-n.n c.loop-n.invariant (omega arith) (omega arith) (sym c.allows.ensures ∙ c.if-allows.true) in
    omega arith

pub returns-else-allows : goal.returns-else-allows
returns-else-allows c =
    matched_stop (trail_ranges c.args.self) c.args.bytes.now c.loop-n.n c.loop-n.invariant (λ _ _. sym c.allows.ensures ∙ c.if-allows.false)

pub returns-else-n-bytes : goal.returns-else-n-bytes
returns-else-n-bytes c =
    matched_stop (trail_ranges c.args.self) c.args.bytes.now c.loop-n.n c.loop-n.invariant (λ _ l. absurd (omega arith))

pub returns-after-loop-n : goal.returns-after-loop-n
returns-after-loop-n c =
    let all = length-trail_ranges c.args.self in
    matched_stop (trail_ranges c.args.self) c.args.bytes.now c.loop-n.n c.loop-n.invariant (λ l _. absurd (omega arith))
