use Rattle.std.proofs.Common.{inl, inr, arith}
use Rattle.std.proofs.lemmas.Bool.{cases_order}
use Rattle.normalizer_check.proofs.words.FdfaWords.{AvoidsFdfa-elsewhere, AvoidsFdfa-word, past_elsewhere, surrogate_elsewhere}
use Rattle.normalizer_check.proofs.check.overall.avoid_fdfa_elsewhere.Goals as goal

pub returns-then-not-avoids_fdfa : goal.returns-then-not-avoids_fdfa
returns-then-not-avoids_fdfa c =
    let asked = AvoidsFdfa-word c.args.data.now c.loop-surrogate.surrogate c.word_of_number.result c.word_of_number.ensures.word c.avoids_fdfa.result c.avoids_fdfa.ensures in
    (λ no. cc, λ all. (let yes = asked.1 (all c.loop-surrogate.surrogate (surrogate_elsewhere c.loop-surrogate.surrogate (omega arith) (omega arith))) in cc))

pub loop-surrogate-preserved : goal.loop-surrogate-preserved
loop-surrogate-preserved c =
    let asked = AvoidsFdfa-word c.args.data.now c.loop-surrogate.surrogate c.word_of_number.result c.word_of_number.ensures.word c.avoids_fdfa.result c.avoids_fdfa.ensures in
    λ n low high. elim (cases_order n c.loop-surrogate.surrogate) [
      | inl same ↦ rw same (asked.0 c.if-not-avoids_fdfa.false)
      | inr (inl before) ↦ c.loop-surrogate.invariant n low before
      | inr (inr behind) ↦ absurd (omega arith)
    ]

pub returns : goal.returns
returns c =
    let past = AvoidsFdfa-word c.args.data.now 0x110000 c.word_of_number-2.result c.word_of_number-2.ensures.word c.avoids_fdfa-2.result c.avoids_fdfa-2.ensures in (
      λ yes. AvoidsFdfa-elsewhere c.args.data.now c.word_of_number-2.ensures.complete (λ n low high. c.loop-surrogate.invariant n low (omega arith)) (past.0 yes),
      λ all. past.1 (all 0x110000 past_elsewhere),
    )
