use Rattle.std.proofs.Common.{◌+◌, sym, ◌∙◌}
use Rattle.normalizer_ucd.specs.Versions.{stated_in}
use Rattle.normalizer_ucd.proofs.Heads.{at_data, at_version, at_none, at_end}
use Rattle.normalizer_ucd.proofs.stated.stated_in.Goals as goal

pub returns-then-has_data : goal.returns-then-has_data
unfolding stated_in
returns-then-has_data c =
    let has = sym c.has_data.ensures ∙ c.if-has_data.true in
    sym (at_data (c.loop-index.index + 1) c.loop-index.index c.args.lines.now c.loop-index-test.true has)
    ∙ c.loop-index.invariant

pub returns-in-Some : goal.returns-in-Some
unfolding stated_in
returns-in-Some c =
    let none = sym c.has_data.ensures ∙ c.if-has_data.false in
    sym (at_version (c.loop-index.index + 1) c.loop-index.index c.args.lines.now c.in-Some.version c.loop-index-test.true
    none (sym c.in_ok-version.ensures ∙ c.in-Some.is))
    ∙ c.loop-index.invariant

pub loop-index-preserved : goal.loop-index-preserved
loop-index-preserved c =
    let none = sym c.has_data.ensures ∙ c.if-has_data.false in
    sym (at_none (c.loop-index.index + 1) c.loop-index.index c.args.lines.now c.loop-index-test.true none
    (sym c.in_ok-version.ensures ∙ c.in_default.is))
    ∙ c.loop-index.invariant

pub returns : goal.returns
unfolding stated_in
returns c =
    sym (at_end (c.loop-index.index + 1) c.loop-index.index c.args.lines.now c.loop-index-test.false)
    ∙ c.loop-index.invariant
