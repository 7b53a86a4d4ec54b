use Rattle.std.proofs.Common.{◌+◌, drop, arith, length-drop, length-take-le, sym, ap, ◌∙◌}
use Rattle.std.specs.Prelude.{option_map}
use Rattle.std.proofs.lemmas.List.{take_rest}
use Rattle.normalizer_text.specs.Utf8.{matched_count}
use Rattle.normalizer_text.specs.inner.Trails.{trail_ranges}
use Rattle.normalizer_text.specs.DecodingSteps.{read}
use Rattle.normalizer_text.proofs.sequences.MatchLemmas.{matched-le}
use Rattle.normalizer_text.proofs.sequences.RowLemmas.{first-whole}
use Rattle.normalizer_text.proofs.sequences.SubpartLemmas.{sequence_of_bounds}
use Rattle.normalizer_text.proofs.utf8.first_step_of_more.Goals as goal

pub overflow_add-width : goal.overflow_add-width
overflow_add-width c =
    let m = c.matched-width.ensures ∙ ap (matched_count (trail_ranges c.in-Some.trail)) (take_rest c.args.bytes.now 1) in
    let le = (matched-le (trail_ranges c.in-Some.trail) (drop 1 c.args.bytes.now)).1 in
    omega (arith, m, length-drop 1 c.args.bytes.now)

pub slice_bounds-character_of-end : goal.slice_bounds-character_of-end
slice_bounds-character_of-end c =
    let m = c.matched-width.ensures ∙ ap (matched_count (trail_ranges c.in-Some.trail)) (take_rest c.args.bytes.now 1) in
    let whole = first-whole c.args.bytes.now c.in-Some.trail _ c.requires (sym (ap (option_map trail_ranges) c.in-Some.is) ∙ c.of.ensures) m c.if-width-trail.false in
    sym (length-take-le _ _ whole.fits)

pub character_of-requires : goal.character_of-requires
character_of-requires c =
    let m = c.matched-width.ensures ∙ ap (matched_count (trail_ranges c.in-Some.trail)) (take_rest c.args.bytes.now 1) in
    sequence_of_bounds _ (first-whole c.args.bytes.now c.in-Some.trail _ c.requires (sym (ap (option_map trail_ranges) c.in-Some.is) ∙ c.of.ensures) m c.if-width-trail.false).sequence

pub returns : goal.returns
returns c =
    let m = c.matched-width.ensures ∙ ap (matched_count (trail_ranges c.in-Some.trail)) (take_rest c.args.bytes.now 1) in
    let whole = first-whole c.args.bytes.now c.in-Some.trail _ c.requires (sym (ap (option_map trail_ranges) c.in-Some.is) ∙ c.of.ensures) m c.if-width-trail.false in
    c.read.ensures ∙ ap (λ x. read x (1 + c.matched-width.result)) c.character_of.ensures ∙ whole.step
