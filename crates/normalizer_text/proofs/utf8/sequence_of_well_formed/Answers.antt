use Rattle.std.proofs.Common.{◌≤◌, length, length-take-le, take, subst, sym}
use Rattle.normalizer_text.specs.inner.Trails.{IsFirstSequence}
use Rattle.normalizer_text.proofs.sequences.SequenceLemmas.{whole-well_formed}
use Rattle.normalizer_text.proofs.sequences.SubpartLemmas.{IsFirstSequence-take, sequence_of_bounds}
use Rattle.normalizer_text.proofs.utf8.sequence_of_well_formed.Goals as goal

pub slice_bounds-result-end : goal.slice_bounds-result-end
slice_bounds-result-end c =
    let whole = whole-well_formed c.args.bytes.now c.requires.some c.requires.well_formed in
    sym (length-take-le _ c.args.bytes.now (subst (λ n. n ≤ length c.args.bytes.now) (sym c.length_of_sequence.ensures) whole.fits))

pub returns : goal.returns
returns c =
    let whole = whole-well_formed c.args.bytes.now c.requires.some c.requires.well_formed in
    subst (λ n. IsFirstSequence c.args.bytes.now (take n c.args.bytes.now)) (sym c.length_of_sequence.ensures)
    (IsFirstSequence-take c.args.bytes.now _ whole.fits (sequence_of_bounds _ whole.sequence))
