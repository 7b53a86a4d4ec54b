use Rattle.std.proofs.Common.{◌++◌, [], arith, ap, sym, refl, ◌∙◌}
use Rattle.normalizer_tables.specs.Characters.{list_of}
use Rattle.normalizer_tables.specs.Ignored.{ignored_list}
use Rattle.normalizer_tables.specs.Readings.{reading_by}
use Rattle.normalizer_iterators.specs.Segment.{IsSmall}
use Rattle.normalizer_iterators.specs.WaitingList.{reordered_text}
use Rattle.normalizer_iterators.proofs.reads.LazyLemmas.{class-reading_by, list-reading_by}
use Rattle.normalizer_iterators.proofs.segments.BufferedSegments.{HasRead-more}
use Rattle.normalizer_iterators.proofs.segment.SegmentBuffer.add.Goals as goal

pub returns-clause-read : goal.returns-clause-read
returns-clause-read c = λ _ e units place inside is read.
    let s = c.args.characters.now in
    let d = reading_by s c.args.ignored [] in
    let same = class-reading_by s c.args.ignored [] in
    let character = c.args.step.character in
    let list = list-reading_by s c.args.ignored [] character ∙ ap (λ n. list_of s (ignored_list c.args.ignored) n) (sym c.new-read.ensures.character) ∙ sym c.members-members.ensures in
    HasRead-more d e units place c.args.step c.args.self.now _ inside is read refl (c.in-Ok.ensures.classes d same read.agrees.classes)
    (λ rest. ap (λ l. reordered_text d c.args.self.now.waiting (l ++ rest)) list ∙ c.in-Ok.ensures.text d same read.agrees.classes rest)

pub returns-clause-small : goal.returns-clause-small
unfolding IsSmall
returns-clause-small c = λ _. omega (arith, c.in-Ok.ensures.held, c.if-not-has_room.false, c.has_room.ensures, c.len.ensures)
