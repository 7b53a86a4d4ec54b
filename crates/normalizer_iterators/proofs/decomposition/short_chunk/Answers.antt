use Rattle.std.proofs.Common.{refl, [], ◌∙◌}
use Rattle.normalizer_tables.specs.Characters.{has_class_form}
use Rattle.normalizer_tables.specs.Readings.{reading_by}
use Rattle.normalizer_iterators.specs.Reads.{character_of}
use Rattle.normalizer_iterators.proofs.reads.LazyLemmas.{list-reading_by}
use Rattle.normalizer_iterators.proofs.reads.ReadingLemmas.{IsShortChunk-alone}
use Rattle.normalizer_iterators.proofs.decomposition.short_chunk.Goals as goal

pub returns-then-is_at_boundary : goal.returns-then-is_at_boundary
returns-then-is_at_boundary c =
    let s = c.args.characters.now in
    let d = reading_by s c.args.ignored [] in
    IsShortChunk-alone (has_class_form s) d c.args.read.character c.in-Some.member (character_of c.args.following) c.args.waiting.now
    (list-reading_by s c.args.ignored [] c.args.read.character ∙ c.in-Some.ensures) (c.if-is_at_boundary.ensures refl) c.requires.empty c.requires.settled c.requires.classes
