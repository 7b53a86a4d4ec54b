use Rattle.std.proofs.Common.{[], drop, refl, ap, sym, append-nil, ◌∙◌}
use Rattle.normal_forms.specs.Order.{order}
use Rattle.normalizer_tables.specs.Characters.{has_class_form}
use Rattle.normalizer_tables.specs.Readings.{reading_by}
use Rattle.normalizer_tables.specs.ShortLists.{text_of}
use Rattle.normalizer_iterators.specs.Reads.{character_of}
use Rattle.normalizer_iterators.proofs.reads.LazyLemmas.{class-reading_by, list-reading_by}
use Rattle.normalizer_iterators.proofs.reads.ReadingLemmas.{drop_member, IsShortChunk-alone}
use Rattle.normalizer_iterators.proofs.decomposition.listed_chunk.Goals as goal

pub returns-in-One : goal.returns-in-One
unfolding text_of
returns-in-One c =
    let s = c.args.characters.now in
    let d = reading_by s c.args.ignored [] in
    let list = list-reading_by s c.args.ignored [] c.args.read.character ∙ c.in_ok-list.ensures ∙ ap text_of c.in-One.is in
    IsShortChunk-alone (has_class_form s) d c.args.read.character c.in-One.member (character_of c.args.following) c.args.waiting.now list
    (c.if-not-is_at_boundary.ensures refl) c.requires.empty c.requires.settled c.requires.classes

pub returns : goal.returns
returns c =
    let s = c.args.characters.now in
    let d = reading_by s c.args.ignored [] in
    let same = class-reading_by s c.args.ignored [] in
    let others = drop 1 (text_of c.in_ok-list.list) in
    record {
      others = others;
      list = list-reading_by s c.args.ignored [] c.args.read.character ∙ c.in_ok-list.ensures
          ∙ drop_member (text_of c.in_ok-list.list) 0 c.first.result (sym c.first.ensures);
      at_boundary = c.if-not-is_at_boundary.ensures refl;
      text = c.in-Ok-put_in_order.ensures.text d (c.in-Ok.ensures.classes d same) ∙ sym (c.in-Ok.ensures.text d same [])
          ∙ ap (order d) (append-nil others);
      settled = c.in-Ok-put_in_order.ensures.unordered;
      classes = c.in-Ok-put_in_order.ensures.classes d (c.in-Ok.ensures.classes d same);
    }
