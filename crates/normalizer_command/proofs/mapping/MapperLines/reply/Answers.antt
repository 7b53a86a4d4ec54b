use Rattle.std.proofs.Common.{refl, ◌∙◌}
use Rattle.std.specs.Prelude.{string_bytes}
use Rattle.icu_normalizer.specs.Mappers.{mapper_data_of_borrowed}
use Rattle.normalizer_command.specs.Making.{mapping_of}
use Rattle.normalizer_command.proofs.LineLemmas.{is_done, one_more}
use Rattle.normalizer_command.proofs.MapperLemmas.{replies-after}
use Rattle.normalizer_command.proofs.mapping.MapperLines.reply.Goals as goal

pub loop-index-preserved : goal.loop-index-preserved
loop-index-preserved c =
    let t = c.args.self.now in
    one_more t.task (mapping_of (mapper_data_of_borrowed t.mapper)) t.name.now c.deref-line-items.result.now c.number_before-before.result c.loop-index.index
    (string_bytes c.loop-index.output) _ _ _ c.loop-index-test.true c.in_ok-append_reply_to.ensures.written refl c.loop-index.invariant

pub returns-clause-written : goal.returns-clause-written
returns-clause-written c =
    let t = c.args.self.now in
    let h = mapper_data_of_borrowed t.mapper in
    let all = is_done t.task (mapping_of h) t.name.now c.deref-line-items.result.now c.number_before-before.result c.loop-index.index
    (string_bytes c.loop-index.output) _ c.loop-index-test.false c.loop-index.invariant in
    let written = rw (c.deref-line-items.ensures.value, c.in_ok-lines.ensures.lines, c.number_before-before.ensures.value) at all in
    written ∙ replies-after t.task h t.name.now c.args.lines c.args.text.now
