use Rattle.std.proofs.Common.{◌++◌, ap, ◌∙◌}
use Rattle.std.proofs.lemmas.Iterator.{YieldsList-from_slice}
use Rattle.std.proofs.lemmas.Iterator.Consumers.{YieldsList-from_copied}
use Rattle.std.specs.Prelude.{string_bytes}
use Rattle.icu_normalizer.specs.Mappers.{mapper_data_of_borrowed}
use Rattle.normalizer_command.specs.Making.{mapping_of}
use Rattle.normalizer_command.specs.inner.EachLine.{feed_unless}
use Rattle.normalizer_command.proofs.LineLemmas.{appended}
use Rattle.normalizer_command.proofs.mapping.append_line.Goals as goal

pub returns-clause-mapped : goal.returns-clause-mapped
returns-clause-mapped c =
    let line = c.args.line.now in
    let given = (YieldsList-from_copied {s = c.copied.result} (YieldsList-from_slice line cc)).runs in
    let mapped = (mapping_of (mapper_data_of_borrowed c.args.mapper.now)).map line in
    appended c.append_items.result _ _ _ (feed_unless c.args.is_first) mapped (c.append_items.ensures mapped (c.in_ok-map_normalize.ensures.form.text line given)).0
    (c.in_ok-push_str.ensures.bytes ∙ ap (λ x. string_bytes c.args.output.now ++ x) c.feed_unless.ensures)

pub returns-clause-refused : goal.returns-clause-refused
returns-clause-refused c =
    let line = c.args.line.now in
    let given = (YieldsList-from_copied {s = c.copied.result} (YieldsList-from_slice line cc)).runs in
    (c.append_items.ensures _ (c.in_ok-map_normalize.ensures.form.text line given)).1
