use Rattle.std.proofs.Common.{sym, ◌∙◌}
use Rattle.normalizer_command.proofs.NamedFiles.{found-file, no-file, other-file}
use Rattle.normalizer_command.proofs.memory.bytes_of.Goals as goal

pub returns-then-is_same : goal.returns-then-is_same
returns-then-is_same c =
    sym (found-file c.args.files.now c.loop-file.file-index c.args.name.now _ c.loop-file-test.true (sym c.is_same.ensures ∙ c.if-is_same.true)) ∙ c.loop-file.invariant

pub loop-file-preserved : goal.loop-file-preserved
loop-file-preserved c =
    sym (other-file c.args.files.now c.loop-file.file-index c.args.name.now _ c.loop-file-test.true (sym c.is_same.ensures ∙ c.if-is_same.false)) ∙ c.loop-file.invariant

pub returns : goal.returns
returns c = sym (no-file c.args.files.now c.loop-file.file-index c.args.name.now c.loop-file-test.false) ∙ c.loop-file.invariant
