use Rattle.std.proofs.Common.{append-nil}
use Rattle.normalizer_records.specs.Meaning.{full_list, expand_all, expansion, levels}
use Rattle.normalizer_records.proofs.cut_lists.cut_list.Goals as goal

pub returns-clause-list : goal.returns-clause-list
unfolding full_list expand_all
returns-clause-list c = rw (append-nil (expansion c.args.records.now c.args.mappings levels c.args.c)) at c.cut_text.ensures.list
