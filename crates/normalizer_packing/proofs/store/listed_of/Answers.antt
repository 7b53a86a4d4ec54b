use Rattle.std.proofs.Common.{arith}
use Rattle.normalizer_packing.proofs.spellings.KeptSpellings.{listed_by}
use Rattle.normalizer_packing.proofs.store.listed_of.Goals as goal

pub returns-in-Listed : goal.returns-in-Listed
returns-in-Listed c = λ class is. let by = listed_by class c.args.kind c.args.entry.now c.args.spellings is in grind arith

pub returns-in_default : goal.returns-in_default
returns-in_default c = λ class is. let by = listed_by class c.args.kind c.args.entry.now c.args.spellings is in grind arith
