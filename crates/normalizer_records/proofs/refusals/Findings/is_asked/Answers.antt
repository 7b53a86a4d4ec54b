use Rattle.normalizer_records.proofs.record_faults.RefusalLemmas.{decides_asked}
use Rattle.normalizer_records.proofs.refusals.Findings.is_asked.Goals as goal

pub returns : goal.returns
returns c =
    decides_asked c.args.self.now.records c.args.self.now.uts46 c.args.self.now.long c.requires.chains c.args.c _
    c.is_on_long_chain.ensures
