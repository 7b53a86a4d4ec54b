use Rattle.normalizer_streams.proofs.WatchLemmas.{Watches-none}
use Rattle.normalizer_streams.proofs.watch.Watch.new.Goals as goal

pub returns : goal.returns
returns c = Watches-none c.args.mode c.new.result c.new.ensures
