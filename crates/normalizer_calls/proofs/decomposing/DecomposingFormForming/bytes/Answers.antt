use Rattle.normalizer_calls.proofs.passthrough.PassthroughLemmas.{AreBytesOf-words}
use Rattle.normalizer_calls.proofs.decomposing.DecomposingFormForming.bytes.Goals as goal

pub returns : goal.returns
returns c = AreBytesOf-words _ _ c.args.self.now.serves _ c.pass_bytes.ensures
