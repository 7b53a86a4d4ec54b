use Rattle.normalizer_calls.proofs.passthrough.PassthroughLemmas.{AreBytesOf-composing}
use Rattle.normalizer_calls.proofs.composing.ComposingFormForming.bytes.Goals as goal

pub returns : goal.returns
returns c = AreBytesOf-composing _ _ _ c.args.self.now.serves _ c.args.self.now.passing
