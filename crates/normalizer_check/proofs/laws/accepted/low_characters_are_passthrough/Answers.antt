use Rattle.normalizer_check.proofs.conditions.AcceptedLaws.{IsPassthroughBelow-accepted}
use Rattle.normalizer_tables.proofs.words.PassthroughBound.{IsPassthroughBelow-handed_in}
use Rattle.normalizer_check.proofs.laws.accepted.low_characters_are_passthrough.Goals as goal

pub returns : goal.returns
returns c = record { accepted = IsPassthroughBelow-accepted; handed_in = IsPassthroughBelow-handed_in }
