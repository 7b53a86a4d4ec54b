use Rattle.std.proofs.lemmas.Iterator.{items_from_collect}
use Rattle.icu_normalizer.specs.DecodingSteps.{TakesFirst}
use Rattle.normalizer_streams.specs.IllFormed.{first_of}
use Rattle.normalizer_streams.proofs.lines.decoded.Goals as goal

pub returns : goal.returns
returns c = items_from_collect {steps = TakesFirst first_of} {s = c.new.result} c.collect.result c.collect.ensures.ran (record { runs = c.new.ensures.spells })
