use Rattle.std.proofs.Common.{flat_map}
use Rattle.normalizer_records.specs.Ranges.{entries_of}
use Rattle.normalizer_builder.proofs.build.Records.build_of_ranges.Goals as goal

pub returns-in-Some-2 : goal.returns-in-Some-2
returns-in-Some-2 c =
    let split = rw c.in-Some.is at c.in_ok-parts.ensures in
    rw c.in-Some-2.is at (c.in_ok-built.ensures (flat_map entries_of c.args.ranges.now) split.0 split.1)
