use Rattle.std.proofs.Common.{refl, take, ◌++◌}
use Rattle.normalizer_streams.specs.declared.watch.Watch.{Watch}
use Rattle.normalizer_streams.proofs.WatchLemmas.{Watches-passed}
use Rattle.normalizer_streams.proofs.watch.Watch.advance.Goals as goal

pub returns-in-None-clause-noted : goal.returns-in-None-clause-noted
returns-in-None-clause-noted c = λ passed j was.
    let after : Watch = record { mode = c.args.self.now.mode; found = c.args.self.now.found; cursor = c.advance_over.new.self } in
    Watches-passed passed c.args.piece.now c.args.self.now after j was (rw c.in-None.is at c.first_ill_formed.ensures.none) refl refl
    (c.advance_over.ensures passed was.1.2)

pub returns-in-Some-clause-noted : goal.returns-in-Some-clause-noted
returns-in-Some-clause-noted c = λ passed j was.
    let found = rw c.in-Some.is at c.first_ill_formed.ensures.first in (
      refl,
      was.0,
      was.1.1,
      record {
        within = found.0;
        first = found.1;
        position = c.position-position.ensures (passed ++ take c.in-Some.place c.args.piece.now) (c.advance_over-in-Some.ensures passed was.1.2);
      },
    )
