use Rattle.std.proofs.Common.{◌≡◌, length, sym, ap, ◌∙◌, arith, true, []}
use Rattle.std.proofs.lemmas.Result.{err_from_is_err_and}
use Rattle.normal_forms.specs.ShortRuns.{buffer_limit, continues}
use Rattle.normalizer_tables.specs.Characters.{has_class_form}
use Rattle.normalizer_tables.specs.Readings.{reading_by}
use Rattle.normalizer_iterators.proofs.reads.LazyLemmas.{continues-else, too_many, class-reading_by, list-reading_by}
use Rattle.normalizer_iterators.proofs.reads.ReadingLemmas.{ReadsAhead-none, ReadsAhead-more, ReadsAhead-refused}
use Rattle.normalizer_iterators.proofs.reading.read_on.Goals as goal

pub loop-next-init : goal.loop-next-init
loop-next-init g c = record {
  ahead = ReadsAhead-none g.I.Iterator _ _ _ _ _ c.requires.ready c.requires.classes;
  words = c.requires.words;
}

pub loop-next-preserved : goal.loop-next-preserved
loop-next-preserved g c =
    let s = c.args.characters.now in
    let f = has_class_form s in
    let d = reading_by s c.args.ignored [] in
    let ahead = rw c.in-Some.is at c.loop-next.invariant.ahead in
    let same = class-reading_by s c.args.ignored [] in
    let members = list-reading_by s c.args.ignored [] c.in-Some.read.character in
    let continuing : continues f d c.in-Some.read.character ≡ true = continues-else f d c.in-Some.read.character (λ at_boundary. sym c.if-has_boundary_before.false ∙ c.has_boundary_before.ensures.1 at_boundary) in
    let pushed = c.in_ok-push_list.ensures in
    record {
      ahead = ReadsAhead-more g.I.Iterator f d _ _ _ c.in-Some.read.character _ _ _ _ _ ahead continuing
          (pushed.text d same ahead.agrees)
          (pushed.classes d same ahead.agrees)
          (omega (arith, pushed.held, ap length members))
          c.read_from-next.ensures.read
          c.read_from-next.ensures.ready;
      words = c.read_from-next.ensures.word;
    }

pub returns-in_err-push_list-clause-err : goal.returns-in_err-push_list-clause-err
returns-in_err-push_list-clause-err g c =
    let s = c.args.characters.now in
    let f = has_class_form s in
    let d = reading_by s c.args.ignored [] in
    let ahead = rw c.in-Some.is at c.loop-next.invariant.ahead in
    let members = list-reading_by s c.args.ignored [] c.in-Some.read.character in
    let continuing : continues f d c.in-Some.read.character ≡ true = continues-else f d c.in-Some.read.character (λ at_boundary. sym c.if-has_boundary_before.false ∙ c.has_boundary_before.ensures.1 at_boundary) in
    let long = too_many _ buffer_limit c.in_err-push_list.ensures.succeeds in
    let exit = err_from_is_err_and c.from_residual-in_err-push_list.result c.from_residual-in_err-push_list.ensures.1 in
    rw exit.1
    (ReadsAhead-refused g.I.Iterator f d _ _ _ c.in-Some.read.character _ _ ahead continuing
    (omega (arith, long, ap length members)))
