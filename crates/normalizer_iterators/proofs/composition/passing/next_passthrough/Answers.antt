use Rattle.std.proofs.Common.{refl, ap, Err}
use Rattle.normalizer_iterators.specs.Reads.{character_of}
use Rattle.normalizer_iterators.proofs.items.DecompositionLemmas.{Steps-ended, Steps-read, ready_behind}
use Rattle.normalizer_iterators.proofs.passthrough.PassthroughItemLemmas.{all_apart, YieldsItself-next, YieldsStarter-next}
use Rattle.normalizer_iterators.proofs.composition.passing.next_passthrough.Goals as goal

pub read_from-following-requires : goal.read_from-following-requires
read_from-following-requires g c =
    let ready = ready_behind g.I.Iterator.can_next g.I.Iterator.remaining c.args.decomposed.now c.in_ok-read.read.character (ap character_of c.in_ok-read.was) c.requires.can in
    record { can = ready.0; ends = ready.1 }

pub next_chunk-requires : goal.next_chunk-requires
next_chunk-requires g c =
    let s = c.args.decomposed.now in
    let pending = ap character_of c.in_ok-read.was in
    record {
      empty = c.requires.empty;
      at_boundary = s.at_boundary c.in_ok-read.read.character pending;
      word = s.word c.in_ok-read.read c.in_ok-read.was;
      words = c.read_from-following.ensures.word;
      ready = c.read_from-following.ensures.ready;
      read = (s.delegate, c.read_from-following.ensures.read);
    }

pub returns-in_err-read : goal.returns-in_err-read
returns-in_err-read g c = λ pairs suits here.
    rw c.from_residual.ensures
    (Steps-ended g.I.Iterator c.args.decomposed.now _ refl refl (ap character_of c.in_err-read.was)
    (ap character_of c.in_err-read.was) here.waiting here.waiting)

pub returns-then-are_passthrough : goal.returns-then-are_passthrough
returns-then-are_passthrough g c = λ pairs suits here.
    let s = c.args.decomposed.now in
    let pending = ap character_of c.in_ok-read.was in
    YieldsItself-next g.I.Iterator pairs s here c.args.bounds suits c.in_ok-read.read.character pending _ _ c.read_from-following.ensures.read
    c.read_from-following.ensures.ready (all_apart s.characters c.args.bounds pairs suits s.ignored _ (c.are_passthrough.ensures.0 c.if-are_passthrough.true))
    refl here.waiting refl refl

pub returns-in-Ok : goal.returns-in-Ok
returns-in-Ok g c = λ pairs suits here.
    let s = c.args.decomposed.now in
    let pending = ap character_of c.in_ok-read.was in
    YieldsStarter-next g.I.Iterator pairs s here c.args.bounds suits c.in_ok-read.read.character pending _ c.in-Ok.first c.in-Ok.ensures.kept.0
    c.in-Ok.ensures.kept.1 (c.in-Ok.ensures.ok s.delegate c.read_from-following.ensures.read)

pub returns-in-Err : goal.returns-in-Err
returns-in-Err g c = λ pairs suits here.
    let s = c.args.decomposed.now in
    let pending = ap character_of c.in_ok-read.was in
    let kept = c.in-Err.ensures.kept in
    Steps-read g.I.Iterator s c.in_ok-read.read.character pending here.waiting _ _ c.read_from-following.ensures.read _ kept.0 kept.1
    (Err c.in-Err.error) tt c.in-Err.ensures.err
