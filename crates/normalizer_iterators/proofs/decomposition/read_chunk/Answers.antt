use Rattle.std.proofs.Common.{length, ◌+◌, sym, ap, ◌∙◌, arith, []}
use Rattle.std.proofs.lemmas.Result.{err_from_is_err_and}
use Rattle.normal_forms.specs.ShortRuns.{buffer_limit}
use Rattle.normalizer_tables.specs.Characters.{has_class_form}
use Rattle.normalizer_tables.specs.Readings.{reading_by}
use Rattle.normalizer_iterators.proofs.reads.LazyLemmas.{at_boundary-parts, too_many, class-reading_by, list-reading_by}
use Rattle.normalizer_iterators.proofs.reads.ReadingLemmas.{ReadsChunk-from, ChunkDidNotFit-members, ChunkDidNotFit-behind}
use Rattle.normalizer_iterators.proofs.decomposition.read_chunk.Goals as goal

pub first_of_list-requires-clause-some : goal.first_of_list-requires-clause-some
first_of_list-requires-clause-some g c =
    let f = has_class_form c.args.characters.now in
    let d = reading_by c.args.characters.now c.args.ignored [] in
    let some = at_boundary-parts f d c.args.read.character c.requires.at_boundary in
    omega (arith, ap length (sym (list-reading_by c.args.characters.now c.args.ignored [] c.args.read.character) ∙ some.3))

pub read_on-requires : goal.read_on-requires
read_on-requires g c =
    let d = reading_by c.args.characters.now c.args.ignored [] in
    let same = class-reading_by c.args.characters.now c.args.ignored [] in
    record { ready = c.requires.ready; words = c.requires.words; classes = c.in_ok-first.ensures.classes d same }

pub returns-in_err-first-clause-err : goal.returns-in_err-first-clause-err
returns-in_err-first-clause-err g c =
    let f = has_class_form c.args.characters.now in
    let d = reading_by c.args.characters.now c.args.ignored [] in
    let is = sym (list-reading_by c.args.characters.now c.args.ignored [] c.args.read.character) in
    let long = too_many _ (buffer_limit + 1) c.in_err-first.ensures.succeeds in
    let exit = err_from_is_err_and c.from_residual.result c.from_residual.ensures.1 in
    rw exit.1 (λ before read. ChunkDidNotFit-members g.I.Iterator.next_gives f d c.args.read.character _ before is (omega (arith, long)))

pub returns-in_err-pending-clause-err : goal.returns-in_err-pending-clause-err
returns-in_err-pending-clause-err g c =
    let f = has_class_form c.args.characters.now in
    let d = reading_by c.args.characters.now c.args.ignored [] in
    let is = sym (list-reading_by c.args.characters.now c.args.ignored [] c.args.read.character) in
    let exit = err_from_is_err_and c.from_residual-in_err-pending.result c.from_residual-in_err-pending.ensures.1 in
    rw exit.1
    (λ before read.
    ChunkDidNotFit-behind g.I.Iterator.next_gives f d c.args.read.character _ before _ is c.in_ok-first.ensures.held
    (c.in_err-pending.ensures.err before read))

pub returns-clause-ok : goal.returns-clause-ok
returns-clause-ok g c =
    let f = has_class_form c.args.characters.now in
    let d = reading_by c.args.characters.now c.args.ignored [] in
    let same = class-reading_by c.args.characters.now c.args.ignored [] in
    let is = sym (list-reading_by c.args.characters.now c.args.ignored [] c.args.read.character) in
    λ before read.
    ReadsChunk-from g.I.Iterator f d c.args.read.character c.in_ok-first.first _ before _ _ _ _ is c.in_ok-first.ensures.first
    (c.in_ok-first.ensures.text d same)
    (c.in_ok-pending.ensures.ok.read before read)
