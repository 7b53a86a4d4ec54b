use Rattle.std.proofs.Common.{ℕ, List, ◌++◌, Err, ap, arith, refl, subst, sym, ⊎_elim}
use Rattle.normalizer_streams.specs.Streams.{form_by, may_continue}
use Rattle.normalizer_streams.specs.inner.Moves.{IsCut, IsPassed}
use Rattle.normalizer_streams.specs.inner.Watches.{Watches}
use Rattle.normalizer_streams.specs.declared.ill_formed.ErrorMode.{ErrorMode}
use Rattle.normalizer_streams.proofs.MoveLemmas.{IsCut-none, IsCut-settled, Moved-settled, OnErr-always, Passes-none}
use Rattle.normalizer_streams.proofs.PassLemmas.{Joins-front}
use Rattle.normalizer_streams.proofs.ContinuedRuns.{IsRun-last, IsRun-more}
use Rattle.normalizer_streams.proofs.stream.write_settled.Goals as goal

pub returns-in_default-clause-moved : goal.returns-in_default-clause-moved
returns-in_default-clause-moved g c = λ mode passed written p h. Passes-none mode (form_by c.args.normalizer.now) _ _ passed written _ p h

pub returns-in_default-clause-run : goal.returns-in_default-clause-run
returns-in_default-clause-run g c = λ old. IsRun-more (may_continue c.args.normalizer.now) _ c.args.searched c.saturating_sub-from.result (omega arith) old (rw c.bytes-bytes.ensures at c.in_default.ensures.none)

pub returns-in_err-stop-clause-front : goal.returns-in_err-stop-clause-front
returns-in_err-stop-clause-front g c =
    let form = form_by c.args.normalizer.now in
    let carried = c.args.carried.now in
    let settled = rw c.bytes-bytes.ensures at c.in-Some.ensures.settled in
    let before = g.W.Target.bytes_taken c.args.writer.now in
    let after = g.W.Target.bytes_taken c.write_piece.new.writer in
    let cut : (mode : ErrorMode) (passed written next : List ℕ) → IsPassed form passed written carried → Watches mode c.args.watch.now passed
    → IsCut mode form before after passed written (carried ++ next) = λ mode passed written next p h. ⊎_elim
    (λ refused.
    let piece = rw c.bytes-bytes.ensures at (c.in_err-stop.ensures.front (ap (λ e. Err e) refused)) in
    IsCut-settled mode form piece.1 _ _ passed written carried c.in-Some.place p settled piece.0 (piece.2 mode passed (Joins-front form passed written carried c.in-Some.place p settled) h) piece.3 next)
    (λ refused. subst (λ w. IsCut mode form before (g.W.Target.bytes_taken w) passed written (carried ++ next)) (sym (c.in_err-stop.ensures.memory (ap (λ e. Err e) refused)))
    (IsCut-none mode form mode refl c.args.watch.now before passed written carried next p h))
    c.in_err-stop.ensures.errors in
    OnErr-always _ cut

pub returns-clause-moved : goal.returns-clause-moved
returns-clause-moved g c = λ mode passed written p h.
    let form = form_by c.args.normalizer.now in
    let settled = rw c.bytes-bytes.ensures at c.in-Some.ensures.settled in
    let noted = rw c.bytes-bytes.ensures at c.in_ok-stop.ensures.noted in
    let written_is = rw c.bytes-bytes.ensures at c.in_ok-stop.ensures.form in
    Moved-settled mode form c.write_piece.new.watch _ _ passed written _ c.in-Some.place p settled c.in_ok-stop.stop _ c.remove_front.ensures
    (noted mode passed (Joins-front form passed written _ c.in-Some.place p settled) h) written_is

pub returns-clause-run : goal.returns-clause-run
returns-clause-run g c = λ old.
    let none = rw c.bytes-bytes.ensures at c.in-Some.ensures.last in
    IsRun-last (may_continue c.args.normalizer.now) _ c.in-Some.place _ c.remove_front.ensures none
