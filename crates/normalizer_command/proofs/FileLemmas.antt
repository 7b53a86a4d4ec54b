-- Files, one after another, as a loop does.
use Rattle.std.proofs.Common.{◌≡◌, inl, inr, ℕ, ◌+◌, ◌<◌, ◌≤◌, List, [], ◌∷◌, length, get_or, drop, map, suc, Option, Result, Bor, ap, refl, subst, arith}
use Rattle.std.specs.Prelude.{IsErrOf}
use Rattle.std.proofs.Math.Seq.{drop-cons}
use Rattle.std.proofs.Math.ListN.{drop_of_length-le}
use Rattle.normalizer_command.specs.declared.reply.Answer.{Answer}
use Rattle.normalizer_command.specs.declared.fault.Fault.{Fault}
use Rattle.normalizer_command.specs.declared.fault.Fault.TheVariants.{Open, Read, Write, InPlace, Memory, Line, Records, Prepared, IllFormed, Replaced}
use Rattle.normalizer_streams.specs.Streams.{IsEndless}
use Rattle.normalizer_command.specs.FileFaults.{IsReadUnrefused, IsTransferFault}
use Rattle.normalizer_command.specs.Devices.{devices, Files}
use Rattle.normalizer_command.specs.Outcomes.{AreEach, MayFail, State}
use Rattle.normalizer_command.specs.Works.{Work}
use Rattle.normalizer_command.specs.Written.{IsOutcome}
use Rattle.normalizer_command.proofs.OutcomeLemmas.{outcome-for}

abbrev pub texts : List (Bor (List ℕ)) → List (List ℕ)
texts names = map (λ name. name.now) names

abbrev pub name_at : List (Bor (List ℕ)) → ℕ → List ℕ
name_at names i = (get_or names i (record { ref_ptr = (0, 0); now = [] })).now

one_more : (names : List (Bor (List ℕ))) (i : ℕ) → i < length names → texts (drop i names) ≡ name_at names i ∷ texts (drop (i + 1) names)
one_more names i lt = let e : i + 1 ≡ suc i = omega arith in rw e (ap texts (drop-cons names i (record { ref_ptr = (0, 0); now = [] }) lt))

module _ {W : Type 0} (Is : List ℕ → State W → State W → Result Answer Fault → Type 0) (names : List (Bor (List ℕ))) (i : ℕ) (s next : State W)
    (outcome : Result Answer Fault) (lt : i < length names) (done : Is (name_at names i) s next outcome) where
  -- one more file, and those after it
  pub goes_on : (end : State W) → ¬ IsErrOf outcome Write → AreEach Is (texts (drop (i + 1) names)) next end
      → AreEach Is (texts (drop i names)) s end
  unfolding AreEach
  goes_on end unrefused rest = rw (one_more names i lt) (outcome, next, done, (λ refused. absurd (unrefused refused)), λ _. rest)

  -- the last file, whose write is refused
  pub stops : IsErrOf outcome Write → AreEach Is (texts (drop i names)) s next
  unfolding AreEach
  stops refused = rw (one_more names i lt) (outcome, next, done, (λ _. refl), λ unrefused. absurd (unrefused refused))

-- no file is left
pub is_done : {W : Type 0} (Is : List ℕ → State W → State W → Result Answer Fault → Type 0) (names : List (Bor (List ℕ))) (i : ℕ) (s : State W)
    → length names ≤ i → AreEach Is (texts (drop i names)) s s
unfolding AreEach
is_done Is names i s le = rw (drop_of_length-le names le) refl

-- what comes of an open file comes of the file
pub of_open : {S W : Type 0} (left : S → Option (List ℕ)) (rr : S → S → Type 0) (files : Files) (taken : W → Option (List ℕ)) (wr : W → W → Type 0) (name : List ℕ)
    (i i' : S) (v v' : W) (w : Work) (r : Result Answer Fault) → left i ≡ files.bytes_of name → (rr i i' → files.read_refused name)
    → (IsReadUnrefused (left i') rr i i' → files.unrefused name) → IsOutcome w name (left i) (taken v) (taken v') (IsTransferFault left rr wr (i, v) (i', v')) (v' ≡ v) r
    → IsOutcome w name (files.bytes_of name) (taken v) (taken v') (MayFail (devices files taken wr) name v v') (v' ≡ v) r
of_open {S} {W} left rr files taken wr name i i' v v' w r bytes reads succeeds o =
    subst (λ all. IsOutcome w name all (taken v) (taken v') (MayFail (devices files taken wr) name v v') (v' ≡ v) r) bytes
    (outcome-for w name (left i) (taken v) (taken v') (IsTransferFault left rr wr (i, v) (i', v')) (v' ≡ v) (MayFail (devices files taken wr) name v v') r other o)
  where
    other : (fault : Fault) → IsTransferFault left rr wr (i, v) (i', v') fault → MayFail (devices files taken wr) name v v' fault
    other (Open kind) why = absurd why
    other Read (inl refused) = inl (reads refused)
    other Read (inr endless) = inr (subst IsEndless bytes endless)
    other Write why = why
    other (InPlace kind) why = why
    other Memory why = (succeeds why.0, why.1)
    other (Line fault) why = why
    other (Records fault) why = why
    other (Prepared fault) why = why
    other (IllFormed at) why = why
    other (Replaced count) why = why
