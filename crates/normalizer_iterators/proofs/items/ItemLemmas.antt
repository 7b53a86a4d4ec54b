-- What an iterator of normalized text yields, by what it has still to yield.
use Rattle.std.proofs.Common.{◌≡◌, ℕ, Bool, IfOk, IfErr, IsOk, List, [], ◌∷◌, ◌++◌, map, Option, Some}
use Rattle.std.proofs.Common.{None, Result, Ok, Err, All, MatchOption, MatchResult, refl, sym, ap, subst, append-nil, ◌∙◌}
use Rattle.std.proofs.lemmas.List.Elements.{All-nil, All-cons, All-head, All-tail}
use Rattle.std.specs.Iterator.{Yields}
use Rattle.normal_forms.specs.Forms.{nfd}
use Rattle.normal_forms.specs.Reading.{Reading}
use Rattle.normal_forms.specs.ShortRuns.{HasShortRuns}
use Rattle.normalizer_text.specs.DecodingSteps.{Spells}
use Rattle.normalizer_iterators.specs.DecompositionItems.{WillYield, StaysShort, IsEnded, IsLong, DecompositionSteps}
use Rattle.normalizer_iterators.specs.CompositionItems as composition
use Rattle.normalizer_iterators.specs.CompositionItems.{CompositionSteps, pairing_by}
use Rattle.normalizer_iterators.specs.declared.composition.Composition.{Composition}
use Rattle.normalizer_iterators.specs.declared.decomposition.Decomposition.{Decomposition}
use Rattle.normalizer_iterators.specs.declared.error.NormalizeError.{NormalizeError}
use Rattle.normalizer_iterators.specs.declared.error.NormalizeError.TheVariants.{Memory}
use Rattle.normalizer_iterators.specs.Composing.{composed_ahead}
use Rattle.normalizer_iterators.specs.Delegate.{Extent, MayYield, Source, HasYieldedLong}
use Rattle.normalizer_iterators.specs.Delegate.Extent.{to_end, so_far}
use Rattle.normalizer_iterators.specs.NextItem.{CameFirst, ComesOfLong, YieldsNext, IsFormOfSource}
use Rattle.normalizer_iterators.proofs.items.LongRuns.{ComesOfLong-decomposition, some_decomposed}
use Rattle.normalizer_iterators.specs.Items.{Answers, YieldsForm, YieldsFormOfRun, HasEnded, SpellsOk, SpellsUnless}

-- ---- the next item of an iterator

module _ {S E : Type 0} (gives : S → Option (Result ℕ E) → S → Type 0) where
  -- a character that came is the first of those that were left
  pub SpellsUnless-next : (fault : E) (s t : S) (c : ℕ) (x : List ℕ) → gives s (Some (Ok c)) t → SpellsUnless gives fault s x → (rest : List ℕ) × (x ≡ c ∷ rest) × SpellsUnless gives fault t rest
  SpellsUnless-next fault s t c [] step h = absurd (h (Some (Ok c)) t step)
  SpellsUnless-next fault s t c (d ∷ x) step h = let next = h (Some (Ok c)) t step in (x, ap (λ e. e ∷ x) (sym next.0), next.1)

  -- if none came, none was left, and the end is reached
  pub SpellsUnless-end : (fault : E) (s t : S) (x : List ℕ) → gives s None t → SpellsUnless gives fault s x → (x ≡ []) × HasEnded gives t
  SpellsUnless-end fault s t [] step h = (refl, h None t step)
  SpellsUnless-end fault s t (c ∷ x) step h = absurd (h None t step)

  pub SpellsUnless-fault : (fault : E) (s t : S) (e : E) (x : List ℕ) → gives s (Some (Err e)) t → SpellsUnless gives fault s x → (e ≡ fault) × HasEnded gives t
  SpellsUnless-fault fault s t e [] step h = h (Some (Err e)) t step
  SpellsUnless-fault fault s t e (c ∷ x) step h = h (Some (Err e)) t step

  -- if the end was reached, `None` comes, and the end stays reached
  pub HasEnded-next : (s t : S) (r : Option (Result ℕ E)) → gives s r t → HasEnded gives s → (r ≡ None) × HasEnded gives t
  HasEnded-next s t r step h = (
    All-head (λ q. q ≡ None) r [] (h.at (r ∷ []) t (t, step, refl)),
    record { at = λ rs u answers. All-tail (λ q. q ≡ None) r rs (h.at (r ∷ rs) u (t, step, answers)) },
  )

  pub SpellsOk-next : (s t : S) (c : ℕ) (x : List ℕ) → gives s (Some (Ok c)) t → SpellsOk gives s x → (rest : List ℕ) × (x ≡ c ∷ rest) × SpellsOk gives t rest
  SpellsOk-next s t c [] step h = let none = (HasEnded-next s t (Some (Ok c)) step h).0 in absurd (cc none)
  SpellsOk-next s t c (d ∷ x) step h = let next = h (Some (Ok c)) t step in let same : c ≡ d = cc in (x, ap (λ e. e ∷ x) (sym same), next.1)

  pub SpellsOk-end : (s t : S) (x : List ℕ) → gives s None t → SpellsOk gives s x → (x ≡ []) × HasEnded gives t
  SpellsOk-end s t [] step h = (refl, (HasEnded-next s t None step h).1)
  SpellsOk-end s t (c ∷ x) step h = let next = h None t step in absurd (cc (next.0))

  pub SpellsOk-no_fault : (s t : S) (e : E) (x : List ℕ) → gives s (Some (Err e)) t → SpellsOk gives s x → ⊥
  SpellsOk-no_fault s t e [] step h = let none = (HasEnded-next s t (Some (Err e)) step h).0 in cc none
  SpellsOk-no_fault s t e (c ∷ x) step h = let next = h (Some (Err e)) t step in cc (next.0)

  -- what spells a text without faults spells it whatever fault is awaited
  pub SpellsUnless-ok : (fault : E) (s : S) (x : List ℕ) → SpellsOk gives s x → SpellsUnless gives fault s x
  SpellsUnless-ok fault s [] h = λ r t step. at_end r t (HasEnded-next s t r step h)
    where
      at_end : (r : Option (Result ℕ E)) (t : S) → (r ≡ None) × HasEnded gives t → MatchOption r (HasEnded gives t) (λ i. MatchResult i (λ c. ⊥) (λ e. (e ≡ fault) × HasEnded gives t))
      at_end None t ended = ended.1
      at_end (Some i) t ended = absurd (cc (ended.0))
  SpellsUnless-ok fault s (c ∷ x) h = λ r t step. at_item (λ u. SpellsUnless-ok fault u x) r t (h r t step)
    where
      at_item : ((u : S) → SpellsOk gives u x → SpellsUnless gives fault u x) → (r : Option (Result ℕ E)) (t : S) → (r ≡ Some (Ok c)) × SpellsOk gives t x
          → MatchOption r ⊥ (λ i. MatchResult i (λ d. (d ≡ c) × SpellsUnless gives fault t x) (λ e. (e ≡ fault) × HasEnded gives t))
      at_item on None t next = absurd (cc (next.0))
      at_item on (Some (Ok d)) t next = (cc (next.0), on t next.1)
      at_item on (Some (Err e)) t next = absurd (cc (next.0))

-- an iterator of normalized text spells what is to come of it
module _ {S : Type 0} (WillYield : S → List ℕ → Type 0) (StaysShort IsEnded : S → Type 0) (steps : S → Option (Result ℕ NormalizeError) → S → Type 0)
    (item : (s : S) (r : Option (Result ℕ NormalizeError)) (t : S) → steps s r t → YieldsNext WillYield StaysShort IsEnded s r t) where
  stays_ended : (s : S) (r : Option (Result ℕ NormalizeError)) (t : S) → IsEnded s → steps s r t → (r ≡ None) × IsEnded t
  stays_ended s r t ended step =
      let gave = item s r t step in
      let none : r ≡ None = gave.stays ended in
      (none, subst (λ o. MatchOption o (IsEnded t) (λ i. MatchResult i (λ c. Unit {0}) (λ e. IsEnded t))) none gave.ends)

  pub HasEnded-ended : (s : S) → IsEnded s → HasEnded steps s
  HasEnded-ended s ended = record { at = all s ended }
    where
      all : (s : S) → IsEnded s → (rs : List (Option (Result ℕ NormalizeError))) (t : S) → Answers steps s rs t → All (λ r. r ≡ None) rs
      all s ended [] t h = All-nil (λ r. r ≡ None)
      all s ended (r ∷ rs) t h = let next = stays_ended s r h.0 ended h.1 in All-cons (λ q. q ≡ None) r rs next.0 (all h.0 next.1 rs t h.2)

  pub SpellsUnless-to_come : (s : S) (x : List ℕ) → WillYield s x → SpellsUnless steps Memory s x
  SpellsUnless-to_come s [] h = λ r t step. at_end r t (item s r t step)
    where
      at_end : (r : Option (Result ℕ NormalizeError)) (t : S) → YieldsNext WillYield StaysShort IsEnded s r t
          → MatchOption r (HasEnded steps t) (λ i. MatchResult i (λ c. ⊥) (λ e. (e ≡ Memory) × HasEnded steps t))
      at_end None t gave = HasEnded-ended t gave.ends
      at_end (Some (Ok c)) t gave = let first = gave.first [] h in let none : [] ≡ c ∷ first.0 = first.1 in absurd (cc)
      at_end (Some (Err e)) t gave = (gave.fault, HasEnded-ended t gave.ends)
  SpellsUnless-to_come s (c ∷ x) h = λ r t step. at_item (λ u. SpellsUnless-to_come u x) r t (item s r t step)
    where
      at_item : ((u : S) → WillYield u x → SpellsUnless steps Memory u x) → (r : Option (Result ℕ NormalizeError)) (t : S) → YieldsNext WillYield StaysShort IsEnded s r t
          → MatchOption r ⊥ (λ i. MatchResult i (λ d. (d ≡ c) × SpellsUnless steps Memory t x) (λ e. (e ≡ Memory) × HasEnded steps t))
      at_item on None t gave = let none : c ∷ x ≡ [] = (gave.first (c ∷ x) h).0 in absurd (cc)
      at_item on (Some (Ok d)) t gave =
          let first = gave.first (c ∷ x) h in
          let split : c ∷ x ≡ d ∷ first.0 = first.1 in
          let rest : first.0 ≡ x = cc in (cc, on t (subst (WillYield t) rest first.2))
      at_item on (Some (Err e)) t gave = (gave.fault, HasEnded-ended t gave.ends)

  pub SpellsOk-to_come : (s : S) (x : List ℕ) → WillYield s x → StaysShort s → SpellsOk steps s x
  SpellsOk-to_come s [] h short = record { at = all }
    where
      at_end : (r : Option (Result ℕ NormalizeError)) (t : S) → YieldsNext WillYield StaysShort IsEnded s r t → (r ≡ None) × IsEnded t
      at_end None t gave = (refl, gave.ends)
      at_end (Some (Ok c)) t gave = let first = gave.first [] h in let none : [] ≡ c ∷ first.0 = first.1 in absurd (cc)
      at_end (Some (Err e)) t gave = absurd (cc ((gave.room short).0))

      all : (rs : List (Option (Result ℕ NormalizeError))) (t : S) → Answers steps s rs t → All (λ r. r ≡ None) rs
      all [] t answers = All-nil (λ r. r ≡ None)
      all (r ∷ rs) t answers =
          let next = at_end r answers.0 (item s r answers.0 answers.1) in
          All-cons (λ q. q ≡ None) r rs next.0 ((HasEnded-ended answers.0 next.1).at rs t answers.2)
  SpellsOk-to_come s (c ∷ x) h short = λ r t step. at_item (λ u. SpellsOk-to_come u x) r t (item s r t step)
    where
      at_item : ((u : S) → WillYield u x → StaysShort u → SpellsOk steps u x) → (r : Option (Result ℕ NormalizeError)) (t : S) → YieldsNext WillYield StaysShort IsEnded s r t → (r ≡ Some (Ok c))
          × SpellsOk steps t x
      at_item on None t gave = let none : c ∷ x ≡ [] = (gave.first (c ∷ x) h).0 in absurd (cc)
      at_item on (Some (Ok d)) t gave =
          let first = gave.first (c ∷ x) h in
          let split : c ∷ x ≡ d ∷ first.0 = first.1 in
          let rest : first.0 ≡ x = cc in (cc, on t (subst (WillYield t) rest first.2) (gave.room short).1)
      at_item on (Some (Err e)) t gave = absurd (cc ((gave.room short).0))

module _ {I : Type 0} (from : Source I) where
  -- a decomposition spells what is to come of it
  pub SpellsUnless-decomposition : (s : Decomposition I) (x : List ℕ) → WillYield (Spells from.next_gives) s x → SpellsUnless (DecompositionSteps from) Memory s x
  SpellsUnless-decomposition = SpellsUnless-to_come (WillYield (Spells from.next_gives)) (StaysShort from.next_gives) IsEnded (DecompositionSteps from) (λ s r t steps. steps.item)

  pub SpellsOk-decomposition : (s : Decomposition I) (x : List ℕ) → WillYield (Spells from.next_gives) s x → StaysShort from.next_gives s → SpellsOk (DecompositionSteps from) s x
  SpellsOk-decomposition = SpellsOk-to_come (WillYield (Spells from.next_gives)) (StaysShort from.next_gives) IsEnded (DecompositionSteps from) (λ s r t steps. steps.item)

  -- a composition spells what is to come of it
  pub SpellsUnless-composition : (s : Composition I) (x : List ℕ) → composition.WillYield (Spells from.next_gives) s x → SpellsUnless (CompositionSteps from) Memory s x
  SpellsUnless-composition = SpellsUnless-to_come (composition.WillYield (Spells from.next_gives)) (composition.StaysShort from.next_gives) composition.IsEnded (CompositionSteps from) (λ s r t steps. steps.item)

  pub SpellsOk-composition : (s : Composition I) (x : List ℕ) → composition.WillYield (Spells from.next_gives) s x → composition.StaysShort from.next_gives s → SpellsOk (CompositionSteps from) s x
  SpellsOk-composition = SpellsOk-to_come (composition.WillYield (Spells from.next_gives)) (composition.StaysShort from.next_gives) composition.IsEnded (CompositionSteps from) (λ s r t steps. steps.item)

-- ---- what a run yielded

module _ {I S : Type 0} (source_gives : I → Option ℕ → I → Type 0) (MayCome : Extent → S → List ℕ → Type 0) (WillYield : S → List ℕ → Type 0) (StaysShort IsEnded : S → Type 0)
    (steps : S → Option (Result ℕ NormalizeError) → S → Type 0)
    (item : (s : S) (r : Option (Result ℕ NormalizeError)) (t : S) → steps s r t → YieldsNext WillYield StaysShort IsEnded s r t)
    (came : (s : S) (r : Option (Result ℕ NormalizeError)) (t : S) → steps s r t → (e : Extent) → CameFirst (MayCome e) s r t)
    (IsLong : S → Type 0) (long : (s : S) (r : Option (Result ℕ NormalizeError)) (t : S) → steps s r t → ComesOfLong IsLong s r t) where
  -- what may come after a run may come before it, after what the run yielded
  may_come_before : (e : Extent) (s : S) (xs : List ℕ) (t : S) (out : List ℕ) → Yields steps s (map Ok xs) t → MayCome e t out → MayCome e s (xs ++ out)
  may_come_before e s [] t out run h = subst (λ u. MayCome e u out) (sym run) h
  may_come_before e s (x ∷ xs) t out run h = came s (Some (Ok x)) run.0 run.1 e (xs ++ out) (may_come_before e run.0 xs t out run.2 h)

  -- and so may runs that aren't short
  IsLong-before : (s : S) (xs : List ℕ) (t : S) → Yields steps s (map Ok xs) t → IsLong t → IsLong s
  IsLong-before s [] t run h = subst IsLong (sym run) h
  IsLong-before s (x ∷ xs) t run h = long s (Some (Ok x)) run.0 run.1 (IsLong-before run.0 xs t run.2 h)

  YieldsFormOfRun-made : ((s : S) → (out : List ℕ) × MayCome so_far s out) → (f : ℕ → Bool) (d : Reading) (form : List ℕ → List ℕ) (source : I) (it : S)
      → IsFormOfSource source_gives MayCome form source it → (IsLong it → HasYieldedLong source_gives f d source) → YieldsFormOfRun source_gives steps f d form source it
  YieldsFormOfRun-made some f d form source it is begins = record {
    whole = λ out run.
        let (after, all) = run in
        let (last, yields, end) = all in
        let x = is to_end (out ++ []) (may_come_before to_end it out last [] yields (came last None after end to_end)) in
        (x.0, x.1, sym (append-nil out) ∙ x.2);
    front = λ out now yields.
        let more = some now in
        let x = is so_far (out ++ more.0) (may_come_before so_far it out now more.0 yields more.1) in
        let (after, run) = x.1 in
        (x.0, after, run, (more.0, sym x.2));
    fault = λ out e now all.
        let (last, yields, step) = all in
        let gave = item last (Some (Err e)) now step in
        (gave.fault, HasEnded-ended WillYield StaysShort IsEnded steps item now gave.ends, begins (IsLong-before it out last yields (long last (Some (Err e)) now step)));
  }

module _ {I : Type 0} (from : Source I) where
  some_composed : (s : Composition I) → (out : List ℕ) × composition.WillYield (MayYield from.next_gives so_far) s out
  some_composed s =
      let y = some_decomposed from s.decomposed in
      (composed_ahead (pairing_by s) s.ahead y.0, record { unread = y.0; source = y.1; text = refl })

  pub YieldsFormOfRun-decomposition : (f : ℕ → Bool) (d : Reading) (form : List ℕ → List ℕ) (source : I) (it : Decomposition I)
      → IsFormOfSource from.next_gives (λ e. WillYield (MayYield from.next_gives e)) form source it → (IsLong from.next_gives it → HasYieldedLong from.next_gives f d source)
      → YieldsFormOfRun from.next_gives (DecompositionSteps from) f d form source it
  YieldsFormOfRun-decomposition =
      YieldsFormOfRun-made from.next_gives (λ e. WillYield (MayYield from.next_gives e)) (WillYield (Spells from.next_gives)) (StaysShort from.next_gives) IsEnded (DecompositionSteps from)
      (λ s r t step. step.item) (λ s r t step. step.came) (IsLong from.next_gives) (ComesOfLong-decomposition from) (some_decomposed from)

  pub YieldsFormOfRun-composition : (f : ℕ → Bool) (d : Reading) (form : List ℕ → List ℕ) (source : I) (it : Composition I)
      → IsFormOfSource from.next_gives (λ e. composition.WillYield (MayYield from.next_gives e)) form source it → (composition.IsLong from.next_gives it → HasYieldedLong from.next_gives f d source)
      → YieldsFormOfRun from.next_gives (CompositionSteps from) f d form source it
  YieldsFormOfRun-composition =
      YieldsFormOfRun-made from.next_gives (λ e. composition.WillYield (MayYield from.next_gives e)) (composition.WillYield (Spells from.next_gives)) (composition.StaysShort from.next_gives) composition.IsEnded
      (CompositionSteps from) (λ s r t step. step.item) (λ s r t step. step.came) (composition.IsLong from.next_gives) (λ s r t step. step.long) some_composed

-- ---- the result of a constructor

pub YieldsForm-decomposition : {I : Type 0} (from : Source I) (f : ℕ → Bool) (d : Reading) (source : I) (made : Result (Decomposition I) NormalizeError)
    → IfOk made (λ it. (x : List ℕ) → Spells from.next_gives source x → WillYield (Spells from.next_gives) it (nfd d x))
    → IfOk made (λ it. (x : List ℕ) → Spells from.next_gives source x → HasShortRuns f d x → StaysShort from.next_gives it)
    → ((x : List ℕ) → Spells from.next_gives source x → HasShortRuns f d x → IsOk made)
    → IfOk made (IsFormOfSource from.next_gives (λ e. WillYield (MayYield from.next_gives e)) (nfd d) source)
    → IfOk made (λ it. IsLong from.next_gives it → HasYieldedLong from.next_gives f d source)
    → IfErr made (λ e. (e ≡ Memory) × HasYieldedLong from.next_gives f d source) → YieldsForm from.next_gives (DecompositionSteps from) f d nfd source made
YieldsForm-decomposition from f d source (Ok it) text short succeeds came long refused = record {
  text = λ x h. SpellsUnless-decomposition from it (nfd d x) (text x h);
  short = λ x h runs. SpellsOk-decomposition from it (nfd d x) (text x h) (short x h runs);
  run = YieldsFormOfRun-decomposition from f d (nfd d) source it came long;
  refused = refused;
}
YieldsForm-decomposition from f d source (Err e) text short succeeds came long refused =
    record { text = tt; short = λ x h runs. absurd (cc (succeeds x h runs)); run = tt; refused = refused }
