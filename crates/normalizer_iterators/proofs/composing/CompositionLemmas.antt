-- What is still to come of a composition, from one item to the next.
use Rattle.std.proofs.Common.{◌≡◌, ℕ, List, [], Option, Some, None, Result, Ok, Err, MatchResult, IfOk, refl, sym, ap, ◌∙◌, ◌∷◌, subst, arith}
use Rattle.std.specs.Iterator.{at_most, MakesProgress}
use Rattle.normal_forms.specs.Reading.{Reading}
use Rattle.normal_forms.specs.CompositionByStarters.{compose_after}
use Rattle.normalizer_text.specs.DecodingSteps.{Spells}
use Rattle.normalizer_iterators.specs.declared.composition.Composition.{Composition}
use Rattle.normalizer_iterators.specs.declared.decomposition.Decomposition.{Decomposition}
use Rattle.normalizer_iterators.specs.declared.error.NormalizeError.{NormalizeError}
use Rattle.normalizer_iterators.specs.declared.error.NormalizeError.TheVariants.{Memory}
use Rattle.normalizer_iterators.specs.DecompositionItems as decomposition
use Rattle.normalizer_iterators.specs.Delegate.{Extent, MayYield, Source}
use Rattle.normalizer_iterators.specs.NextItem.{CameFirst, YieldedFirst}
use Rattle.normalizer_iterators.specs.Composing.{composed_ahead, ahead_left, WillYieldAfter, ComposesStarter}
use Rattle.normalizer_iterators.specs.CompositionItems.{CanCompose, ComposesOn, CompositionSteps, IsEnded, WillYield, items_left, pairing_by}
use Rattle.normal_forms.proofs.composing.ComposeLemmas.{compose_by_starters-nil}
use Rattle.normalizer_iterators.proofs.items.DecompositionLemmas.{ended, items_left-ended}
use Rattle.normalizer_iterators.proofs.items.ProgressLemmas.{MakesProgress-fewer}
use Rattle.normalizer_tables.specs.Readings.{reading_by}
use Rattle.normalizer_tables.specs.declared.characters.IgnoredCharacters.TheVariants.{Dropped}

-- t has the data and the pairs of s, and this is ahead
pub record Becomes {I : Type 0} (s : Composition I) (behind : Option ℕ) (t : Composition I) : Type 0 where
  pub kept : (t.decomposed.characters ≡ s.decomposed.characters) × (t.pairs.now ≡ s.pairs.now)
  pub ahead : t.ahead ≡ behind

module _ {I : Type 0} (from : Source I) where
  -- ---- what is to come, by the parts

  pairing_by-kept : (s t : Composition I) → (t.decomposed.characters ≡ s.decomposed.characters) × (t.pairs.now ≡ s.pairs.now) → pairing_by t ≡ pairing_by s
  pairing_by-kept s t kept = ap (λ k. reading_by k Dropped t.pairs.now) kept.0 ∙ ap (reading_by s.decomposed.characters Dropped) kept.1

  pub WillYield-by : (Comes : I → List ℕ → Type 0) (s t : Composition I) (behind : Option ℕ) → Becomes s behind t → (out : List ℕ)
      → WillYieldAfter Comes (pairing_by s) behind t.decomposed out → WillYield Comes t out
  WillYield-by Comes s t behind parts out h =
      subst (λ k. WillYieldAfter Comes k t.ahead t.decomposed out) (sym (pairing_by-kept s t parts.kept))
      (subst (λ a. WillYieldAfter Comes (pairing_by s) a t.decomposed out) (sym parts.ahead) h)

  pub WillYield-parts : (Comes : I → List ℕ → Type 0) (s t : Composition I) (behind : Option ℕ) → Becomes s behind t → (out : List ℕ)
      → WillYield Comes t out → WillYieldAfter Comes (pairing_by s) behind t.decomposed out
  WillYield-parts Comes s t behind parts out h =
      subst (λ a. WillYieldAfter Comes (pairing_by s) a t.decomposed out) parts.ahead
      (subst (λ k. WillYieldAfter Comes k t.ahead t.decomposed out) (pairing_by-kept s t parts.kept) h)

  -- a starter was composed
  pub CameFirst-composed : (s t : Composition I) (e : Extent) (n : Decomposition I) (d : Reading) (a : ℕ) (r : Result ℕ NormalizeError)
      → IfOk r (λ c. (rest : List ℕ) → WillYield (MayYield from.next_gives e) t rest → (y : List ℕ) × decomposition.WillYield (MayYield from.next_gives e) n y × (compose_after d a [] y ≡ c ∷ rest))
      → ((y out : List ℕ) → decomposition.WillYield (MayYield from.next_gives e) n y → compose_after d a [] y ≡ out → WillYield (MayYield from.next_gives e) s out) → CameFirst (WillYield (MayYield from.next_gives e)) s (Some r) t
  CameFirst-composed s t e n d a (Ok c) on back = λ out h. let y = on out h in back y.0 (c ∷ out) y.1 y.2
  CameFirst-composed s t e n d a (Err k) on back = tt

  -- the same of another state before
  pub long_by : (A B C : Type 0) (r : Result ℕ NormalizeError) → (B → C) → MatchResult r (λ _. A → B) (λ _. B) → MatchResult r (λ _. A → C) (λ _. C)
  long_by A B C (Ok c) back on = λ h. back (on h)
  long_by A B C (Err e) back on = back on

  pub items_left-by : (s t : Composition I) (behind : Option ℕ) → Becomes s behind t → items_left from.remaining t ≡ ahead_left behind (decomposition.items_left from.remaining t.decomposed)
  items_left-by s t behind parts = rw parts.ahead refl

  -- nothing is to come
  pub WillYield-end : (s t : Composition I) → Becomes s None t → decomposition.IsEnded t.decomposed → WillYield (Spells from.next_gives) t []
  WillYield-end s t parts end = WillYield-by (Spells from.next_gives) s t None parts []
      (record { unread = []; source = ended from (Spells from.next_gives) t.decomposed end.0 end.1; text = sym (compose_by_starters-nil (pairing_by s)) })

  pub IsEnded-parts : (s t : Composition I) → Becomes s None t → decomposition.IsEnded t.decomposed → IsEnded t
  IsEnded-parts s t parts end = (parts.ahead, end)

  -- ---- a starter is composed, or a fault comes

  pub ComposesOn-given : (starter : ℕ) (s t : Composition I) (composite : ℕ) (ahead : Option ℕ) → Becomes s ahead t
      → ComposesStarter from.next_gives from.remaining (pairing_by s) starter s.decomposed composite ahead t.decomposed → CanCompose from.can_next from.remaining t
      → ComposesOn from starter s.decomposed s.pairs.now (Ok composite) t
  ComposesOn-given starter s t composite ahead parts composes ready = record {
    first = λ y h. let text = composes.text y h in (text.0, text.1, WillYield-by (Spells from.next_gives) s t ahead parts text.0 text.2);
    came = λ e rest h. composes.came e rest (WillYield-parts (MayYield from.next_gives e) s t ahead parts rest h);
    fault = tt;
    room = λ h. (refl, composes.short h);
    long = composes.long;
    ends = tt;
    ready = ready;
    fewer = omega (arith, composes.fewer, items_left-by s t ahead parts);
    kept = parts.kept;
  }

  pub ComposesOn-fault : (starter : ℕ) (s t : Composition I) (e : NormalizeError) → Becomes s None t → decomposition.IsEnded t.decomposed → e ≡ Memory
      → (decomposition.StaysShort from.next_gives s.decomposed → ⊥) → decomposition.IsLong from.next_gives s.decomposed → ComposesOn from starter s.decomposed s.pairs.now (Err e) t
  ComposesOn-fault starter s t e parts end memory long far = record {
    first = λ y h. WillYield-end s t parts end;
    came = λ e. tt;
    fault = memory;
    room = λ h. absurd (long h);
    long = far;
    ends = IsEnded-parts s t parts end;
    ready = rw end.0 tt;
    fewer = omega (arith, items_left-by s t None parts, items_left-ended from t.decomposed end);
    kept = parts.kept;
  }

  -- ---- there is a starter

  pub Steps-starter : (s t : Composition I) (a : ℕ) (r : Result ℕ NormalizeError) → ComposesOn from a s.decomposed s.pairs.now r t → s.ahead ≡ Some a → CompositionSteps from s (Some r) t
  Steps-starter s t a r on is =
      let d = pairing_by s in
      record {
        item = record {
          first = λ out h.
              let text : out ≡ compose_after d a [] h.unread = h.text ∙ ap (λ b. composed_ahead d b h.unread) is in
              subst (λ o. MatchResult r (YieldedFirst (WillYield (Spells from.next_gives)) o t) (λ _. WillYield (Spells from.next_gives) t [])) (sym text) (on.first h.unread h.source);
          fault = on.fault;
          room = on.room;
          ends = on.ends;
          stays = λ h. cc (h.0, is);
        };
        came = λ e. CameFirst-composed s t e s.decomposed d a r (on.came e)
            (λ y out h composed. record { unread = y; source = h; text = sym (ap (λ b. composed_ahead d b y) is ∙ composed) });
        long = on.long;
        ready = λ _. on.ready;
        kept = on.kept;
        fewer = omega (arith, on.fewer, ap (λ b. ahead_left b (decomposition.items_left from.remaining s.decomposed)) is);
      }

  -- ---- fewer are left

  pub Goes : (s : Composition I) (r : Option (Result ℕ NormalizeError)) (t : Composition I) → CanCompose from.can_next from.remaining s → CompositionSteps from s r t
      → MakesProgress {A = Result ℕ NormalizeError} (CanCompose from.can_next from.remaining) (λ v. at_most (items_left from.remaining v)) s r t
  Goes s r t ready step = MakesProgress-fewer (CanCompose from.can_next from.remaining) (items_left from.remaining) s r t (step.ready ready) step.fewer
