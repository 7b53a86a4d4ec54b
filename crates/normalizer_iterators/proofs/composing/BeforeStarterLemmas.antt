-- What is still to come of a composition before a starter, from one item to the next.
use Rattle.std.proofs.Common.{◌≡◌, ℕ, List, [], Some, None, Result, Ok, Err, MatchResult, refl, sym, ap, ◌∙◌, ◌∷◌, subst, arith}
use Rattle.normal_forms.specs.Reading.{IsStarter, IsMark}
use Rattle.normal_forms.specs.CompositionByStarters.{compose_after, compose_by_starters}
use Rattle.normal_forms.proofs.composing.ComposeLemmas.{compose_by_starters-nil, compose_by_starters-starter, compose_by_starters-mark}
use Rattle.normalizer_text.specs.DecodingSteps.{Spells}
use Rattle.normalizer_iterators.specs.declared.composition.Composition.{Composition}
use Rattle.normalizer_iterators.specs.declared.decomposition.Decomposition.{Decomposition}
use Rattle.normalizer_iterators.specs.declared.error.NormalizeError.{NormalizeError}
use Rattle.normalizer_iterators.specs.DecompositionItems as decomposition
use Rattle.normalizer_iterators.specs.Delegate.{MayYield, Source}
use Rattle.normalizer_iterators.specs.NextItem.{YieldedFirst}
use Rattle.normalizer_iterators.specs.inner.PassthroughItems.{YieldsItself}
use Rattle.normalizer_iterators.specs.Composing.{composed_ahead, ahead_left}
use Rattle.normalizer_iterators.specs.CompositionItems.{ComposesOn, CompositionSteps, WillYield, items_left, pairing_by}
use Rattle.normalizer_iterators.proofs.items.DecompositionLemmas.{items_left-ended}
use Rattle.normalizer_iterators.proofs.items.LongRuns.{IsLong-next}
use Rattle.normalizer_tables.specs.Readings.{reading_by}
use Rattle.normalizer_tables.specs.declared.characters.IgnoredCharacters.TheVariants.{Dropped}
use Rattle.normalizer_iterators.proofs.composing.CompositionLemmas.{Becomes, long_by, WillYield-by, WillYield-parts, WillYield-end, items_left-by, CameFirst-composed, IsEnded-parts}

module _ {I : Type 0} (from : Source I) where
  module _ (s : Composition I) (before : s.ahead ≡ None) where
    text_before : (out : List ℕ) (h : WillYield (Spells from.next_gives) s out) → out ≡ compose_by_starters (pairing_by s) h.unread
    text_before out h = h.text ∙ ap (λ a. composed_ahead (pairing_by s) a h.unread) before

    -- what the decomposition may yield is composed
    may_come : (Comes : I → List ℕ → Type 0) (y out : List ℕ) → decomposition.WillYield Comes s.decomposed y → compose_by_starters (pairing_by s) y ≡ out → WillYield Comes s out
    may_come Comes y out h composed = record { unread = y; source = h; text = sym (ap (λ a. composed_ahead (pairing_by s) a y) before ∙ composed) }

    left_in_source : items_left from.remaining s ≡ decomposition.items_left from.remaining s.decomposed
    left_in_source = ap (λ a. ahead_left a (decomposition.items_left from.remaining s.decomposed)) before

    -- a starter is next
    pub Steps-first_starter : (c : ℕ) (n : Decomposition I) (r : Result ℕ NormalizeError) (t : Composition I) → decomposition.DecompositionSteps from s.decomposed (Some (Ok c)) n
        → IsStarter (pairing_by s) c → ComposesOn from c n s.pairs.now r t → CompositionSteps from s (Some r) t
    Steps-first_starter c n r t step starter on =
        let d = pairing_by s in
        let same_after : (y : List ℕ) → compose_after d c [] y ≡ compose_after (reading_by n.characters Dropped s.pairs.now) c [] y
        = λ y. ap (λ k. compose_after (reading_by k Dropped s.pairs.now) c [] y) (sym step.kept.0) in
        record {
          item = record {
            first = λ out h.
                let next = step.item.first h.unread h.source in
                let text : out ≡ compose_after d c [] next.0 = text_before out h ∙ ap (compose_by_starters d) next.1 ∙ compose_by_starters-starter d c next.0 starter in
                subst (λ o. MatchResult r (YieldedFirst (WillYield (Spells from.next_gives)) o t) (λ _. WillYield (Spells from.next_gives) t [])) (sym (text ∙ same_after next.0)) (on.first next.0 next.2);
            fault = on.fault;
            room = λ h. on.room (step.item.room h).1;
            ends = on.ends;
            stays = λ h. cc (step.item.stays h.1);
          };
          came = λ e. CameFirst-composed from s t e n (reading_by n.characters Dropped s.pairs.now) c r (on.came e)
              (λ y out h composed. may_come (MayYield from.next_gives e) (c ∷ y) out (step.came e y h) (compose_by_starters-starter d c y starter ∙ same_after y ∙ composed));
          long = long_by from _ _ _ r (IsLong-next from s.decomposed c n step) on.long;
          ready = λ _. on.ready;
          kept = (on.kept.0 ∙ step.kept.0, on.kept.1);
          fewer = omega (arith, on.fewer, step.fewer, left_in_source);
        }

    module _ (t : Composition I) where
      pub Steps-fault : (e : NormalizeError) → Becomes s None t → decomposition.DecompositionSteps from s.decomposed (Some (Err e)) t.decomposed
          → CompositionSteps from s (Some (Err e)) t
      Steps-fault e parts step = record {
        item = record {
          first = λ out h. WillYield-end from s t parts step.item.ends;
          fault = step.item.fault;
          room = λ h. cc (step.item.room h).0;
          ends = IsEnded-parts from s t parts step.item.ends;
          stays = λ h. cc (step.item.stays h.1);
        };
        came = λ k. tt;
        long = step.long;
        ready = step.ready;
        kept = parts.kept;
        fewer = omega (arith, step.fewer, left_in_source, items_left-by from s t None parts);
      }

      pub Steps-end : Becomes s None t → decomposition.DecompositionSteps from s.decomposed None t.decomposed → CompositionSteps from s None t
      Steps-end parts step =
          let d = pairing_by s in
          record {
            item = record {
              first = λ out h.
                  let end = step.item.first h.unread h.source in
                  (text_before out h ∙ ap (compose_by_starters d) end.0 ∙ compose_by_starters-nil d, WillYield-end from s t parts step.item.ends);
              fault = tt;
              room = λ h. (tt, (step.item.room h).1);
              ends = IsEnded-parts from s t parts step.item.ends;
              stays = λ h. refl;
            };
            came = λ e. may_come (MayYield from.next_gives e) [] [] (step.came e) (compose_by_starters-nil d);
            long = tt;
            ready = step.ready;
            kept = parts.kept;
            fewer = tt;
          }

      -- a character is given as it is
      pub Steps-passed : (c : ℕ) → Becomes s None t → YieldsItself from s.pairs.now s.decomposed c t.decomposed → CompositionSteps from s (Some (Ok c)) t
      Steps-passed c parts on =
          let d = pairing_by s in
          record {
            item = record {
              first = λ out h.
                  let next = on.text h.unread h.source in (
                    compose_by_starters d next.1,
                    text_before out h ∙ next.3,
                    WillYield-by from (Spells from.next_gives) s t None parts _ (record { unread = next.1; source = next.4; text = refl }),
                  );
              fault = tt;
              room = λ h. (refl, on.short h);
              ends = tt;
              stays = λ h. absurd (omega (arith, on.fewer, items_left-ended from s.decomposed h.1));
            };
            came = λ e out h.
                let b = WillYield-parts from (MayYield from.next_gives e) s t None parts out h in
                let y = on.came e b.unread b.source in
                may_come (MayYield from.next_gives e) y.0 (c ∷ out) y.1 (y.2 ∙ ap (λ l. c ∷ l) (sym b.text));
            long = on.long;
            ready = λ _. on.ready;
            kept = parts.kept;
            fewer = omega (arith, on.fewer, left_in_source, items_left-by from s t None parts);
          }

      -- a mark is given as it is
      pub Steps-mark : (c : ℕ) → Becomes s None t → decomposition.DecompositionSteps from s.decomposed (Some (Ok c)) t.decomposed → IsMark (pairing_by s) c
          → CompositionSteps from s (Some (Ok c)) t
      Steps-mark c parts step mark =
          let d = pairing_by s in
          record {
            item = record {
              first = λ out h.
                  let next = step.item.first h.unread h.source in (
                    compose_by_starters d next.0,
                    text_before out h ∙ ap (compose_by_starters d) next.1 ∙ compose_by_starters-mark d c next.0 mark,
                    WillYield-by from (Spells from.next_gives) s t None parts _ (record { unread = next.0; source = next.2; text = refl }),
                  );
              fault = tt;
              room = step.item.room;
              ends = tt;
              stays = λ h. cc (step.item.stays h.1);
            };
            came = λ e out h.
                let b = WillYield-parts from (MayYield from.next_gives e) s t None parts out h in
                may_come (MayYield from.next_gives e) (c ∷ b.unread) (c ∷ out) (step.came e b.unread b.source)
                (compose_by_starters-mark d c b.unread mark ∙ ap (λ l. c ∷ l) (sym b.text));
            long = IsLong-next from s.decomposed c t.decomposed step;
            ready = step.ready;
            kept = parts.kept;
            fewer = omega (arith, step.fewer, left_in_source, items_left-by from s t None parts);
          }
