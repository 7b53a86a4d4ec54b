-- Composing what is buffered, in its place.
use Rattle.std.proofs.Common.{◌≡◌, ℕ, ◌+◌, ◌<◌, ◌≤◌, List, [], ◌∷◌, ◌++◌, length, max, Some, None, refl, sym, ap, ◌∙◌, subst, arith, inl, inr, append-nil, append_assoc, length-append}
use Rattle.normal_forms.specs.Boundary.{BeginsWithStarter}
use Rattle.normal_forms.specs.Reading.{Reading, IsStarter}
use Rattle.normal_forms.specs.CompositionByStarters.{join, compose_after, compose_by_starters}
use Rattle.normal_forms.proofs.composing.ComposeLemmas.{
  compose_after-nil,
  compose_after-join,
  compose_after-starter,
  compose_after-mark,
  compose_by_starters-nil,
  compose_by_starters-starter,
  compose_by_starters-marks,
  join-cases,
  AreMarks-push,
}
use Rattle.normal_forms.proofs.ordering.OrderLemmas.{AreMarks}
use Rattle.normalizer_tables.specs.Pairs.{Pair}
use Rattle.normalizer_iterators.specs.declared.waiting.WaitingList.{WaitingList}
use Rattle.normalizer_iterators.specs.ComposingInPlace.{BlockBelow, ComposesInPlace, composed_before}
use Rattle.normalizer_iterators.specs.WaitingList.{ordered_text, text_before, text_from, unordered_text, AgreesWith}
use Rattle.normalizer_iterators.specs.inner.Segments.{HasPairsOf}
use Rattle.normalizer_iterators.proofs.buffers.WaitingLemmas.{characters-given, characters-parts}
use Rattle.normalizer_iterators.proofs.composing.MarkLemmas.{is_above-none, is_above-one_more, join-starter}

-- ---- marks that stay after a starter

-- the next starter doesn't join
compose_after-apart : (d : Reading) (a : ℕ) (p : List ℕ) (c : ℕ) (y : List ℕ) → AreMarks d p → join d a p c ≡ None → IsStarter d c
    → compose_after d a p (c ∷ y) ≡ a ∷ compose_by_starters d (p ++ c ∷ y)
compose_after-apart d a p c y marks apart starter =
    compose_after-starter d a p c y apart starter ∙ ap (λ l. a ∷ (p ++ l)) (sym (compose_by_starters-starter d c y starter))
    ∙ ap (λ l. a ∷ l) (sym (compose_by_starters-marks d p (c ∷ y) marks))

-- there is none, or it doesn't join since a mark is between
compose_after-left : (d : Reading) (a : ℕ) (p rest : List ℕ) → AreMarks d p → BeginsWithStarter d rest → compose_after d a p rest ≡ composed_before d a p (p ++ rest)
compose_after-left d a [] rest marks begins = refl
compose_after-left d a (m ∷ p) [] marks begins =
    compose_after-nil d a (m ∷ p)
    ∙ ap (λ l. a ∷ l) (sym (append-nil (m ∷ p)) ∙ ap (λ l. (m ∷ p) ++ l) (sym (compose_by_starters-nil d)) ∙ sym (compose_by_starters-marks d (m ∷ p) [] marks))
compose_after-left d a (m ∷ p) (s ∷ y) marks begins =
    elim (join-cases d a (m ∷ p) s) [
      | inl apart ↦ compose_after-apart d a (m ∷ p) s y marks apart begins
      | inr some ↦ cc (join-starter d a (m ∷ p) s some.0 begins some.1)
    ]

composed_before-some : (d : Reading) (a : ℕ) (p : List ℕ) (c : ℕ) (x y : List ℕ) → x ≡ p ++ c ∷ y → (z : List ℕ) → a ∷ compose_by_starters d z ≡ composed_before d a x z
composed_before-some d a [] c x y is z = ap (λ l. composed_before d a l z) (sym is)
composed_before-some d a (m ∷ p) c x y is z = ap (λ l. composed_before d a l z) (sym is)

-- ---- the composition up to a place

-- the starter has become `starter` by what was in order before the place, but for the marks that stay
pub record ComposedTo (pairs : List Pair) (start : ℕ) (first : WaitingList) (starter : ℕ) (now : WaitingList) (place unblocked : ℕ) : Type 0 where
  pub text : (d : Reading) (rest : List ℕ) → HasPairsOf pairs d → AgreesWith d first
      → compose_after d start [] (ordered_text first ++ rest) ≡ compose_after d starter (text_before now place) (text_from now place ++ rest)
  pub marks : (d : Reading) → AgreesWith d first → AreMarks d (text_before now place)
  pub blocking : (d : Reading) → AgreesWith d first → BlockBelow d (text_before now place) unblocked
  pub agrees : (d : Reading) → AgreesWith d first → AgreesWith d now
  pub unordered : unordered_text now ≡ unordered_text first
  pub given : now.next ≤ place
  pub within : place ≤ now.run
  pub run : now.run ≡ first.run
  pub fewer : length (text_before now place) + length (text_from now place) ≤ length (ordered_text first)

ordered_text-parts : (b : WaitingList) (place : ℕ) → b.next ≤ place → place ≤ b.run → ordered_text b ≡ text_before b place ++ text_from b place
unfolding ordered_text text_before text_from
ordered_text-parts b place given within = characters-parts b.entries.items b.next place b.run given within b.within

none_before : (b : WaitingList) → text_before b b.next ≡ []
unfolding text_before
none_before b = let given = b.given in let within = b.within in characters-given b.entries.items b.next b.next (omega arith) (omega arith)

all_from : (b : WaitingList) → text_from b b.next ≡ ordered_text b
unfolding text_from ordered_text
all_from b = refl

none_from : (b : WaitingList) (place : ℕ) → b.run ≤ place → text_from b place ≡ []
unfolding text_from
none_from b place past = characters-given b.entries.items place b.run past b.within

no_marks : (d : Reading) → AreMarks d []
unfolding AreMarks
no_marks d = tt

module _ (pairs : List Pair) (start : ℕ) (first : WaitingList) where
  pub ComposedTo-none : ComposedTo pairs start first start first first.next 0
  ComposedTo-none = record {
    text = λ d rest same known.
        ap (λ l. compose_after d start [] (l ++ rest)) (sym (all_from first)) ∙ ap (λ l. compose_after d start l (text_from first first.next ++ rest)) (sym (none_before first));
    marks = λ d known. subst (AreMarks d) (sym (none_before first)) (no_marks d);
    blocking = λ d known c. is_above-none d (text_before first first.next) c (none_before first);
    agrees = λ d known. known;
    unordered = refl;
    given = omega arith;
    within = first.given;
    run = refl;
    fewer = omega (arith, ap length (none_before first), ap length (all_from first));
  }

  module _ (starter : ℕ) (now : WaitingList) (place unblocked : ℕ) (before : ComposedTo pairs start first starter now place unblocked) where
    module _ (inside : place < now.run) (c : ℕ) (from : text_from now place ≡ c ∷ text_from now (place + 1)) where
      -- the character at the place joins, and is taken out
      pub ComposedTo-joined : (r : ℕ) (new : WaitingList) → ((d : Reading) → HasPairsOf pairs d → AgreesWith d first → join d starter (text_before now place) c ≡ Some r)
          → text_before new (place + 1) ≡ text_before now place → text_from new (place + 1) ≡ text_from now (place + 1) → ((d : Reading) → AgreesWith d now → AgreesWith d new)
          → unordered_text new ≡ unordered_text now → new.next ≡ now.next + 1 → new.run ≡ now.run → ComposedTo pairs start first r new (place + 1) unblocked
      ComposedTo-joined r new joins kept rest agrees unordered next run = record {
        text = λ d y same known.
            before.text d y same known ∙ ap (λ l. compose_after d starter (text_before now place) (l ++ y)) from
            ∙ compose_after-join d starter (text_before now place) c r (text_from now (place + 1) ++ y) (joins d same known)
            ∙ ap (λ l. compose_after d r l (text_from now (place + 1) ++ y)) (sym kept) ∙ ap (λ l. compose_after d r (text_before new (place + 1)) (l ++ y)) (sym rest);
        marks = λ d known. subst (AreMarks d) (sym kept) (before.marks d known);
        blocking = λ d known. subst (λ l. BlockBelow d l unblocked) (sym kept) (before.blocking d known);
        agrees = λ d known. agrees d (before.agrees d known);
        unordered = unordered ∙ before.unordered;
        given = omega (arith, before.given, next);
        within = omega (arith, inside, run);
        run = run ∙ before.run;
        fewer = omega (arith, before.fewer, ap length kept, ap length rest, ap length from);
      }

      -- it is a mark that stays
      pub ComposedTo-stays : (class v : ℕ) → ((d : Reading) → AgreesWith d now → class ≡ d.class c) → 0 < class → ((d : Reading) → HasPairsOf pairs d → AgreesWith d first → join d starter (text_before now place) c ≡ None)
          → text_before now (place + 1) ≡ text_before now place ++ c ∷ [] → v ≡ max unblocked (class + 1) → ComposedTo pairs start first starter now (place + 1) v
      ComposedTo-stays class v is mark apart longer most = record {
        text = λ d y same known.
            before.text d y same known ∙ ap (λ l. compose_after d starter (text_before now place) (l ++ y)) from
            ∙ compose_after-mark d starter (text_before now place) c (text_from now (place + 1) ++ y) (apart d same known) (omega (arith, is d (before.agrees d known)))
            ∙ ap (λ l. compose_after d starter l (text_from now (place + 1) ++ y)) (sym longer);
        marks = λ d known. subst (AreMarks d) (sym longer) (AreMarks-push d (text_before now place) c (before.marks d known) (omega (arith, is d (before.agrees d known))));
        blocking = λ d known x.
            is_above-one_more d (text_before now place) (text_before now (place + 1)) c x unblocked v longer (before.blocking d known x)
            (most ∙ ap (λ k. max unblocked (k + 1)) (is d (before.agrees d known)));
        agrees = before.agrees;
        unordered = before.unordered;
        given = omega (arith, before.given);
        within = omega arith;
        run = before.run;
        fewer = omega (arith, before.fewer, ap length longer, length-append (text_before now place) (c ∷ []), ap length from);
      }

      -- it is a starter that doesn't join
      pub ComposesInPlace-starter : (class : ℕ) → ((d : Reading) → AgreesWith d now → class ≡ d.class c) → class ≡ 0 → ((d : Reading) → HasPairsOf pairs d → AgreesWith d first → join d starter (text_before now place) c ≡ None)
          → ComposesInPlace pairs start first starter now
      ComposesInPlace-starter class is none apart = λ d rest same known begins.
          let p = text_before now place in
          let y = text_from now (place + 1) in
          let all : ordered_text now ≡ p ++ c ∷ y = ordered_text-parts now place before.given before.within ∙ ap (λ l. p ++ l) from in
          before.text d rest same known ∙ ap (λ l. compose_after d starter p (l ++ rest)) from
          ∙ compose_after-apart d starter p c (y ++ rest) (before.marks d known) (apart d same known) (sym (is d (before.agrees d known)) ∙ none)
          ∙ ap (λ l. starter ∷ compose_by_starters d l) (sym (append_assoc p (c ∷ y) rest)) ∙ ap (λ l. starter ∷ compose_by_starters d (l ++ rest)) (sym all)
          ∙ composed_before-some d starter p c (ordered_text now) y all (ordered_text now ++ rest)

    -- all that was in order was composed
    pub ComposesInPlace-all : now.run ≤ place → ComposesInPlace pairs start first starter now
    ComposesInPlace-all past = λ d rest same known begins.
        let p = text_before now place in
        let none = none_from now place past in
        let all : ordered_text now ≡ p = ordered_text-parts now place before.given before.within ∙ ap (λ l. p ++ l) none ∙ append-nil p in
        before.text d rest same known ∙ ap (λ l. compose_after d starter p (l ++ rest)) none ∙ compose_after-left d starter p rest (before.marks d known) begins
        ∙ ap (λ l. composed_before d starter l (l ++ rest)) (sym all)

    pub fewer_in_order : length (ordered_text now) ≤ length (ordered_text first)
    fewer_in_order =
        omega (arith, before.fewer, ap length (ordered_text-parts now place before.given before.within), length-append (text_before now place) (text_from now place))
