-- Segments: what is buffered, and what it composes to.
use Rattle.std.proofs.Common.{◌≡◌, ℕ, ◌+◌, ◌<◌, ◌≤◌, Bool, true, false, List, [], ◌∷◌, ◌++◌, Some, None, length, drop, take, refl, sym, ap, subst, ◌∙◌, arith, eq-eqb, inl, inr, slice_get, append-nil, append_assoc}
use Rattle.std.specs.Prelude.{option_to_list}
use Rattle.std.proofs.lemmas.Bool.{cases_Bool, cond-true, cond-false, eqb-true, ne_eqb}
use Rattle.std.specs.Option.{ForSome}
use Rattle.std.proofs.lemmas.List.{append_cancel_right}
use Rattle.normal_forms.specs.CompositionByStarters.{compose_after, compose_by_starters}
use Rattle.normal_forms.specs.Decomposition.{expand}
use Rattle.normal_forms.specs.Forms.{nfd}
use Rattle.normal_forms.specs.Order.{order}
use Rattle.normal_forms.specs.Reading.{Reading, IsMark, IsStarter, is_starter}
use Rattle.normal_forms.specs.ShortRuns.{buffer_limit, continues, leading_length, HasShortRuns}
use Rattle.normal_forms.proofs.boundaries.ChunkLemmas.{chunk_bound}
use Rattle.normal_forms.proofs.composing.ComposeLemmas.{compose_after-nil, compose_by_starters-nil, compose_by_starters-starter}
use Rattle.normal_forms.proofs.ordering.ExpandLemmas.{expand-append}
use Rattle.normal_forms.proofs.ordering.OrderLemmas.{insert-starter, order-cons}
use Rattle.normalizer_tables.specs.Pairs.{Pair}
use Rattle.normalizer_text.specs.declared.decoding_step.Step.{Step}
use Rattle.normalizer_text.specs.Encodings.{Encoding, first_in, decoded_in}
use Rattle.normalizer_text.specs.DecodingSteps.{IsBoundary}
use Rattle.normalizer_text.proofs.steps.StepBoundaries.{boundary-more, decoded-take-drop, step-some}
use Rattle.normalizer_text.proofs.steps.StepLemmas.{decoded-some}
use Rattle.normalizer_iterators.specs.declared.waiting.WaitingList.{WaitingList}
use Rattle.normalizer_iterators.specs.ComposingInPlace.{composed_before, ComposesInPlace}
use Rattle.normalizer_iterators.specs.inner.Segments.{HasPairsOf}
use Rattle.normalizer_iterators.specs.LazyReading.{SuitsLazyReading}
use Rattle.normalizer_iterators.specs.WaitingList.{ordered_text, reordered_text, unordered_text, item_count, AgreesWith}
use Rattle.normalizer_iterators.specs.inner.MarkReads.{after_starter, starter_of, MarksReadTo}
use Rattle.normalizer_iterators.specs.declared.segment.SegmentBuffer.{SegmentBuffer}
use Rattle.normalizer_iterators.specs.Segment.{characters_left, EndsFront, HasRead, IsDecomposed}
use Rattle.normalizer_iterators.proofs.reads.LazyLemmas.{at_boundary-parts}
use Rattle.normalizer_iterators.proofs.reads.ReadingLemmas.{drop_member, no_member, reordered-nothing}
use Rattle.normalizer_iterators.proofs.segments.SegmentLemmas.{decoded-left}

-- ---- a starter at the front

starter_test : (d : Reading) (c : ℕ) → IsStarter d c → is_starter d c ≡ true
starter_test d c starter = eq-eqb (d.class c) 0 starter

mark_test : (d : Reading) (c : ℕ) → IsMark d c → is_starter d c ≡ false
mark_test d c mark = ne_eqb (d.class c) 0 (λ e. absurd (omega arith))

-- the list begins with a starter
module _ (d : Reading) (x : List ℕ) (c : ℕ) (there : Some c ≡ slice_get x 0) where
  abbrev parted : x ≡ c ∷ drop 1 x
  parted = drop_member x 0 c there

  pub starter_of-starter : IsStarter d c → Some c ≡ starter_of d x
  unfolding starter_of
  starter_of-starter starter = sym (ap (starter_of d) parted ∙ cond-true _ _ _ (starter_test d c starter))

  pub after_starter-starter : IsStarter d c → after_starter d x ≡ drop 1 x
  unfolding after_starter
  after_starter-starter starter = ap (after_starter d) parted ∙ cond-true _ _ _ (starter_test d c starter)

  -- or with a mark
  pub starter_of-mark : IsMark d c → None ≡ starter_of d x
  unfolding starter_of
  starter_of-mark mark = sym (ap (starter_of d) parted ∙ cond-false _ _ _ (mark_test d c mark))

  pub after_starter-mark : IsMark d c → after_starter d x ≡ x
  unfolding after_starter
  after_starter-mark mark = ap (after_starter d) parted ∙ cond-false _ _ _ (mark_test d c mark) ∙ sym parted

pub length-rest : (x : List ℕ) (c : ℕ) → Some c ≡ slice_get x 0 → length x ≡ length (drop 1 x) + 1
length-rest x c there = omega (arith, ap length (drop_member x 0 c there))

-- or it has no members
pub no_members : (x : List ℕ) → None ≡ slice_get x 0 → x ≡ []
no_members [] none = refl
no_members (c ∷ x) none = absurd (no_member (c ∷ x) 0 (omega arith) none)

pub starter_of-nil : (d : Reading) (x : List ℕ) → x ≡ [] → (None ≡ starter_of d x) × (after_starter d x ≡ [])
unfolding starter_of after_starter
starter_of-nil d x none = (sym (ap (starter_of d) none), ap (after_starter d) none)

-- it stays where it is
order-starter : (d : Reading) (x y : List ℕ) → order d (x ++ y) ≡ option_to_list (starter_of d x) ++ order d (after_starter d x ++ y)
unfolding starter_of after_starter
order-starter d [] y = refl
order-starter d (c ∷ x) y =
    elim (cases_Bool (is_starter d c)) [
      | inl starts ↦
          order-cons d c (x ++ y) ∙ insert-starter d c (order d (x ++ y)) (eqb-true (d.class c) 0 starts)
          ∙ sym (ap (λ o. option_to_list o ++ order d (after_starter d (c ∷ x) ++ y)) (cond-true (is_starter d c) (Some c) None starts)
          ∙ ap (λ l. c ∷ order d (l ++ y)) (cond-true (is_starter d c) x (c ∷ x) starts))
      | inr other ↦
          sym (ap (λ o. option_to_list o ++ order d (after_starter d (c ∷ x) ++ y)) (cond-false (is_starter d c) (Some c) None other)
          ∙ ap (λ l. order d (l ++ y)) (cond-false (is_starter d c) x (c ∷ x) other))
    ]

-- a starter that it begins with is one
pub starter_of-class : (d : Reading) (x : List ℕ) → ForSome (starter_of d x) (IsStarter d)
unfolding starter_of
starter_of-class d [] c is = cc
starter_of-class d (b ∷ x) c is =
    elim (cases_Bool (is_starter d b)) [
      | inl starts ↦
          let same : b ≡ c = cc (cond-true (is_starter d b) (Some b) None starts, is) in
          subst (IsStarter d) same (eqb-true (d.class b) 0 starts)
      | inr other ↦ cc (cond-false (is_starter d b) (Some b) None other, is)
    ]

length-after_starter : (d : Reading) (x : List ℕ) → length (after_starter d x) ≤ length x
unfolding after_starter
length-after_starter d [] = omega arith
length-after_starter d (c ∷ x) =
    elim (cases_Bool (is_starter d c)) [
      | inl starts ↦ omega (arith, ap length (cond-true (is_starter d c) x (c ∷ x) starts))
      | inr other ↦ omega (arith, ap length (cond-false (is_starter d c) x (c ∷ x) other))
    ]

-- ---- a run is read

expand-alone : (d : Reading) (c : ℕ) → d.list c ≡ c ∷ [] → expand d (c ∷ []) ≡ c ∷ []
unfolding expand
expand-alone d c own = append-nil (d.list c) ∙ own

module _ (f : ℕ → Bool) (d : Reading) where
  -- a mark that is its own list continues what comes before it
  leading_length-mark : (c : ℕ) (x : List ℕ) → d.list c ≡ c ∷ [] → IsMark d c → SuitsLazyReading f d → leading_length f d (c ∷ x) ≡ leading_length f d x + 1
  unfolding leading_length
  leading_length-mark c x own mark suits =
      elim (cases_Bool (continues f d c)) [
        | inl on ↦ omega (arith, cond-true (continues f d c) (length (d.list c) + leading_length f d x) 0 on, ap length own)
        | inr at_boundary ↦
            let parts = at_boundary-parts f d c at_boundary in
            let starter : d.class c ≡ 0 = suits.starters c c [] parts.0 own in
            absurd (omega arith)
      ]

  -- of a text with short runs, room is left for the marks after its first character
  pub first_fits : (c : ℕ) (x : List ℕ) → SuitsLazyReading f d → HasShortRuns f d (c ∷ x) → length (after_starter d (d.list c)) + leading_length f d x ≤ buffer_limit
  unfolding leading_length after_starter
  first_fits c x suits runs =
      elim (cases_Bool (continues f d c)) [
        | inl on ↦ omega (arith, runs.leading, cond-true (continues f d c) (length (d.list c) + leading_length f d x) 0 on, length-after_starter d (d.list c))
        | inr at_boundary ↦
            let parts = at_boundary-parts f d c at_boundary in
            let starter = suits.starters c parts.1 parts.2 parts.0 parts.3 in
            let others : after_starter d (d.list c) ≡ parts.2 = ap (after_starter d) parts.3 ∙ cond-true (is_starter d parts.1) parts.2 (parts.1 ∷ parts.2) (starter_test d parts.1 starter) in
            omega (arith, chunk_bound f d c x runs at_boundary, ap length others, ap length parts.3)
      ]

  module _ (e : Encoding) (units : List ℕ) (position : ℕ) (old : WaitingList) where
    abbrev ReadTo : ℕ → WaitingList → Type 0
    ReadTo = MarksReadTo f d e units position old

    pub MarksReadTo-none : IsBoundary (first_in e) units position → AgreesWith d old → ReadTo position old
    unfolding expand
    MarksReadTo-none boundary agrees =
        record { boundary = boundary; forward = omega arith; agrees = agrees; front = []; parts = refl; text = λ rest. refl; room = λ suits. refl }

    module _ (place : ℕ) (s : Step) (now : WaitingList) (before : ReadTo place now) (inside : place < length units) (is : s ≡ first_in e (drop place units))
        (own : d.list s.character ≡ s.character ∷ []) (mark : IsMark d s.character) where
      left : SuitsLazyReading f d → leading_length f d (decoded_in e (drop place units)) ≡ leading_length f d (decoded_in e (drop (place + s.width) units)) + 1
      left suits =
          ap (leading_length f d) (decoded-left e units place s inside is)
          ∙ leading_length-mark s.character (decoded_in e (drop (place + s.width) units)) own mark suits

      pub MarksReadTo-more : (new : WaitingList) → ((rest : List ℕ) → reordered_text d now (s.character ∷ rest) ≡ reordered_text d new rest) → AgreesWith d new → item_count new ≡ item_count now + 1
          → ReadTo (place + s.width) new
      MarksReadTo-more new text agrees more =
          let rest = decoded_in e (drop (place + s.width) units) in
          let forward = before.forward in record {
            boundary = boundary-more e units place s before.boundary inside is;
            forward = omega arith;
            agrees = agrees;
            front = before.front ++ s.character ∷ [];
            parts = before.parts ∙ ap (λ l. before.front ++ l) (decoded-left e units place s inside is) ∙ sym (append_assoc before.front (s.character ∷ []) rest);
            text = λ after.
                ap (λ l. reordered_text d old (l ++ after)) (expand-append d before.front (s.character ∷ []))
                ∙ ap (reordered_text d old) (append_assoc (expand d before.front) (expand d (s.character ∷ [])) after)
                ∙ ap (λ l. reordered_text d old (expand d before.front ++ (l ++ after))) (expand-alone d s.character own)
                ∙ before.text (s.character ∷ after)
                ∙ text after;
            room = λ suits. omega (arith, before.room suits, left suits);
          }

      pub MarksReadTo-fits : SuitsLazyReading f d → item_count old + leading_length f d (decoded_in e (drop position units)) ≤ buffer_limit → item_count now < buffer_limit
      MarksReadTo-fits suits fits = omega (arith, before.room suits, left suits)

-- a whole run was: the first character, the marks after it, and all of them were put in order
module _ (d : Reading) (e : Encoding) (units : List ℕ) (s : Step) (some : 0 < length units) (is : s ≡ first_in e units) where
  pub decoded-first : decoded_in e units ≡ s.character ∷ decoded_in e (drop s.width units)
  decoded-first = decoded-some e units some ∙ ap (λ t. t.character ∷ decoded_in e (drop t.width units)) (sym is)

  -- there is room for the marks, if the first character isn't buffered when it is a starter
  pub first-room : (f : ℕ → Bool) (read : ℕ) → read ≡ s.character → SuitsLazyReading f d → HasShortRuns f d (decoded_in e units)
      → length (after_starter d (d.list read)) + leading_length f d (decoded_in e (drop s.width units)) ≤ buffer_limit
  first-room f read same suits runs =
      let fits = first_fits f d s.character (decoded_in e (drop s.width units)) suits (subst (HasShortRuns f d) decoded-first runs) in
      subst (λ c. length (after_starter d (d.list c)) + leading_length f d (decoded_in e (drop s.width units)) ≤ buffer_limit) (sym same) fits

  -- what is buffered is what comes out, whatever follows
  pub HasRead-text : (f : ℕ → Bool) (read end : ℕ) (empty pushed all : WaitingList) → read ≡ s.character → ordered_text empty ≡ [] → unordered_text empty ≡ []
      → ((rest : List ℕ) → reordered_text d empty (after_starter d (d.list read) ++ rest) ≡ reordered_text d pushed rest)
      → MarksReadTo f d e units s.width pushed end all → (rest : List ℕ)
      → order d (expand d (decoded_in e (take end units)) ++ rest) ≡ option_to_list (starter_of d (d.list read)) ++ reordered_text d all rest
  unfolding expand
  HasRead-text f first end empty pushed all same front open_marks push read rest =
      let marks = read.front in
      let left = decoded_in e (drop end units) in
      let list = d.list first in
      let text : decoded_in e (take end units) ≡ s.character ∷ marks =
      append_cancel_right (decoded_in e (take end units)) (s.character ∷ marks) left
      (sym (decoded-take-drop e units end read.boundary) ∙ decoded-first ∙ ap (λ l. s.character ∷ l) read.parts) in
      ap (λ x. order d (expand d x ++ rest)) text ∙ ap (λ c. order d ((d.list c ++ expand d marks) ++ rest)) (sym same)
      ∙ ap (order d) (append_assoc list (expand d marks) rest) ∙ order-starter d list (expand d marks ++ rest)
      ∙ ap (λ l. option_to_list (starter_of d list) ++ l)
      (sym (reordered-nothing d empty (after_starter d list ++ (expand d marks ++ rest)) front open_marks) ∙ push (expand d marks ++ rest) ∙ read.text rest)

  -- its front has the first step
  pub HasRead-front : (f : ℕ → Bool) (end : ℕ) (pushed all : WaitingList) → MarksReadTo f d e units s.width pushed end all → EndsFront e units end
  HasRead-front f end pushed all read =
      let takes = (step-some e units 0 s some is).0 in
      let forward = read.forward in
      (omega arith, read.boundary)

-- ---- a list more is buffered

-- one step more is one character more
decoded-more : (e : Encoding) (units : List ℕ) (place : ℕ) (s : Step) → IsBoundary (first_in e) units place → place < length units → s ≡ first_in e (drop place units)
    → decoded_in e (take (place + s.width) units) ≡ decoded_in e (take place units) ++ s.character ∷ []
decoded-more e units place s boundary inside is =
    let left = decoded_in e (drop (place + s.width) units) in
    append_cancel_right (decoded_in e (take (place + s.width) units)) (decoded_in e (take place units) ++ s.character ∷ []) left
    (sym (decoded-take-drop e units (place + s.width) (boundary-more e units place s boundary inside is)) ∙ decoded-take-drop e units place boundary
    ∙ ap (λ l. decoded_in e (take place units) ++ l) (decoded-left e units place s inside is) ∙ sym (append_assoc (decoded_in e (take place units)) (s.character ∷ []) left))

pub HasRead-more : (d : Reading) (e : Encoding) (units : List ℕ) (place : ℕ) (s : Step) (old new : SegmentBuffer) → place < length units → s ≡ first_in e (drop place units) → HasRead d e units place old
    → new.starter ≡ old.starter → AgreesWith d new.waiting → ((rest : List ℕ) → reordered_text d old.waiting (d.list s.character ++ rest) ≡ reordered_text d new.waiting rest)
    → HasRead d e units (place + s.width) new
unfolding expand
HasRead-more d e units place s old new inside is read same classes added = record {
  front = (omega (arith, read.front.0), boundary-more e units place s read.front.1 inside is);
  agrees = record { starter = subst (λ o. ForSome o (IsStarter d)) (sym same) read.agrees.starter; classes = classes };
  text = λ rest.
      let before = decoded_in e (take place units) in
      let list = d.list s.character in
      ap (λ x. order d (expand d x ++ rest)) (decoded-more e units place s read.front.1 inside is)
      ∙ ap (λ x. order d (x ++ rest)) (expand-append d before (s.character ∷ []))
      ∙ ap (λ x. order d ((expand d before ++ x) ++ rest)) (append-nil list)
      ∙ ap (order d) (append_assoc (expand d before) list rest)
      ∙ read.text (list ++ rest) ∙ ap (λ l. option_to_list old.starter ++ l) (added rest)
      ∙ ap (λ o. option_to_list o ++ reordered_text d new.waiting rest) (sym same);
}

-- ---- all is in order

pub IsDecomposed-sorted : (d : Reading) (e : Encoding) (units : List ℕ) (end : ℕ) (old new : SegmentBuffer) → HasRead d e units end old → new.starter ≡ old.starter
    → AgreesWith d new.waiting → ordered_text new.waiting ≡ reordered_text d old.waiting [] → IsDecomposed d e units end new
unfolding characters_left nfd
IsDecomposed-sorted d e units end old new read same classes sorted = record {
  front = read.front;
  agrees = record { starter = subst (λ o. ForSome o (IsStarter d)) (sym same) read.agrees.starter; classes = classes };
  form =
      let x = expand d (decoded_in e (take end units)) in
      ap (λ o. option_to_list o ++ ordered_text new.waiting) same ∙ ap (λ l. option_to_list old.starter ++ l) sorted
      ∙ sym (read.text []) ∙ ap (order d) (append-nil x);
}

-- ---- the next character is composed

-- what a starter became, and what is left in place
pub composed_before-left : (d : Reading) (a : ℕ) (x : List ℕ) → composed_before d a x (x ++ []) ≡ a ∷ compose_by_starters d x
composed_before-left d a [] = compose_after-nil d a [] ∙ ap (λ l. a ∷ l) (sym (compose_by_starters-nil d))
composed_before-left d a (m ∷ x) = ap (λ l. a ∷ compose_by_starters d l) (append-nil (m ∷ x))

pub composed-starter : (d : Reading) (pairs : List Pair) (start composite : ℕ) (old new : WaitingList) → HasPairsOf pairs d → IsStarter d start → AgreesWith d old
    → ComposesInPlace pairs start old composite new → compose_by_starters d (start ∷ ordered_text old) ≡ composite ∷ compose_by_starters d (ordered_text new)
composed-starter d pairs start composite old new same starter agrees text =
    compose_by_starters-starter d start (ordered_text old) starter
    ∙ ap (compose_after d start []) (sym (append-nil (ordered_text old))) ∙ text d [] same agrees tt ∙ composed_before-left d composite (ordered_text new)
