-- Characters that a composing loop passes, in a text that is decomposed.
use Rattle.std.proofs.Common.{◌≡◌, ℕ, ◌+◌, ◌*◌, ◌<◌, Bool, List, [], ◌∷◌, ◌++◌, length, refl, sym, ap, ◌∙◌, subst, arith, Option, Some, None, OnSome, MatchOption, option_to_list, Result, Ok, Err}
use Rattle.std.proofs.Common.{append-nil}
use Rattle.std.specs.Option.{ForSome}
use Rattle.std.specs.Iterator.{size}
use Rattle.normal_forms.specs.Reading.{Reading}
use Rattle.normal_forms.specs.Decomposition.{expand}
use Rattle.normal_forms.specs.Order.{order, insert, is_reorderable}
use Rattle.normal_forms.specs.Forms.{nfd, normal_form}
use Rattle.normal_forms.specs.Boundary.{BeginsAtBoundary}
use Rattle.normal_forms.specs.CompositionByStarters.{is_above, join, compose_after, compose_by_starters}
use Rattle.normal_forms.proofs.boundaries.BoundaryLemmas.{nfd-boundary, BeginsWithStarter-from_safely, BeginsAtBoundary-order, BeginsAtBoundary-expand, composed_form-boundary}
use Rattle.normal_forms.proofs.boundaries.ChunkLemmas.{HasShortRuns-rest}
use Rattle.normal_forms.proofs.composing.ComposeLemmas.{composed_form, join-none, compose_after-nil, compose_after-starter, compose_by_starters-nil, compose_by_starters-starter}
use Rattle.normal_forms.specs.ShortRuns.{HasShortRuns}
use Rattle.normalizer_text.specs.DecodingSteps.{Spells}
use Rattle.normalizer_tables.specs.declared.characters.IgnoredCharacters.{IgnoredCharacters}
use Rattle.normalizer_tables.specs.declared.condition.Bounds.{Bounds}
use Rattle.normalizer_tables.specs.Characters.{Characters, has_class_form}
use Rattle.normalizer_tables.specs.Pairs.{Pair}
use Rattle.normalizer_tables.specs.Readings.{reading_by}
use Rattle.normalizer_tables.specs.declared.characters.IgnoredCharacters.TheVariants.{Dropped}
use Rattle.normalizer_iterators.specs.declared.composition.passing.Given.{Given}
use Rattle.normalizer_iterators.specs.declared.composition.passing.Given.TheVariants.{Itself, FirstMember}
use Rattle.normalizer_iterators.specs.declared.decomposition.Decomposition.{Decomposition}
use Rattle.normalizer_iterators.specs.declared.error.NormalizeError.{NormalizeError}
use Rattle.normalizer_iterators.specs.Delegate.{ComesAfter, Extent, HasRead, IsReadyAfter, MayYield, SpellsAfter, Source}
use Rattle.normalizer_iterators.specs.DecompositionItems.{IsLong, StaysShort, WillYield, pending_of, reading_of}
use Rattle.normalizer_iterators.specs.Delegate.Extent.{so_far}
use Rattle.normalizer_iterators.specs.LazyComposing.{IsComposingPassthrough, IsNormalizedApart, IsNormalizedApartIn, PassthroughHasBoundaries, SuitsLazyComposing}
use Rattle.normalizer_iterators.specs.LazyReading.{longest_list}
use Rattle.normalizer_iterators.specs.inner.PassthroughItems.{IfComposingPassthrough, PassthroughIsNext, IsAtPassthrough, YieldsPassthrough, YieldsItself, YieldsStarter}
use Rattle.normalizer_iterators.specs.inner.ReadingOn.{ReadsChunk}
use Rattle.normalizer_iterators.specs.ToCome.{IsToCome, reads_left}
use Rattle.normalizer_iterators.specs.WaitingList.{ordered_text}
use Rattle.normalizer_iterators.proofs.composing.ComposingLemmas.{nfd-reading_by, nfc-reading_by}
use Rattle.normalizer_iterators.proofs.items.DecompositionLemmas.{at_some, Steps-chunk}
use Rattle.normalizer_iterators.proofs.reads.LazyLemmas.{continues-at_boundary, spelled_next, MayYield-next}

-- ---- characters that are normalized apart

pub has_boundary_before : (s : Characters) (b : Bounds) (pairs : List Pair) → SuitsLazyComposing s b pairs → (ignored : IgnoredCharacters) → PassthroughHasBoundaries s b ignored
has_boundary_before s b pairs suits ignored = record {
  at_boundary = λ c passed. let apart = suits.apart ignored c passed in continues-at_boundary (has_class_form s) (reading_by s ignored []) c apart.at_boundary apart.are_nonempty;
}

pub all_apart : (s : Characters) (b : Bounds) (pairs : List Pair) → SuitsLazyComposing s b pairs → (ignored : IgnoredCharacters) (following : Option ℕ) → IfComposingPassthrough s b following
    → ForSome following (IsNormalizedApartIn s pairs ignored)
all_apart s b pairs suits ignored following passed = λ c is. suits.apart ignored c (at_some following (IsComposingPassthrough s b) passed c is)

first_passed : (s : Characters) (b : Bounds) (pending : Option ℕ) → MatchOption pending ⊥ (IsComposingPassthrough s b) → IfComposingPassthrough s b pending
first_passed s b None h = tt
first_passed s b (Some c) h = h

pub IsAtPassthrough-stands : {I : Type 0} (b : Bounds) (pairs : List Pair) (s : Decomposition I) → SuitsLazyComposing s.characters b pairs → PassthroughIsNext b s → IsAtPassthrough pairs s
IsAtPassthrough-stands b pairs s suits stands = record { waiting = stands.0; apart = all_apart s.characters b pairs suits s.ignored (pending_of s) (first_passed s.characters b (pending_of s) stands.1) }

pub YieldsPassthrough-kept : {I : Type 0} (from : Source I) (pairs : List Pair) (s : Decomposition I) (r : Option (Result Given NormalizeError)) (t : Decomposition I) → YieldsPassthrough from pairs s r t
    → t.characters ≡ s.characters
YieldsPassthrough-kept from pairs s None t h = h.kept.0
YieldsPassthrough-kept from pairs s (Some (Err e)) t h = h.kept.0
YieldsPassthrough-kept from pairs s (Some (Ok (Itself c))) t h = h.kept
YieldsPassthrough-kept from pairs s (Some (Ok (FirstMember c))) t h = h.steps.kept.0

-- ---- the composing form

composed_form-is : (s : Characters) (ignored : IgnoredCharacters) (pairs : List Pair) (x : List ℕ)
    → composed_form (reading_by s ignored pairs) x ≡ compose_by_starters (reading_by s Dropped pairs) (nfd (reading_by s ignored []) x)
unfolding composed_form nfd order insert is_reorderable expand compose_by_starters compose_after join is_above
composed_form-is s ignored pairs x = refl

own_form : (s : Characters) (b : Bounds) (pairs : List Pair) → SuitsLazyComposing s b pairs → (ignored : IgnoredCharacters) (c : ℕ) → IsNormalizedApartIn s pairs ignored c
    → composed_form (reading_by s ignored pairs) (c ∷ []) ≡ c ∷ []
unfolding normal_form
own_form s b pairs suits ignored c apart =
    composed_form-is s ignored pairs (c ∷ []) ∙ sym (nfc-reading_by s ignored pairs suits.starters (c ∷ [])) ∙ apart.form

none_of : (o : Option ℕ) → ((r : ℕ) → o ≡ Some r → ⊥) → o ≡ None
none_of None h = refl
none_of (Some r) h = absurd (h r refl)

pub BeginsAtBoundary-apart : (f : ℕ → Bool) (d : Reading) (c : ℕ) → IsNormalizedApart f d c → BeginsAtBoundary d (d.list c)
BeginsAtBoundary-apart f d c apart = by (d.list c) refl
  where
    by : (x : List ℕ) → d.list c ≡ x → BeginsAtBoundary d x
    by [] e = tt
    by (first ∷ others) e = let h = apart.safely first others e in (h.0, λ a. none_of (d.pair a first) (h.1 a))

-- characters that are normalized apart and what comes after them begin at a boundary
begins_apart : {I : Type 0} (Comes : I → List ℕ → Type 0) (s : Characters) (pairs : List Pair) (ignored : IgnoredCharacters) (following : Option ℕ) (u : I) (rest : List ℕ)
    → ForSome following (IsNormalizedApartIn s pairs ignored) → ComesAfter Comes following u rest
    → BeginsAtBoundary (reading_by s ignored pairs) (expand (reading_by s ignored pairs) (option_to_list following ++ rest))
unfolding expand
begins_apart Comes s pairs ignored None u rest apart source =
    subst (λ l. BeginsAtBoundary (reading_by s ignored pairs) (expand (reading_by s ignored pairs) l)) (sym source) tt
begins_apart Comes s pairs ignored (Some e) u rest apart source =
    let stands = apart e refl in
    BeginsAtBoundary-expand (reading_by s ignored pairs) e rest stands.are_nonempty
    (BeginsAtBoundary-apart (has_class_form s) (reading_by s ignored pairs) e stands)

-- only classes and pairs decide whether a text begins at a boundary
BeginsAtBoundary-pairs : (s : Characters) (pairs : List Pair) (ignored : IgnoredCharacters) (x : List ℕ) → BeginsAtBoundary (reading_by s ignored pairs) x
    → BeginsAtBoundary (reading_by s Dropped pairs) x
BeginsAtBoundary-pairs s pairs ignored [] h = tt
BeginsAtBoundary-pairs s pairs ignored (c ∷ x) h = h

nfd-begins : (s : Characters) (pairs : List Pair) (ignored : IgnoredCharacters) (x : List ℕ)
    → BeginsAtBoundary (reading_by s ignored pairs) (expand (reading_by s ignored pairs) x)
    → BeginsAtBoundary (reading_by s Dropped pairs) (nfd (reading_by s ignored []) x)
unfolding nfd
nfd-begins s pairs ignored x begins =
    let d = reading_by s ignored pairs in
    subst (BeginsAtBoundary (reading_by s Dropped pairs)) (nfd-reading_by s ignored pairs x) (BeginsAtBoundary-pairs s pairs ignored (nfd d x) (BeginsAtBoundary-order d (expand d x) begins))

-- a starter and its marks are complete if what follows begins at a boundary
pub compose_after-boundary : (d : Reading) (a : ℕ) (p y : List ℕ) → BeginsAtBoundary d y → compose_after d a p y ≡ (a ∷ p) ++ compose_by_starters d y
compose_after-boundary d a p [] begins = compose_after-nil d a p ∙ sym (append-nil (a ∷ p)) ∙ ap (λ l. (a ∷ p) ++ l) (sym (compose_by_starters-nil d))
compose_after-boundary d a p (c ∷ y) begins =
    compose_after-starter d a p c y (join-none d a p c (begins.1 a)) begins.0 ∙ ap (λ l. (a ∷ p) ++ l) (sym (compose_by_starters-starter d c y begins.0))

module _ {I : Type 0} (from : Source I) (pairs : List Pair) (s : Decomposition I) (here : IsAtPassthrough pairs s) where
  -- what is to come begins at a boundary
  pub BeginsAtBoundary-to_come : (Comes : I → List ℕ → Type 0) (y : List ℕ) → WillYield Comes s y → BeginsAtBoundary (reading_by s.characters Dropped pairs) y
  BeginsAtBoundary-to_come Comes y h =
      let x = option_to_list (pending_of s) ++ h.unread in
      subst (BeginsAtBoundary (reading_by s.characters Dropped pairs)) (sym (h.text ∙ ap (λ l. l ++ nfd (reading_of s) x) here.waiting))
      (nfd-begins s.characters pairs s.ignored x (begins_apart Comes s.characters pairs s.ignored (pending_of s) s.delegate h.unread here.apart h.source))

  module _ (b : Bounds) (suits : SuitsLazyComposing s.characters b pairs) (c : ℕ) (pending : pending_of s ≡ Some c) where
    first_apart : IsNormalizedApartIn s.characters pairs s.ignored c
    first_apart = here.apart c pending

    module _ (following : Option ℕ) (t : Decomposition I) (read : HasRead from.next_gives from.remaining s.delegate following t.delegate)
        (ready : IsReadyAfter from.can_next from.remaining following t.delegate)
        (apart : ForSome following (IsNormalizedApartIn s.characters pairs s.ignored)) (reads : pending_of t ≡ following) (empty : ordered_text t.waiting ≡ []) (characters : t.characters ≡ s.characters)
        (ignored : t.ignored ≡ s.ignored) where
      to_come : (y : List ℕ) → WillYield (Spells from.next_gives) s y → (own : List ℕ) × (rest : List ℕ) × (y ≡ own ++ rest)
          × (compose_by_starters (reading_by s.characters Dropped pairs) y ≡ c ∷ compose_by_starters (reading_by s.characters Dropped pairs) rest) × WillYield (Spells from.next_gives) t rest
      to_come y h =
          let d = reading_of s in
          let D = reading_by s.characters s.ignored pairs in
          let source : Spells from.next_gives s.delegate h.unread = subst (λ o. SpellsAfter from.next_gives o s.delegate h.unread) pending h.source in
          let next = spelled_next from.next_gives s.delegate following t.delegate h.unread read.step source in
          let rest = option_to_list following ++ next.0 in
          let begins = begins_apart (Spells from.next_gives) s.characters pairs s.ignored following t.delegate next.0 apart next.2 in
          let all : y ≡ nfd d (c ∷ rest) =
          h.text ∙ ap (λ l. l ++ nfd d (option_to_list (pending_of s) ++ h.unread)) here.waiting ∙ ap (λ o. nfd d (option_to_list o ++ h.unread)) pending
          ∙ ap (λ l. nfd d (c ∷ l)) next.1 in
          let composed = λ (x : List ℕ). composed_form-is s.characters s.ignored pairs x in (
            nfd d (c ∷ []),
            nfd d rest,
            all ∙ sym (nfd-reading_by s.characters s.ignored pairs (c ∷ rest)) ∙ nfd-boundary D (c ∷ []) rest (BeginsWithStarter-from_safely D (expand D rest) begins)
                ∙ ap (λ l. l ++ nfd D rest) (nfd-reading_by s.characters s.ignored pairs (c ∷ []))
                ∙ ap (λ l. nfd d (c ∷ []) ++ l) (nfd-reading_by s.characters s.ignored pairs rest),
            ap (compose_by_starters (reading_by s.characters Dropped pairs)) all ∙ sym (composed (c ∷ rest)) ∙ composed_form-boundary D (c ∷ []) rest begins
                ∙ ap (λ l. l ++ composed_form D rest) (own_form s.characters b pairs suits s.ignored c first_apart) ∙ ap (λ l. c ∷ l) (composed rest),
            rw (characters, ignored, reads, empty) (record { unread = next.0; source = next.2; text = refl }),
          )

      came_to_come : (e : Extent) (out : List ℕ) → WillYield (MayYield from.next_gives e) t out → (y : List ℕ) × WillYield (MayYield from.next_gives e) s y
          × (compose_by_starters (reading_by s.characters Dropped pairs) y ≡ c ∷ compose_by_starters (reading_by s.characters Dropped pairs) out)
      came_to_come e out later =
          let d = reading_of s in
          let D = reading_by s.characters s.ignored pairs in
          let R = reading_by s.characters Dropped pairs in
          let h : IsToCome (MayYield from.next_gives e) (nfd d) following t.delegate [] out = rw (characters, ignored, reads, empty) at later in
          let rest = option_to_list following ++ h.unread in
          let begins = begins_apart (MayYield from.next_gives e) s.characters pairs s.ignored following t.delegate h.unread apart h.source in
          let composed = λ (x : List ℕ). composed_form-is s.characters s.ignored pairs x in (
            nfd d (c ∷ rest),
            subst (λ o. IsToCome (MayYield from.next_gives e) (nfd d) o s.delegate (ordered_text s.waiting) (nfd d (c ∷ rest))) (sym pending) (record {
              unread = rest;
              source = MayYield-next from.next_gives e s.delegate following t.delegate h.unread read.step h.source;
              text = sym (ap (λ l. l ++ nfd d (c ∷ rest)) here.waiting);
            }),
            sym (composed (c ∷ rest)) ∙ composed_form-boundary D (c ∷ []) rest begins
                ∙ ap (λ l. l ++ composed_form D rest) (own_form s.characters b pairs suits s.ignored c first_apart) ∙ ap (λ l. c ∷ l) (composed rest)
                ∙ ap (λ l. c ∷ compose_by_starters R l) (sym h.text),
          )

      long_to_come : IsLong from.next_gives t → IsLong from.next_gives s
      long_to_come h =
          let f = has_class_form s.characters in
          let d = reading_of s in
          let Q : Characters → IgnoredCharacters → Option ℕ → List ℕ → Type 0
          = λ k g o w. (out : List ℕ) × (comes : IsToCome (MayYield from.next_gives so_far) (nfd (reading_by k g [])) o t.delegate w out)
          × (HasShortRuns (has_class_form k) (reading_by k g []) (option_to_list o ++ comes.unread) → ⊥) in
          let all : Q t.characters t.ignored (pending_of t) (ordered_text t.waiting) = (h.out, h.comes, h.long) in
          let by_s : Q s.characters s.ignored following [] =
          subst (λ k. Q k s.ignored following []) characters
          (subst (λ g. Q t.characters g following []) ignored
          (subst (λ o. Q t.characters t.ignored o []) reads
          (subst (λ w. Q t.characters t.ignored (pending_of t) w) empty all))) in
          let comes = by_s.1 in
          let rest = option_to_list following ++ comes.unread in
          let P : Option ℕ → Type 0
          = λ o. (came : IsToCome (MayYield from.next_gives so_far) (nfd d) o s.delegate (ordered_text s.waiting) (nfd d (c ∷ rest)))
          × (HasShortRuns f d (option_to_list o ++ came.unread) → ⊥) in
          let base : P (Some c) = (
            record {
              unread = rest;
              source = MayYield-next from.next_gives so_far s.delegate following t.delegate comes.unread read.step comes.source;
              text = sym (ap (λ l. l ++ nfd d (c ∷ rest)) here.waiting);
            },
            λ short. by_s.2 (HasShortRuns-rest f d (c ∷ []) rest short),
          ) in
          let before : P (pending_of s) = subst P (sym pending) base in
          record { out = nfd d (c ∷ rest); comes = before.0; long = before.1 }

      short_to_come : StaysShort from.next_gives s → StaysShort from.next_gives t
      short_to_come h =
          let f = has_class_form s.characters in
          let d = reading_of s in
          let source : Spells from.next_gives s.delegate h.unread = subst (λ o. SpellsAfter from.next_gives o s.delegate h.unread) pending h.source in
          let next = spelled_next from.next_gives s.delegate following t.delegate h.unread read.step source in
          let short : HasShortRuns f d (c ∷ h.unread) = subst (λ o. HasShortRuns f d (option_to_list o ++ h.unread)) pending h.short in
          rw (characters, ignored, reads)
          (record {
            unread = next.0;
            source = next.2;
            short = HasShortRuns-rest f d (c ∷ []) (option_to_list following ++ next.0) (subst (λ l. HasShortRuns f d (c ∷ l)) next.1 short);
          })

      fewer_by : (o : Option ℕ) (after before : ℕ) → OnSome o (after < before) → longest_list * reads_left o after < longest_list * (before + 1)
      fewer_by None after before h = omega arith
      fewer_by (Some e) after before h = omega arith

      pub YieldsItself-next : YieldsItself from pairs s c t
      YieldsItself-next =
          record {
            text = to_come;
            came = came_to_come;
            short = short_to_come;
            long = long_to_come;
            ready = rw reads ready;
            at_passed = record { waiting = empty; apart = rw (reads, characters, ignored) apart };
            kept = characters;
            fewer =
                let before =
                ap (λ l. length l + longest_list * reads_left (pending_of s) (size (from.remaining s.delegate))) here.waiting ∙ ap (λ p. 0 + longest_list * reads_left p (size (from.remaining s.delegate))) pending in
                let after = ap (λ l. length l + longest_list * reads_left (pending_of t) (size (from.remaining t.delegate))) empty ∙ ap (λ p. 0 + longest_list * reads_left p (size (from.remaining t.delegate))) reads in
                omega (arith, before, after, fewer_by following (size (from.remaining t.delegate)) (size (from.remaining s.delegate)) read.nearer);
          }

    pub YieldsStarter-next : (t : Decomposition I) (first : ℕ) → t.characters ≡ s.characters → t.ignored ≡ s.ignored
        → ReadsChunk from (has_class_form s.characters) (reading_of s) c s.delegate first (pending_of t) t.delegate t.waiting → YieldsStarter from s first t
    YieldsStarter-next t first characters ignored r =
        record {
          steps = Steps-chunk from s c pending here.waiting t first characters ignored r;
          starter = λ others. (first_apart.safely first r.others r.members).0;
        }
