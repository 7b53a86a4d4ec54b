-- A starter and what follows it: the composition so far.
use Rattle.std.proofs.Common.{◌≡◌, ℕ, ◌≤◌, List, [], ◌∷◌, ◌++◌, length, Option, Some, None, Ok, IfSome, option_to_list, refl, sym, ap, ◌∙◌, subst, arith, append-nil}
use Rattle.std.specs.Option.{ForSome}
use Rattle.normal_forms.specs.Boundary.{BeginsAtBoundary, BeginsWithStarter}
use Rattle.normal_forms.specs.Chunks.{BeginsChunk}
use Rattle.normal_forms.specs.Forms.{nfd}
use Rattle.normal_forms.specs.Reading.{Reading, IsStarter}
use Rattle.normal_forms.specs.CompositionByStarters.{join, compose_after, compose_by_starters}
use Rattle.normal_forms.specs.ShortRuns.{HasShortRuns}
use Rattle.normal_forms.proofs.composing.CompositionOfMarks.{is_above-nil}
use Rattle.normal_forms.proofs.boundaries.ChunkLemmas.{nfd-chunk}
use Rattle.normal_forms.proofs.composing.ComposeLemmas.{compose_after-nil, compose_after-join, compose_after-starter, compose_by_starters-nil, join-none}
use Rattle.normalizer_text.specs.DecodingSteps.{Spells}
use Rattle.normalizer_tables.specs.Characters.{Characters, has_class_form}
use Rattle.normalizer_tables.specs.Pairs.{Pair}
use Rattle.normalizer_tables.specs.Readings.{reading_by}
use Rattle.normalizer_tables.specs.declared.characters.IgnoredCharacters.{IgnoredCharacters}
use Rattle.normalizer_tables.specs.declared.characters.IgnoredCharacters.TheVariants.{Dropped}
use Rattle.normalizer_iterators.specs.declared.decomposition.Decomposition.{Decomposition}
use Rattle.normalizer_iterators.specs.declared.pending.PendingChar.{PendingChar}
use Rattle.normalizer_iterators.specs.DecompositionItems as decomposition
use Rattle.normalizer_iterators.specs.DecompositionItems.{pending_of, reading_of}
use Rattle.normalizer_iterators.specs.Delegate.{ComesAfter, Extent, MayYield, Source}
use Rattle.normalizer_iterators.specs.Delegate.Extent.{so_far}
use Rattle.normalizer_iterators.specs.Composing.{ComposesStarter}
use Rattle.normalizer_iterators.specs.ComposingInPlace.{composed_before, ComposesInPlace}
use Rattle.normalizer_iterators.specs.Reads.{character_of}
use Rattle.normalizer_iterators.specs.ToCome.{IsToCome}
use Rattle.normalizer_iterators.specs.WaitingList.{ordered_text, AgreesWith}
use Rattle.normalizer_iterators.proofs.composing.MarkLemmas.{join-above}
use Rattle.normalizer_iterators.proofs.items.DecompositionLemmas.{items_left-ended, nothing_comes}
use Rattle.normalizer_iterators.proofs.items.LongRuns.{IsLong-ended, IsLong-next}
use Rattle.normalizer_iterators.proofs.items.ToComeLemmas.{begins_chunk, nfd-nil}
use Rattle.normalizer_iterators.proofs.passthrough.PassthroughItemLemmas.{compose_after-boundary}

-- ---- what is to come after what is buffered begins with a starter

begins_with_starter : (d : Reading) (x : List ℕ) → BeginsChunk d x → BeginsWithStarter d (nfd d x)
begins_with_starter d [] begins = subst (BeginsWithStarter d) (sym (nfd-nil d)) tt
begins_with_starter d (c ∷ x) begins =
    subst (BeginsWithStarter d) (sym (ap (λ l. nfd d (c ∷ l)) (sym (append-nil x)) ∙ nfd-chunk d c begins.0 begins.1.0 x [] begins.1.1 begins.2 tt)) begins.2

BeginsWithStarter-reading_by : (s : Characters) (ignored : IgnoredCharacters) (pairs : List Pair) (x : List ℕ) → BeginsWithStarter (reading_by s ignored []) x → BeginsWithStarter (reading_by s Dropped pairs) x
BeginsWithStarter-reading_by s ignored pairs [] begins = tt
BeginsWithStarter-reading_by s ignored pairs (c ∷ x) begins = begins

if_some : (o : Option ℕ) (P : ℕ → Type 0) → ForSome o P → IfSome o P
if_some None P h = tt
if_some (Some c) P h = h c refl

composed_before-some : (d : Reading) (a : ℕ) (x y : List ℕ) → (x ≡ [] → ⊥) → composed_before d a x y ≡ a ∷ compose_by_starters d y
composed_before-some d a [] y some = absurd (some refl)
composed_before-some d a (m ∷ x) y some = refl

-- ---- a starter is composed with what is buffered after it

module _ {I : Type 0} (pairs : List Pair) (n t : Decomposition I) (a r : ℕ) (text : ComposesInPlace pairs a n.waiting r t.waiting)
    (kept : (t.characters ≡ n.characters) × (t.ignored ≡ n.ignored)) (unread : (t.pending ≡ n.pending) × (t.delegate ≡ n.delegate)) where
  module _ (Comes : I → List ℕ → Type 0) (later : List ℕ) (source : ComesAfter Comes (pending_of n) n.delegate later) where
    abbrev rest_of : List ℕ
    rest_of = nfd (reading_of n) (option_to_list (pending_of n) ++ later)

    composed : compose_after (reading_by n.characters Dropped pairs) a [] (ordered_text n.waiting ++ rest_of) ≡ composed_before (reading_by n.characters Dropped pairs) r (ordered_text t.waiting) (ordered_text t.waiting ++ rest_of)
    unfolding AgreesWith
    composed =
        let x = option_to_list (pending_of n) ++ later in
        let begins = begins_chunk (has_class_form n.characters) (reading_of n) n.suits Comes (pending_of n) n.delegate later (if_some (pending_of n) _ n.at_boundary) source in
        text (reading_by n.characters Dropped pairs) rest_of (λ b c. refl) n.classes
        (BeginsWithStarter-reading_by n.characters n.ignored pairs rest_of (begins_with_starter (reading_of n) x begins))

  buffered : (Comes : I → List ℕ → Type 0) (y : List ℕ) → decomposition.WillYield Comes n y → (z : List ℕ)
      × (compose_after (reading_by n.characters Dropped pairs) a [] y ≡ composed_before (reading_by n.characters Dropped pairs) r (ordered_text t.waiting) z) × decomposition.WillYield Comes t z
  buffered Comes y h = (
    ordered_text t.waiting ++ rest_of Comes h.unread h.source,
    ap (compose_after (reading_by n.characters Dropped pairs) a []) h.text ∙ composed Comes h.unread h.source,
    rw (kept.0, kept.1, unread.0, unread.1) (record { unread = h.unread; source = h.source; text = refl }),
  )

  buffered_back : (Comes : I → List ℕ → Type 0) (z : List ℕ) → decomposition.WillYield Comes t z → (y : List ℕ)
      × decomposition.WillYield Comes n y × (compose_after (reading_by n.characters Dropped pairs) a [] y ≡ composed_before (reading_by n.characters Dropped pairs) r (ordered_text t.waiting) z)
  buffered_back Comes z h =
      let b : IsToCome Comes (nfd (reading_of n)) (pending_of n) n.delegate (ordered_text t.waiting) z = rw (kept.0, kept.1, unread.0, unread.1) at h in (
        ordered_text n.waiting ++ rest_of Comes b.unread b.source,
        record { unread = b.unread; source = b.source; text = refl },
        composed Comes b.unread b.source ∙ ap (composed_before (reading_by n.characters Dropped pairs) r (ordered_text t.waiting)) (sym b.text),
      )

-- ---- the composition so far

-- the starter has become `composite`, and what is buffered, if it is left in place, doesn't join
pub record ComposedSoFar {I : Type 0} (from : Source I) (d : Reading) (starter : ℕ) (old : Decomposition I) (composite : ℕ)
    (left : List ℕ) (now : Decomposition I) : Type 0 where
  pub text : (all : List ℕ) → decomposition.WillYield (Spells from.next_gives) old all → (y : List ℕ)
      × (compose_after d starter [] all ≡ composed_before d composite left y) × decomposition.WillYield (Spells from.next_gives) now y
  pub came : (e : Extent) (y : List ℕ) → decomposition.WillYield (MayYield from.next_gives e) now y → (all : List ℕ) × decomposition.WillYield (MayYield from.next_gives e) old all
      × (compose_after d starter [] all ≡ composed_before d composite left y)
  pub short : decomposition.StaysShort from.next_gives old → decomposition.StaysShort from.next_gives now
  pub long : decomposition.IsLong from.next_gives now → decomposition.IsLong from.next_gives old
  pub ready : decomposition.CanDecompose from.can_next from.remaining now
  pub kept : now.characters ≡ old.characters
  pub fewer : decomposition.items_left from.remaining now ≤ decomposition.items_left from.remaining old

module _ {I : Type 0} (from : Source I) where
  pub ComposedSoFar-none : (d : Reading) (starter : ℕ) (old : Decomposition I) → decomposition.CanDecompose from.can_next from.remaining old → ComposedSoFar from d starter old starter [] old
  ComposedSoFar-none d starter old ready = record {
    text = λ all h. (all, refl, h);
    came = λ e y h. (y, h, refl);
    short = λ h. h;
    long = λ h. h;
    ready = ready;
    kept = refl;
    fewer = omega arith;
  }

  -- it is composed with what is buffered
  pub ComposedSoFar-buffered : (pairs : List Pair) (starter : ℕ) (old : Decomposition I) (a r : ℕ) (n t : Decomposition I) → ComposedSoFar from (reading_by old.characters Dropped pairs) starter old a [] n
      → ComposesInPlace pairs a n.waiting r t.waiting → length (ordered_text t.waiting) ≤ length (ordered_text n.waiting) → (t.characters ≡ n.characters) × (t.ignored ≡ n.ignored)
      → (t.pending ≡ n.pending) × (t.delegate ≡ n.delegate) → ComposedSoFar from (reading_by old.characters Dropped pairs) starter old r (ordered_text t.waiting) t
  ComposedSoFar-buffered pairs starter old a r n t before text fewer kept unread =
      let same : reading_by n.characters Dropped pairs ≡ reading_by old.characters Dropped pairs = ap (λ k. reading_by k Dropped pairs) before.kept in
      let IsComposed : List ℕ → List ℕ → Type 0
      = λ y z. compose_after (reading_by old.characters Dropped pairs) a [] y ≡ composed_before (reading_by old.characters Dropped pairs) r (ordered_text t.waiting) z in
      let by : (y z : List ℕ) → compose_after (reading_by n.characters Dropped pairs) a [] y ≡ composed_before (reading_by n.characters Dropped pairs) r (ordered_text t.waiting) z → IsComposed y z
      = λ y z h. subst (λ d. compose_after d a [] y ≡ composed_before d r (ordered_text t.waiting) z) same h in
      record {
        text = λ all h.
            let b = before.text all h in
            let on = buffered pairs n t a r text kept unread (Spells from.next_gives) b.0 b.2 in
            (on.0, b.1 ∙ by b.0 on.0 on.1, on.2);
        came = λ e z h.
            let on = buffered_back pairs n t a r text kept unread (MayYield from.next_gives e) z h in
            let b = before.came e on.0 on.1 in
            (b.0, b.1, b.2 ∙ by on.0 z on.2);
        short = λ h. rw (kept.0, kept.1, unread.0, unread.1) (before.short h);
        long = λ h. before.long (long_before h);
        ready = rw (unread.0, unread.1) before.ready;
        kept = kept.0 ∙ before.kept;
        fewer = omega (arith, before.fewer, left);
      }
    where
      long_before : decomposition.IsLong from.next_gives t → decomposition.IsLong from.next_gives n
      long_before h =
          let Q : Characters → IgnoredCharacters → Option PendingChar → I → Type 0
          = λ k g p u. (comes : IsToCome (MayYield from.next_gives so_far) (nfd (reading_by k g [])) (character_of p) u (ordered_text t.waiting) h.out)
          × (HasShortRuns (has_class_form k) (reading_by k g []) (option_to_list (character_of p) ++ comes.unread) → ⊥) in
          let all : Q t.characters t.ignored t.pending t.delegate = (h.comes, h.long) in
          let by_n : Q n.characters n.ignored n.pending n.delegate =
          subst (λ k. Q k n.ignored n.pending n.delegate) kept.0
          (subst (λ g. Q t.characters g n.pending n.delegate) kept.1
          (subst (λ p. Q t.characters t.ignored p n.delegate) unread.0
          (subst (λ u. Q t.characters t.ignored t.pending u) unread.1 all))) in
          record {
            out = ordered_text n.waiting ++ nfd (reading_of n) (option_to_list (pending_of n) ++ by_n.0.unread);
            comes = record { unread = by_n.0.unread; source = by_n.0.source; text = refl };
            long = by_n.1;
          }

      left : decomposition.items_left from.remaining t ≤ decomposition.items_left from.remaining n
      left = rw (unread.0, unread.1) (omega (arith, fewer))

  module _ (d : Reading) (starter : ℕ) (old : Decomposition I) (composite : ℕ) (now : Decomposition I) (before : ComposedSoFar from d starter old composite (ordered_text now.waiting) now) where
    -- what is buffered doesn't join
    pub ComposesStarter-buffered : (ordered_text now.waiting ≡ [] → ⊥) → ComposesStarter from.next_gives from.remaining d starter old composite None now
    ComposesStarter-buffered some = record {
      text = λ all h.
          let b = before.text all h in
          (compose_by_starters d b.0, b.1 ∙ composed_before-some d composite (ordered_text now.waiting) b.0 some, record { unread = b.0; source = b.2; text = refl });
      came = λ e rest h.
          let b = before.came e h.unread h.source in
          (b.0, b.1, b.2 ∙ composed_before-some d composite (ordered_text now.waiting) h.unread some ∙ ap (λ l. composite ∷ l) (sym h.text));
      short = before.short;
      long = before.long;
      fewer = before.fewer;
    }

    -- nothing is buffered
    module _ (none : ordered_text now.waiting ≡ []) where
      open_after : (y : List ℕ) → composed_before d composite (ordered_text now.waiting) y ≡ compose_after d composite [] y
      open_after y = ap (λ l. composed_before d composite l y) none

      pub ComposedSoFar-joined : (c r : ℕ) (next : Decomposition I) → decomposition.DecompositionSteps from now (Some (Ok c)) next → d.pair composite c ≡ Some r → ComposedSoFar from d starter old r [] next
      ComposedSoFar-joined c r next step pair =
          let joins : join d composite [] c ≡ Some r = join-above d composite [] c (is_above-nil d c) ∙ pair in
          record {
            text = λ all h.
                let b = before.text all h in
                let first = step.item.first b.0 b.2 in
                (first.0, b.1 ∙ open_after b.0 ∙ ap (compose_after d composite []) first.1 ∙ compose_after-join d composite [] c r first.0 joins, first.2);
            came = λ e y h.
                let b = before.came e (c ∷ y) (step.came e y h) in
                (b.0, b.1, b.2 ∙ open_after (c ∷ y) ∙ compose_after-join d composite [] c r y joins);
            short = λ h. (step.item.room (before.short h)).1;
            long = λ h. before.long (IsLong-next from now c next step h);
            ready = step.ready before.ready;
            kept = step.kept.0 ∙ before.kept;
            fewer = omega (arith, before.fewer, step.fewer);
          }

      pub ComposesStarter-starts : (c : ℕ) (next : Decomposition I) → decomposition.DecompositionSteps from now (Some (Ok c)) next → d.pair composite c ≡ None → IsStarter d c
          → ComposesStarter from.next_gives from.remaining d starter old composite (Some c) next
      ComposesStarter-starts c next step pair starts =
          let apart = join-none d composite [] c pair in
          record {
            text = λ all h.
                let b = before.text all h in
                let first = step.item.first b.0 b.2 in (
                  compose_after d c [] first.0,
                  b.1 ∙ open_after b.0 ∙ ap (compose_after d composite []) first.1 ∙ compose_after-starter d composite [] c first.0 apart starts,
                  record { unread = first.0; source = first.2; text = refl },
                );
            came = λ e rest h.
                let b = before.came e (c ∷ h.unread) (step.came e h.unread h.source) in
                (b.0, b.1, b.2 ∙ open_after (c ∷ h.unread) ∙ compose_after-starter d composite [] c h.unread apart starts ∙ ap (λ l. composite ∷ l) (sym h.text));
            short = λ h. (step.item.room (before.short h)).1;
            long = λ h. before.long (IsLong-next from now c next step h);
            fewer = omega (arith, before.fewer, step.fewer);
          }

      -- nothing is to come
      pub ComposesStarter-ends : (next : Decomposition I) → decomposition.DecompositionSteps from now None next → ComposesStarter from.next_gives from.remaining d starter old composite None next
      ComposesStarter-ends next step = record {
        text = λ all h.
            let b = before.text all h in
            let end = step.item.first b.0 b.2 in (
              [],
              b.1 ∙ open_after b.0 ∙ ap (compose_after d composite []) end.0 ∙ compose_after-nil d composite [],
              record { unread = []; source = end.1; text = sym (compose_by_starters-nil d) },
            );
        came = λ e rest h.
            let b = before.came e [] (step.came e) in
            let nothing : h.unread ≡ [] = nothing_comes from (MayYield from.next_gives e) next h.unread step.item.ends h.source in
            (b.0, b.1, b.2 ∙ open_after [] ∙ compose_after-nil d composite [] ∙ ap (λ l. composite ∷ l) (sym (h.text ∙ ap (compose_by_starters d) nothing ∙ compose_by_starters-nil d)));
        short = λ h. (step.item.room (before.short h)).1;
        long = λ h. absurd (IsLong-ended from next step.item.ends h);
        fewer = omega (arith, before.fewer, items_left-ended from next step.item.ends);
      }

      -- what begins at a boundary is not composed with what comes before it
      pub ComposesStarter-passes : ((Comes : I → List ℕ → Type 0) (y : List ℕ) → decomposition.WillYield Comes now y → BeginsAtBoundary d y)
          → ComposesStarter from.next_gives from.remaining d starter old composite None now
      ComposesStarter-passes begins = record {
        text = λ all h.
            let b = before.text all h in (
              compose_by_starters d b.0,
              b.1 ∙ open_after b.0 ∙ compose_after-boundary d composite [] b.0 (begins (Spells from.next_gives) b.0 b.2),
              record { unread = b.0; source = b.2; text = refl },
            );
        came = λ e rest h.
            let b = before.came e h.unread h.source in (
              b.0,
              b.1,
              b.2 ∙ open_after h.unread ∙ compose_after-boundary d composite [] h.unread (begins (MayYield from.next_gives e) h.unread h.source) ∙ ap (λ l. composite ∷ l) (sym h.text),
            );
        short = before.short;
        long = before.long;
        fewer = before.fewer;
      }
