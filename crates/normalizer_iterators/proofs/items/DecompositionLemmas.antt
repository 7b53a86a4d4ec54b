-- The steps of a decomposition.
use Rattle.std.proofs.Common.{◌≡◌, ℕ, ◌+◌, ◌*◌, List, [], ◌∷◌, ◌++◌, length, option_to_list, refl, ap, ◌∙◌, subst, arith, sym, Option, Some, None, IfSome, IfOk, IfErr, Ok, Err, Result}
use Rattle.std.specs.Iterator.{Count, size, IsFinite}
use Rattle.normal_forms.specs.Forms.{nfd}
use Rattle.normal_forms.specs.ShortRuns.{HasShortRuns}
use Rattle.normalizer_text.specs.DecodingSteps.{Spells}
use Rattle.normalizer_tables.specs.Characters.{Characters, class_of, has_class_form}
use Rattle.normalizer_tables.specs.Readings.{reading_by}
use Rattle.normalizer_tables.specs.declared.characters.IgnoredCharacters.{IgnoredCharacters}
use Rattle.normalizer_iterators.specs.declared.decomposition.Decomposition.{Decomposition}
use Rattle.normalizer_iterators.specs.declared.error.NormalizeError.{NormalizeError}
use Rattle.normalizer_iterators.specs.declared.pending.PendingChar.{PendingChar}
use Rattle.normalizer_iterators.specs.declared.waiting.WaitingList.{WaitingList}
use Rattle.normalizer_iterators.specs.Reads.{character_of}
use Rattle.normalizer_iterators.proofs.reads.LazyLemmas.{at_boundary-parts}
use Rattle.normalizer_iterators.specs.declared.error.NormalizeError.TheVariants.{Memory}
use Rattle.normalizer_iterators.specs.DecompositionItems.{AreShort, CanDecompose, ComesShortBefore, DecompositionSteps, IsEnded, IsLong, StaysShort, WillYield, items_left, pending_of, reading_of}
use Rattle.normalizer_iterators.specs.Delegate.{HasRead, IsReadyAfter, MayYield, Source}
use Rattle.normalizer_iterators.specs.Delegate.Extent.{so_far}
use Rattle.normalizer_iterators.specs.LazyReading.{longest_list}
use Rattle.normalizer_iterators.specs.inner.ReadingOn.{ReadsChunk, ChunkDidNotFit}
use Rattle.normalizer_iterators.specs.ToCome.{IsToCome, AreShortToCome, reads_left}
use Rattle.normalizer_iterators.specs.WaitingList.{ordered_text}
use Rattle.normalizer_iterators.proofs.items.ToComeLemmas.{nfd-nil, IsToCome-front, IsToCome-back, IsToCome-none, IsToCome-ended, AreShortToCome-ended}
use Rattle.normalizer_iterators.proofs.items.ToComeLemmas.{IsToCome-chunk, came_chunk, AreShortToCome-chunk, long_chunk, short_behind_chunk, short_chunk_fits, chunk_size}

-- what a value says of the variant that it is
pub at_some : {X : Type 0} (o : Option X) (P : X → Type 0) → IfSome o P → (x : X) → o ≡ Some x → P x
at_some None P h x e = cc
at_some (Some y) P h x e = let same : y ≡ x = cc in subst P same h

-- a character that is pending was given by a delegate that may be called
pub ready_behind : {I : Type 0} (can : I → Type 0) (left : I → Count) (s : Decomposition I) (c : ℕ) → pending_of s ≡ Some c → CanDecompose can left s → can s.delegate × IsFinite (left s.delegate)
ready_behind can left s c pending h = subst (λ o. IsReadyAfter can left o s.delegate) pending h

-- nothing was read
pub nothing_read : {P : Type 0} (o : Option PendingChar) → o ≡ None → (c : ℕ) → character_of o ≡ Some c → P
nothing_read None none c e = cc
nothing_read (Some r) none c e = cc

module _ {I : Type 0} (from : Source I) where
  -- the first member of a character after a boundary is a starter
  pub class-first : (s : Decomposition I) (c first : ℕ) (delegate next : I) (pending : Option ℕ) (w : WaitingList) → pending_of s ≡ Some c
      → ReadsChunk from (has_class_form s.characters) (reading_of s) c delegate first pending next w → 0 ≡ class_of s.characters first
  class-first s c first delegate next pending w here r =
      let parts = at_boundary-parts (has_class_form s.characters) (reading_of s) c (s.at_boundary c here) in
      sym (s.suits.starters c first r.others parts.0 r.members)

  pub ended : (Comes : I → List ℕ → Type 0) (s : Decomposition I) → pending_of s ≡ None → ordered_text s.waiting ≡ [] → WillYield Comes s []
  ended Comes s none empty = IsToCome-ended Comes (nfd (reading_of s)) (pending_of s) s.delegate (ordered_text s.waiting) (nfd-nil (reading_of s)) none empty

  pub items_left-ended : (t : Decomposition I) → IsEnded t → items_left from.remaining t ≡ 0
  items_left-ended t end =
      ap (λ l. length l + longest_list * reads_left (pending_of t) (size (from.remaining t.delegate))) end.1 ∙ ap (λ p. 0 + longest_list * reads_left p (size (from.remaining t.delegate))) end.0 ∙ omega arith

  pub nothing_comes : (Comes : I → List ℕ → Type 0) (s : Decomposition I) (out : List ℕ) → IsEnded s → WillYield Comes s out → out ≡ []
  nothing_comes Comes s out end h = IsToCome-none Comes (nfd (reading_of s)) (pending_of s) s.delegate (ordered_text s.waiting) out (nfd-nil (reading_of s)) end.0 end.1 h

  -- what may come before a step has the data that come after it
  before_kept : (s t : Decomposition I) (c : ℕ) → t.characters ≡ s.characters → t.ignored ≡ s.ignored
      → ((out : List ℕ) (later : IsToCome (MayYield from.next_gives so_far) (nfd (reading_of s)) (pending_of t) t.delegate (ordered_text t.waiting) out)
      → (comes : WillYield (MayYield from.next_gives so_far) s (c ∷ out))
      × (AreShort from.next_gives s (c ∷ out) comes → HasShortRuns (has_class_form s.characters) (reading_of s) (option_to_list (pending_of t) ++ later.unread))) → ComesShortBefore from.next_gives s c t
  before_kept s t c characters ignored base =
      let Q : Characters → IgnoredCharacters → Type 0
      = λ k g. (out : List ℕ) (later : IsToCome (MayYield from.next_gives so_far) (nfd (reading_by k g [])) (pending_of t) t.delegate (ordered_text t.waiting) out)
      → (comes : WillYield (MayYield from.next_gives so_far) s (c ∷ out))
      × (AreShort from.next_gives s (c ∷ out) comes → HasShortRuns (has_class_form k) (reading_by k g []) (option_to_list (pending_of t) ++ later.unread)) in
      subst (λ k. Q k t.ignored) (sym characters) (subst (λ g. Q s.characters g) (sym ignored) base)

  before_front : (s t : Decomposition I) (c : ℕ) → t.pending ≡ s.pending → t.delegate ≡ s.delegate → ordered_text s.waiting ≡ c ∷ ordered_text t.waiting
      → (out : List ℕ) (later : IsToCome (MayYield from.next_gives so_far) (nfd (reading_of s)) (pending_of t) t.delegate (ordered_text t.waiting) out)
      → (comes : WillYield (MayYield from.next_gives so_far) s (c ∷ out))
      × (AreShort from.next_gives s (c ∷ out) comes → HasShortRuns (has_class_form s.characters) (reading_of s) (option_to_list (pending_of t) ++ later.unread))
  unfolding IsToCome-back
  before_front s t c pending delegate front out =
      let Q : Option PendingChar → I → Type 0
      = λ p u. (later : IsToCome (MayYield from.next_gives so_far) (nfd (reading_of s)) (character_of p) u (ordered_text t.waiting) out)
      → (comes : WillYield (MayYield from.next_gives so_far) s (c ∷ out))
      × (AreShort from.next_gives s (c ∷ out) comes → HasShortRuns (has_class_form s.characters) (reading_of s) (option_to_list (character_of p) ++ later.unread)) in
      let base : Q s.pending s.delegate = λ later. (
        IsToCome-back (MayYield from.next_gives so_far) (nfd (reading_of s)) (pending_of s) s.delegate (ordered_text s.waiting) (ordered_text t.waiting) out c front later,
        λ short. short,
      ) in
      subst (λ p. Q p t.delegate) (sym pending) (subst (λ u. Q s.pending u) (sym delegate) base)

  -- a buffered character is yielded
  pub Steps-front : (s t : Decomposition I) (c : ℕ) → t.characters ≡ s.characters → t.ignored ≡ s.ignored → t.pending ≡ s.pending → t.delegate ≡ s.delegate
      → ordered_text s.waiting ≡ c ∷ ordered_text t.waiting → DecompositionSteps from s (Some (Ok c)) t
  Steps-front s t c characters ignored pending delegate front = record {
    item = record {
      first = λ out h.
          let next = IsToCome-front (Spells from.next_gives) (nfd (reading_of s)) (pending_of s) s.delegate (ordered_text s.waiting) (ordered_text t.waiting) out c front h in
          (next.0, next.1, rw (characters, ignored, pending, delegate) next.2);
      fault = tt;
      room = λ h. (refl, rw (characters, ignored, pending, delegate) h);
      ends = tt;
      stays = λ h. cc (h.1, front);
    };
    came = λ e out h.
        IsToCome-back (MayYield from.next_gives e) (nfd (reading_of s)) (pending_of s) s.delegate (ordered_text s.waiting) (ordered_text t.waiting) out c front (rw (characters, ignored, pending, delegate) at h);
    long = before_kept s t c characters ignored (before_front s t c pending delegate front);
    ready = λ h. rw (pending, delegate) h;
    kept = (characters, ignored);
    fewer = rw (pending, delegate) (omega (arith, ap length front));
  }

  pub Steps-ended : (s t : Decomposition I) → t.characters ≡ s.characters → t.ignored ≡ s.ignored → pending_of s ≡ None → pending_of t ≡ None → ordered_text s.waiting ≡ [] → ordered_text t.waiting ≡ []
      → DecompositionSteps from s None t
  Steps-ended s t characters ignored before after empty empty_after = record {
    item = record {
      first = λ out h. (
        IsToCome-none (Spells from.next_gives) (nfd (reading_of s)) (pending_of s) s.delegate (ordered_text s.waiting) out (nfd-nil (reading_of s)) before empty h,
        ended (Spells from.next_gives) t after empty_after,
      );
      fault = tt;
      room = λ h. (tt, short h);
      ends = (after, empty_after);
      stays = λ h. refl;
    };
    came = λ e. ended (MayYield from.next_gives e) s before empty;
    long = tt;
    ready = λ h. rw after tt;
    kept = (characters, ignored);
    fewer = tt;
  }
    where
      short : StaysShort from.next_gives s → StaysShort from.next_gives t
      short h = rw (characters, ignored, after)
          (AreShortToCome-ended from.next_gives (has_class_form s.characters) (reading_of s) None s.delegate t.delegate refl
          (subst (λ p. AreShortToCome from.next_gives (has_class_form s.characters) (reading_of s) p s.delegate) before h))

  module _ (s : Decomposition I) (c : ℕ) (pending : pending_of s ≡ Some c) (empty : ordered_text s.waiting ≡ []) where
    to_come : (out : List ℕ) → WillYield (Spells from.next_gives) s out → IsToCome (Spells from.next_gives) (nfd (reading_of s)) (Some c) s.delegate (ordered_text s.waiting) out
    to_come out h = subst (λ p. IsToCome (Spells from.next_gives) (nfd (reading_of s)) p s.delegate (ordered_text s.waiting) out) pending h

    short_to_come : StaysShort from.next_gives s → AreShortToCome from.next_gives (has_class_form s.characters) (reading_of s) (Some c) s.delegate
    short_to_come h = subst (λ p. AreShortToCome from.next_gives (has_class_form s.characters) (reading_of s) p s.delegate) pending h

    items_left-pending : items_left from.remaining s ≡ longest_list * (size (from.remaining s.delegate) + 1)
    items_left-pending =
        ap (λ l. length l + longest_list * reads_left (pending_of s) (size (from.remaining s.delegate))) empty ∙ ap (λ p. 0 + longest_list * reads_left p (size (from.remaining s.delegate))) pending ∙ omega arith

    before_chunk : (t : Decomposition I) (first : ℕ) → ReadsChunk from (has_class_form s.characters) (reading_of s) c s.delegate first (pending_of t) t.delegate t.waiting
        → (out : List ℕ) (later : IsToCome (MayYield from.next_gives so_far) (nfd (reading_of s)) (pending_of t) t.delegate (ordered_text t.waiting) out)
        → (comes : WillYield (MayYield from.next_gives so_far) s (first ∷ out))
        × (AreShort from.next_gives s (first ∷ out) comes → HasShortRuns (has_class_form s.characters) (reading_of s) (option_to_list (pending_of t) ++ later.unread))
    before_chunk t first r out later =
        let f = has_class_form s.characters in
        let d = reading_of s in
        let Q : Option ℕ → Type 0
        = λ o. (comes : IsToCome (MayYield from.next_gives so_far) (nfd d) o s.delegate (ordered_text s.waiting) (first ∷ out))
        × (HasShortRuns f d (option_to_list o ++ comes.unread) → HasShortRuns f d (option_to_list (pending_of t) ++ later.unread)) in
        subst Q (sym pending) (
          came_chunk from f d s.suits so_far c s.delegate t.delegate first (pending_of t) t.waiting (ordered_text s.waiting) out empty (s.at_boundary c pending) r later,
          short_behind_chunk from f d s.suits c s.delegate t.delegate first (pending_of t) t.waiting (ordered_text s.waiting) out empty (s.at_boundary c pending) r later,
        )

    -- it didn't fit
    long_chunk_to_come : ChunkDidNotFit from.next_gives (has_class_form s.characters) (reading_of s) c s.delegate → IsLong from.next_gives s
    long_chunk_to_come long =
        let f = has_class_form s.characters in
        let e = reading_of s in
        let Q : Option ℕ → Type 0
        = λ o. (out : List ℕ) × (comes : IsToCome (MayYield from.next_gives so_far) (nfd e) o s.delegate (ordered_text s.waiting) out)
        × (HasShortRuns f e (option_to_list o ++ comes.unread) → ⊥) in
        let base : Q (Some c) = (
          ordered_text s.waiting ++ nfd e (c ∷ long.read),
          record { unread = long.read; source = (long.delegate_after, long.run); text = refl },
          long_chunk from f e c s.delegate (s.at_boundary c pending) long,
        ) in
        let h : Q (pending_of s) = subst Q (sym pending) base in
        record { out = h.0; comes = h.1; long = h.2 }

    pub Steps-chunk : (t : Decomposition I) (first : ℕ) → t.characters ≡ s.characters → t.ignored ≡ s.ignored
        → ReadsChunk from (has_class_form s.characters) (reading_of s) c s.delegate first (pending_of t) t.delegate t.waiting → DecompositionSteps from s (Some (Ok first)) t
    Steps-chunk t first characters ignored r = record {
      item = record {
        first = λ out h.
            let next =
            IsToCome-chunk from (has_class_form s.characters) (reading_of s) s.suits c s.delegate t.delegate first (pending_of t) t.waiting (ordered_text s.waiting) out empty
            (s.at_boundary c pending) r (to_come out h) in
            (next.0, next.1, rw (characters, ignored) next.2);
        fault = tt;
        room = λ h. (
          refl,
          rw (characters, ignored)
              (AreShortToCome-chunk from (has_class_form s.characters) (reading_of s) c s.delegate t.delegate first (pending_of t) t.waiting r (short_to_come h)),
        );
        ends = tt;
        stays = λ h. cc (h.0, pending);
      };
      came = λ e out h.
          subst (λ p. IsToCome (MayYield from.next_gives e) (nfd (reading_of s)) p s.delegate (ordered_text s.waiting) (first ∷ out)) (sym pending)
          (came_chunk from (has_class_form s.characters) (reading_of s) s.suits e c s.delegate t.delegate first (pending_of t) t.waiting (ordered_text s.waiting) out empty
          (s.at_boundary c pending) r (rw (characters, ignored) at h));
      long = before_kept s t first characters ignored (before_chunk t first r);
      ready = λ h. r.ready;
      kept = (characters, ignored);
      fewer = omega (arith, items_left-pending, chunk_size from (has_class_form s.characters) (reading_of s) s.suits c s.delegate t.delegate first (pending_of t) t.waiting r);
    }

    pub Steps-refused : (t : Decomposition I) → t.characters ≡ s.characters → t.ignored ≡ s.ignored → pending_of t ≡ None → ordered_text t.waiting ≡ []
        → ChunkDidNotFit from.next_gives (has_class_form s.characters) (reading_of s) c s.delegate → DecompositionSteps from s (Some (Err Memory)) t
    Steps-refused t characters ignored after empty_after long = record {
      item = record {
        first = λ out h. ended (Spells from.next_gives) t after empty_after;
        fault = refl;
        room = λ h. absurd (short_chunk_fits from (has_class_form s.characters) (reading_of s) c s.delegate (s.at_boundary c pending) long (short_to_come h));
        ends = (after, empty_after);
        stays = λ h. cc (h.0, pending);
      };
      came = λ e. tt;
      long = long_chunk_to_come long;
      ready = λ h. rw after tt;
      kept = (characters, ignored);
      fewer = omega (arith, items_left-pending, items_left-ended t (after, empty_after));
    }

    -- the chunk was read, after a character that had been read, or didn't fit
    module _ (following : Option ℕ) (u : I) (read : HasRead from.next_gives from.remaining s.delegate following u) (t : Decomposition I) (characters : t.characters ≡ s.characters) (ignored : t.ignored ≡ s.ignored) where
      pub Steps-read : (r : Result ℕ NormalizeError) → IfOk r
          (λ first. (before : I) → HasRead from.next_gives from.remaining before following u → ReadsChunk from (has_class_form s.characters) (reading_of s) c before first (pending_of t) t.delegate t.waiting)
          → IfErr r (λ e. (e ≡ Memory) × IsEnded t × ((before : I) → HasRead from.next_gives from.remaining before following u → ChunkDidNotFit from.next_gives (has_class_form s.characters) (reading_of s) c before))
          → DecompositionSteps from s (Some r) t
      Steps-read (Ok first) ok err = Steps-chunk t first characters ignored (ok s.delegate read)
      Steps-read (Err e) ok err =
          subst (λ k. DecompositionSteps from s (Some (Err k)) t) (sym err.0) (Steps-refused t characters ignored err.1.0 err.1.1 (err.2 s.delegate read))
