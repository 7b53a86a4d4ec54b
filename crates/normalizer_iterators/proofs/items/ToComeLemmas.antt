-- What is still to come of an iterator, from one step to the next.
use Rattle.std.proofs.Common.{◌≡◌, ℕ, ◌+◌, ◌*◌, ◌<◌, ◌≤◌, Bool, false, List, [], ◌∷◌, ◌++◌, length, refl, sym, ap, ◌∙◌, subst, arith, Option, Some, None, IfSome, MatchOption, option_to_list}
use Rattle.std.proofs.lemmas.List.{append-nil, length-append}
use Rattle.std.specs.Iterator.{size}
use Rattle.normal_forms.specs.Reading.{Reading}
use Rattle.normal_forms.specs.Decomposition.{expand}
use Rattle.normal_forms.specs.Forms.{nfd}
use Rattle.normal_forms.specs.Chunks.{BeginsChunk}
use Rattle.normal_forms.specs.ShortRuns.{continues, HasShortRuns}
use Rattle.normal_forms.proofs.ordering.OrderLemmas.{order-nil, length-order}
use Rattle.normal_forms.proofs.boundaries.ChunkLemmas.{nfd-before_chunk, nfd-chunk, HasShortRuns-rest, leading_fits, chunk_fits}
use Rattle.normalizer_text.specs.DecodingSteps.{Spells}
use Rattle.normalizer_iterators.specs.declared.waiting.WaitingList.{WaitingList}
use Rattle.normalizer_iterators.specs.Delegate.{ComesAfter, Extent, MayYield, Source, HasYieldedLong}
use Rattle.normalizer_iterators.specs.Delegate.Extent.{so_far}
use Rattle.normalizer_iterators.specs.LazyReading.{SuitsLazyReading, longest_list}
use Rattle.normalizer_iterators.specs.inner.ReadingOn.{ReadsOn, DidNotFit, ReadsChunk, ChunkDidNotFit}
use Rattle.normalizer_iterators.specs.ToCome.{IsToCome, AreShortToCome, reads_left}
use Rattle.normalizer_iterators.specs.WaitingList.{ordered_text, unordered_text, item_count}
use Rattle.normalizer_iterators.proofs.reads.LazyLemmas.{at_boundary-parts, spelled_behind, spelled_then, MayYield-then}
use Rattle.normalizer_iterators.proofs.reads.ReadingLemmas.{reordered-nothing}

pub nfd-nil : (d : Reading) → nfd d [] ≡ []
unfolding nfd expand
nfd-nil d = order-nil d

-- what was read last, with what comes after it, begins with a starter
pub begins_chunk : (f : ℕ → Bool) (d : Reading) → SuitsLazyReading f d → {I : Type 0} (Comes : I → List ℕ → Type 0) (pending : Option ℕ) (u : I) (rest : List ℕ)
    → IfSome pending (λ c. continues f d c ≡ false) → ComesAfter Comes pending u rest → BeginsChunk d (option_to_list pending ++ rest)
begins_chunk f d suits Comes None u [] at_boundary source = tt
begins_chunk f d suits Comes None u (c ∷ rest) at_boundary source = cc
begins_chunk f d suits Comes (Some c) u rest at_boundary source =
    let parts = at_boundary-parts f d c at_boundary in
    (parts.1, (parts.2, parts.3), suits.starters c parts.1 parts.2 parts.0 parts.3)

length-expand : (d : Reading) (x : List ℕ) → ((c : ℕ) → length (d.list c) ≤ longest_list) → length (expand d x) ≤ longest_list * length x
unfolding expand
length-expand d [] short = omega arith
length-expand d (c ∷ x) short = omega (arith, short c, length-expand d x short, length-append (d.list c) (expand d x))

module _ {I : Type 0} (Comes : I → List ℕ → Type 0) where
  -- ---- a buffered character is yielded

  pub IsToCome-front : (form : List ℕ → List ℕ) (pending : Option ℕ) (u : I) (front behind out : List ℕ) (c : ℕ) → front ≡ c ∷ behind → IsToCome Comes form pending u front out → (rest : List ℕ)
      × (out ≡ c ∷ rest) × IsToCome Comes form pending u behind rest
  IsToCome-front form pending u front behind out c e h = (
    behind ++ form (option_to_list pending ++ h.unread),
    h.text ∙ ap (λ l. l ++ form (option_to_list pending ++ h.unread)) e,
    record { unread = h.unread; source = h.source; text = refl },
  )

  unfoldable pub IsToCome-back : (form : List ℕ → List ℕ) (pending : Option ℕ) (u : I) (front behind rest : List ℕ) (c : ℕ) → front ≡ c ∷ behind → IsToCome Comes form pending u behind rest
      → IsToCome Comes form pending u front (c ∷ rest)
  IsToCome-back form pending u front behind rest c e h = record {
    unread = h.unread;
    source = h.source;
    text = ap (λ l. c ∷ l) h.text ∙ ap (λ l. l ++ form (option_to_list pending ++ h.unread)) (sym e);
  }

  -- ---- nothing is pending and nothing is buffered

  pub IsToCome-none : (form : List ℕ → List ℕ) (pending : Option ℕ) (u : I) (front out : List ℕ) → form [] ≡ [] → pending ≡ None → front ≡ [] → IsToCome Comes form pending u front out → out ≡ []
  IsToCome-none form None u front out nil e none h = h.text ∙ ap (λ l. l ++ form h.unread) none ∙ ap form h.source ∙ nil
  IsToCome-none form (Some c) u front out nil e none h = cc e

  pub IsToCome-ended : (form : List ℕ → List ℕ) (pending : Option ℕ) (u : I) (front : List ℕ) → form [] ≡ [] → pending ≡ None → front ≡ [] → IsToCome Comes form pending u front []
  IsToCome-ended form None u front nil e none = record { unread = []; source = refl; text = sym (ap (λ l. l ++ form []) none ∙ nil) }
  IsToCome-ended form (Some c) u front nil e none = cc e

module _ {I : Type 0} (gives : I → Option ℕ → I → Type 0) where
  pub AreShortToCome-ended : (f : ℕ → Bool) (d : Reading) (pending : Option ℕ) (u v : I) → pending ≡ None → AreShortToCome gives f d pending u → AreShortToCome gives f d pending v
  AreShortToCome-ended f d None u v e h = record { unread = h.unread; source = h.source; short = h.short }
  AreShortToCome-ended f d (Some c) u v e h = cc e

module _ {I : Type 0} (from : Source I) (f : ℕ → Bool) (d : Reading) where
  -- ---- the first characters are read

  pub IsToCome-start : SuitsLazyReading f d → (delegate u : I) (w b : WaitingList) (pending : Option ℕ) (x : List ℕ) → ordered_text w ≡ [] → unordered_text w ≡ []
      → ReadsOn from f d delegate w pending u b → Spells from.next_gives delegate x → IsToCome (Spells from.next_gives) (nfd d) pending u (ordered_text b) (nfd d x)
  IsToCome-start suits delegate u w b pending x front open_marks r spells =
      let parts = spelled_then from.next_gives delegate r.read pending u x r.run spells in
      record {
        unread = parts.0;
        source = parts.2;
        text =
            ap (nfd d) parts.1 ∙ nfd-before_chunk d r.read (option_to_list pending ++ parts.0) (begins_chunk f d suits (Spells from.next_gives) pending u parts.0 r.at_boundary parts.2)
            ∙ ap (λ l. l ++ nfd d (option_to_list pending ++ parts.0)) (sym (r.text ∙ reordered-nothing d w (expand d r.read) front open_marks));
      }

  pub came_start : SuitsLazyReading f d → (e : Extent) (delegate u : I) (w b : WaitingList) (pending : Option ℕ) (out : List ℕ) → ordered_text w ≡ [] → unordered_text w ≡ []
      → ReadsOn from f d delegate w pending u b → IsToCome (MayYield from.next_gives e) (nfd d) pending u (ordered_text b) out → (x : List ℕ) × MayYield from.next_gives e delegate x × (out ≡ nfd d x)
  came_start suits e delegate u w b pending out front open_marks r h =
      let behind = option_to_list pending ++ h.unread in (
        r.read ++ behind,
        MayYield-then from.next_gives e delegate r.read pending u h.unread r.run h.source,
        h.text ∙ sym (nfd-before_chunk d r.read behind (begins_chunk f d suits (MayYield from.next_gives e) pending u h.unread r.at_boundary h.source)
            ∙ ap (λ l. l ++ nfd d behind) (sym (r.text ∙ reordered-nothing d w (expand d r.read) front open_marks))),
      )

  -- runs that aren't short were in what the delegate yielded, from its start on
  pub HasYieldedLong-start : SuitsLazyReading f d → (delegate u : I) (w b : WaitingList) (pending : Option ℕ) (out : List ℕ) → ordered_text w ≡ [] → unordered_text w ≡ []
      → ReadsOn from f d delegate w pending u b → (h : IsToCome (MayYield from.next_gives so_far) (nfd d) pending u (ordered_text b) out)
      → (HasShortRuns f d (option_to_list pending ++ h.unread) → ⊥) → HasYieldedLong from.next_gives f d delegate
  HasYieldedLong-start suits delegate u w b pending out front open_marks r h long =
      let behind = option_to_list pending ++ h.unread in
      let all = MayYield-then from.next_gives so_far delegate r.read pending u h.unread r.run h.source in
      (r.read ++ behind, all.0, all.1, λ short. long (HasShortRuns-rest f d r.read behind short))

  pub AreShortToCome-start : (delegate u : I) (w b : WaitingList) (pending : Option ℕ) (x : List ℕ) → ReadsOn from f d delegate w pending u b → Spells from.next_gives delegate x
      → HasShortRuns f d x → AreShortToCome from.next_gives f d pending u
  AreShortToCome-start delegate u w b pending x r spells short =
      let parts = spelled_then from.next_gives delegate r.read pending u x r.run spells in
      record { unread = parts.0; source = parts.2; short = HasShortRuns-rest f d r.read (option_to_list pending ++ parts.0) (subst (HasShortRuns f d) parts.1 short) }

  pub short_start_fits : (delegate : I) (w : WaitingList) (x : List ℕ) → item_count w ≡ 0 → DidNotFit from.next_gives f d delegate w → Spells from.next_gives delegate x → HasShortRuns f d x → ⊥
  short_start_fits delegate w x none long spells short =
      let parts = spelled_behind from.next_gives delegate long.read long.delegate_after x long.run spells in
      omega (arith, long.too_long, leading_fits f d long.read parts.0 (subst (HasShortRuns f d) parts.1 short) long.continuing)

  -- what did not fit is a run that isn't short
  pub long_start : (delegate : I) (w : WaitingList) → item_count w ≡ 0 → DidNotFit from.next_gives f d delegate w → HasYieldedLong from.next_gives f d delegate
  long_start delegate w none long = (
    long.read,
    long.delegate_after,
    long.run,
    λ short. omega (arith, long.too_long, leading_fits f d long.read [] (subst (HasShortRuns f d) (sym (append-nil long.read)) short) long.continuing),
  )

  -- ---- the pending character and those that continue it are read

  pub IsToCome-chunk : SuitsLazyReading f d → (c : ℕ) (delegate u : I) (first : ℕ) (pending : Option ℕ) (b : WaitingList) (front out : List ℕ) → front ≡ [] → continues f d c ≡ false
      → ReadsChunk from f d c delegate first pending u b → IsToCome (Spells from.next_gives) (nfd d) (Some c) delegate front out → (rest : List ℕ) × (out ≡ first ∷ rest)
      × IsToCome (Spells from.next_gives) (nfd d) pending u (ordered_text b) rest
  IsToCome-chunk suits c delegate u first pending b front out none at_boundary r h =
      let parts = spelled_then from.next_gives delegate r.read pending u h.unread r.run h.source in
      let behind = nfd d (option_to_list pending ++ parts.0) in
      let starter = suits.starters c first r.others ((at_boundary-parts f d c at_boundary).0) r.members in (
        ordered_text b ++ behind,
        h.text ∙ ap (λ l. l ++ nfd d (c ∷ h.unread)) none ∙ ap (λ l. nfd d (c ∷ l)) parts.1
            ∙ nfd-chunk d c first r.others r.read (option_to_list pending ++ parts.0) r.members starter (begins_chunk f d suits (Spells from.next_gives) pending u parts.0 r.at_boundary parts.2)
            ∙ ap (λ l. first ∷ (l ++ behind)) (sym r.text),
        record { unread = parts.0; source = parts.2; text = refl },
      )

  unfoldable pub came_chunk : SuitsLazyReading f d → (e : Extent) (c : ℕ) (delegate u : I) (first : ℕ) (pending : Option ℕ) (b : WaitingList) (front rest : List ℕ) → front ≡ [] → continues f d c ≡ false
      → ReadsChunk from f d c delegate first pending u b → IsToCome (MayYield from.next_gives e) (nfd d) pending u (ordered_text b) rest
      → IsToCome (MayYield from.next_gives e) (nfd d) (Some c) delegate front (first ∷ rest)
  came_chunk suits e c delegate u first pending b front rest none at_boundary r h =
      let behind = option_to_list pending ++ h.unread in
      let starter = suits.starters c first r.others ((at_boundary-parts f d c at_boundary).0) r.members in record {
        unread = r.read ++ behind;
        source = MayYield-then from.next_gives e delegate r.read pending u h.unread r.run h.source;
        text = sym (ap (λ l. l ++ nfd d (c ∷ (r.read ++ behind))) none
            ∙ nfd-chunk d c first r.others r.read behind r.members starter (begins_chunk f d suits (MayYield from.next_gives e) pending u h.unread r.at_boundary h.source)
            ∙ ap (λ l. first ∷ (l ++ nfd d behind)) (sym r.text) ∙ ap (λ l. first ∷ l) (sym h.text));
      }

  -- if the runs that come with it are short, so are those after it
  pub short_behind_chunk : (suits : SuitsLazyReading f d) (c : ℕ) (delegate u : I) (first : ℕ) (pending : Option ℕ) (b : WaitingList) (front rest : List ℕ) (none : front ≡ [])
      (at_boundary : continues f d c ≡ false) (r : ReadsChunk from f d c delegate first pending u b) (h : IsToCome (MayYield from.next_gives so_far) (nfd d) pending u (ordered_text b) rest)
      → HasShortRuns f d (c ∷ (came_chunk suits so_far c delegate u first pending b front rest none at_boundary r h).unread) → HasShortRuns f d (option_to_list pending ++ h.unread)
  unfolding came_chunk
  short_behind_chunk suits c delegate u first pending b front rest none at_boundary r h short = HasShortRuns-rest f d (c ∷ r.read) (option_to_list pending ++ h.unread) short

  -- what didn't fit has no short runs
  pub long_chunk : (c : ℕ) (delegate : I) → continues f d c ≡ false → (long : ChunkDidNotFit from.next_gives f d c delegate) → HasShortRuns f d (c ∷ long.read) → ⊥
  long_chunk c delegate at_boundary long short =
      let first = (at_boundary-parts f d c at_boundary) in
      let fits = chunk_fits f d c first.1 first.2 long.read [] (subst (λ l. HasShortRuns f d (c ∷ l)) (sym (append-nil long.read)) short) at_boundary first.3 long.continuing in
      omega (arith, long.too_long, fits, ap length first.3, length-append first.2 (expand d long.read))

  pub AreShortToCome-chunk : (c : ℕ) (delegate u : I) (first : ℕ) (pending : Option ℕ) (b : WaitingList) → ReadsChunk from f d c delegate first pending u b
      → AreShortToCome from.next_gives f d (Some c) delegate → AreShortToCome from.next_gives f d pending u
  AreShortToCome-chunk c delegate u first pending b r h =
      let parts = spelled_then from.next_gives delegate r.read pending u h.unread r.run h.source in
      record {
        unread = parts.0;
        source = parts.2;
        short = HasShortRuns-rest f d (c ∷ r.read) (option_to_list pending ++ parts.0) (subst (λ l. HasShortRuns f d (c ∷ l)) parts.1 h.short);
      }

  pub short_chunk_fits : (c : ℕ) (delegate : I) → continues f d c ≡ false → ChunkDidNotFit from.next_gives f d c delegate → AreShortToCome from.next_gives f d (Some c) delegate → ⊥
  short_chunk_fits c delegate at_boundary long h =
      let parts = spelled_behind from.next_gives delegate long.read long.delegate_after h.unread long.run h.source in
      let members = (at_boundary-parts f d c at_boundary).1 in
      let first = (at_boundary-parts f d c at_boundary) in
      let fits = chunk_fits f d c first.1 first.2 long.read parts.0 (subst (λ l. HasShortRuns f d (c ∷ l)) parts.1 h.short) at_boundary first.3 long.continuing in
      omega (arith, long.too_long, fits, ap length first.3, length-append first.2 (expand d long.read))

  -- a chunk yields no more than its share
  pub chunk_size : SuitsLazyReading f d → (c : ℕ) (delegate u : I) (first : ℕ) (pending : Option ℕ) (b : WaitingList) → ReadsChunk from f d c delegate first pending u b
      → length (ordered_text b) + longest_list * reads_left pending (size (from.remaining u)) < longest_list * (size (from.remaining delegate) + 1)
  chunk_size suits c delegate u first pending b r =
      let own = suits.short c in
      let all = ap length r.text ∙ length-order d (r.others ++ expand d r.read) ∙ length-append r.others (expand d r.read) in
      let read = length-expand d r.read suits.short in
      by pending (size (from.remaining u)) (size (from.remaining delegate)) (length r.read) (length (ordered_text b)) (omega (arith, own, all, read, ap length r.members)) r.fewer
    where
      by : (pending : Option ℕ) (after before n given : ℕ) → given < longest_list + longest_list * n → MatchOption pending (n ≤ before) (λ _. after + n < before)
          → given + longest_list * reads_left pending after < longest_list * (before + 1)
      by None after before n given few fewer = omega arith
      by (Some c) after before n given few fewer = omega arith
