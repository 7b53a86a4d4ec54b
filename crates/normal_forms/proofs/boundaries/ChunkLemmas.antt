-- Lazy reading: the decomposing form chunk by chunk.
use Rattle.std.proofs.Common.{◌≡◌, ℕ, ◌+◌, ◌-◌, ◌≤◌, Bool, true, false, List, [], ◌∷◌, ◌++◌, length, refl, sym, ap, ◌∙◌, inl, inr, append_assoc, append-nil, length-append, arith}
use Rattle.std.proofs.lemmas.Bool.{cond-true, cond-false, cases_Bool}
use Rattle.std.proofs.lemmas.List.Elements.{All-head, All-tail}
use Rattle.std.specs.List.{AllPass}
use Rattle.normal_forms.specs.Reading.{Reading, IsStarter}
use Rattle.normal_forms.specs.Decomposition.{expand}
use Rattle.normal_forms.specs.Order.{order}
use Rattle.normal_forms.specs.Forms.{nfd}
use Rattle.normal_forms.specs.Chunks.{BeginsChunk, DoesNotContinue}
use Rattle.normal_forms.specs.ShortRuns.{buffer_limit, continues, leading_length, HasShortChunks, HasShortRuns}
use Rattle.normal_forms.proofs.ordering.OrderLemmas.{insert-starter, order-at_starter}
use Rattle.normal_forms.proofs.ordering.ExpandLemmas.{expand-append}

-- ---- a chunk is normalized apart from the rest

nfd-first : (d : Reading) (c s : ℕ) (t x : List ℕ) → d.list c ≡ s ∷ t → IsStarter d s → nfd d (c ∷ x) ≡ s ∷ order d (t ++ expand d x)
unfolding nfd expand order
nfd-first d c s t x e starter = ap (λ l. order d (l ++ expand d x)) e ∙ insert-starter d s (order d (t ++ expand d x)) starter

order-before_chunk : (d : Reading) (u rest : List ℕ) → BeginsChunk d rest → order d (u ++ expand d rest) ≡ order d u ++ nfd d rest
unfolding nfd expand order
order-before_chunk d u [] h = ap (order d) (append-nil u) ∙ sym (append-nil (order d u))
order-before_chunk d u (c ∷ x) h =
    ap (λ l. order d (u ++ (l ++ expand d x))) h.1.1 ∙ order-at_starter d u h.0 (h.1.0 ++ expand d x) h.2
    ∙ ap (λ l. order d u ++ l) (sym (nfd-first d c h.0 h.1.0 x h.1.1 h.2))

-- what comes before a chunk is normalized apart from it
pub nfd-before_chunk : (d : Reading) (l rest : List ℕ) → BeginsChunk d rest → nfd d (l ++ rest) ≡ order d (expand d l) ++ nfd d rest
unfolding nfd
nfd-before_chunk d l rest h = ap (order d) (expand-append d l rest) ∙ order-before_chunk d (expand d l) rest h

-- a chunk yields its starter at once; the rest of its first list is put in order with the lists after it
pub nfd-chunk : (d : Reading) (c s : ℕ) (t l rest : List ℕ) → d.list c ≡ s ∷ t → IsStarter d s → BeginsChunk d rest → nfd d (c ∷ (l ++ rest)) ≡ s ∷ (order d (t ++ expand d l) ++ nfd d rest)
nfd-chunk d c s t l rest e starter h =
    nfd-first d c s t (l ++ rest) e starter
    ∙ ap (λ w. s ∷ w)
    (ap (λ w. order d (t ++ w)) (expand-append d l rest) ∙ ap (order d) (sym (append_assoc t (expand d l) (expand d rest)))
    ∙ order-before_chunk d (t ++ expand d l) rest h)

-- ---- short runs

leading_length-continues : (f : ℕ → Bool) (d : Reading) (c : ℕ) (x : List ℕ) → continues f d c ≡ true → leading_length f d (c ∷ x) ≡ length (d.list c) + leading_length f d x
unfolding leading_length
leading_length-continues f d c x h = cond-true _ _ _ h

leading_length-append : (f : ℕ → Bool) (d : Reading) (l rest : List ℕ) → AllPass (continues f d) l → leading_length f d (l ++ rest) ≡ length (expand d l) + leading_length f d rest
unfolding expand
leading_length-append f d [] rest h = omega arith
leading_length-append f d (c ∷ l) rest h =
    let first = leading_length-continues f d c (l ++ rest) (All-head (λ m. continues f d m ≡ true) c l h) in
    let behind = leading_length-append f d l rest (All-tail (λ m. continues f d m ≡ true) c l h) in
    omega (arith, length-append (d.list c) (expand d l))

-- of a chunk at most this many characters are buffered
pub chunk_bound : (f : ℕ → Bool) (d : Reading) (c : ℕ) (x : List ℕ) → HasShortRuns f d (c ∷ x) → continues f d c ≡ false → length (d.list c) - 1 + leading_length f d x ≤ buffer_limit
unfolding HasShortChunks
chunk_bound f d c x h at_boundary = h.chunks.0 at_boundary

-- a text with short runs has them after its first character too
pub HasShortRuns-tail : (f : ℕ → Bool) (d : Reading) (c : ℕ) (x : List ℕ) → HasShortRuns f d (c ∷ x) → HasShortRuns f d x
unfolding HasShortChunks
HasShortRuns-tail f d c x h =
    elim (cases_Bool (continues f d c)) [
      | inl continuing ↦ record { leading = omega (arith, h.leading, leading_length-continues f d c x continuing); chunks = h.chunks.1 }
      | inr at_boundary ↦ record { leading = omega (arith, chunk_bound f d c x h at_boundary); chunks = h.chunks.1 }
    ]

pub HasShortRuns-rest : (f : ℕ → Bool) (d : Reading) (l rest : List ℕ) → HasShortRuns f d (l ++ rest) → HasShortRuns f d rest
HasShortRuns-rest f d [] rest h = h
HasShortRuns-rest f d (c ∷ l) rest h = HasShortRuns-rest f d l rest (HasShortRuns-tail f d c (l ++ rest) h)

-- the lists of leading characters that continue fit, all of them or the first few
pub leading_fits : (f : ℕ → Bool) (d : Reading) (l rest : List ℕ) → HasShortRuns f d (l ++ rest) → AllPass (continues f d) l → length (expand d l) ≤ buffer_limit
leading_fits f d l rest h all = omega (arith, h.leading, leading_length-append f d l rest all)

-- what is buffered after the starter of a chunk fits, all of it or what was read so far
pub chunk_fits : (f : ℕ → Bool) (d : Reading) (c s : ℕ) (t l rest : List ℕ) → HasShortRuns f d (c ∷ (l ++ rest)) → continues f d c ≡ false → d.list c ≡ s ∷ t
    → AllPass (continues f d) l → length (t ++ expand d l) ≤ buffer_limit
chunk_fits f d c s t l rest h at_boundary e all =
    omega (arith, chunk_bound f d c (l ++ rest) h at_boundary, leading_length-append f d l rest all, ap length e, length-append t (expand d l))
