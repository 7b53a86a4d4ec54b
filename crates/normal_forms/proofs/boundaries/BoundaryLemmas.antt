-- Safe boundaries, at which the form of a text is that of its front followed by that of its rest.
use Rattle.std.proofs.Common.{◌≡◌, ◌≢◌, ℕ, List, [], ◌∷◌, ◌++◌, refl, sym, ap, subst, ◌∙◌, append-nil}
use Rattle.std.specs.List.{AllByRecursion}
use Rattle.normal_forms.specs.Reading.{Reading, IsStarter}
use Rattle.normal_forms.specs.Decomposition.{expand}
use Rattle.normal_forms.specs.Order.{order}
use Rattle.normal_forms.specs.Forms.{nfd}
use Rattle.normal_forms.specs.CompositionByStarters.{compose_by_starters}
use Rattle.normal_forms.specs.Boundary.{BeginsWithStarter, BeginsAtBoundary}
use Rattle.normal_forms.proofs.ordering.OrderLemmas.{order-at_starter}
use Rattle.normal_forms.proofs.ordering.ExpandLemmas.{expand-append}
use Rattle.normal_forms.proofs.composing.ComposeLemmas.{composed_form, compose_by_starters-nil, compose_by_starters-at_starter}

order-from_starter : (d : Reading) (s : ℕ) (w : List ℕ) → IsStarter d s → order d (s ∷ w) ≡ s ∷ order d w
unfolding order
order-from_starter d s w h = order-at_starter d [] s w h

order-boundary : (d : Reading) (x y : List ℕ) → BeginsWithStarter d y → order d (x ++ y) ≡ order d x ++ order d y
unfolding order
order-boundary d x [] begins = ap (order d) (append-nil x) ∙ sym (append-nil (order d x))
order-boundary d x (s ∷ w) begins = order-at_starter d x s w begins ∙ ap (λ l. order d x ++ l) (sym (order-from_starter d s w begins))

-- nothing is reordered across the beginning of a text that decomposes to a starter first
pub nfd-boundary : (d : Reading) (u v : List ℕ) → BeginsWithStarter d (expand d v) → nfd d (u ++ v) ≡ nfd d u ++ nfd d v
unfolding nfd
nfd-boundary d u v begins = ap (order d) (expand-append d u v) ∙ order-boundary d (expand d u) (expand d v) begins

pub BeginsWithStarter-from_safely : (d : Reading) (x : List ℕ) → BeginsAtBoundary d x → BeginsWithStarter d x
BeginsWithStarter-from_safely d [] begins = tt
BeginsWithStarter-from_safely d (s ∷ x) begins = begins.0

pub BeginsAtBoundary-order : (d : Reading) (x : List ℕ) → BeginsAtBoundary d x → BeginsAtBoundary d (order d x)
unfolding order
BeginsAtBoundary-order d [] begins = tt
BeginsAtBoundary-order d (s ∷ x) begins = subst (BeginsAtBoundary d) (sym (order-from_starter d s x begins.0)) begins

compose_by_starters-boundary : (d : Reading) (x y : List ℕ) → BeginsAtBoundary d y → compose_by_starters d (x ++ y) ≡ compose_by_starters d x ++ compose_by_starters d y
compose_by_starters-boundary d x [] begins =
    ap (compose_by_starters d) (append-nil x) ∙ sym (append-nil (compose_by_starters d x))
    ∙ ap (λ l. compose_by_starters d x ++ l) (sym (compose_by_starters-nil d))
compose_by_starters-boundary d x (s ∷ w) begins = compose_by_starters-at_starter d x s w begins.0 begins.1

-- nothing is composed across it if that starter is second in no pair
pub composed_form-boundary : (d : Reading) (u v : List ℕ) → BeginsAtBoundary d (expand d v) → composed_form d (u ++ v) ≡ composed_form d u ++ composed_form d v
unfolding composed_form nfd
composed_form-boundary d u v begins =
    ap (compose_by_starters d) (nfd-boundary d u v (BeginsWithStarter-from_safely d (expand d v) begins))
    ∙ compose_by_starters-boundary d (nfd d u) (nfd d v) (BeginsAtBoundary-order d (expand d v) begins)

-- what is said of the first of a list, and of the empty list always
module _ (d : Reading) (Begins : List ℕ → Type 0) (same_first : (s : ℕ) (x y : List ℕ) → Begins (s ∷ x) → Begins (s ∷ y)) where
  begins-front : (x y : List ℕ) → x ≢ [] → Begins x → Begins (x ++ y)
  begins-front [] y are_nonempty begins = absurd (are_nonempty refl)
  begins-front (s ∷ x) y are_nonempty begins = same_first s x (x ++ y) begins

  begins-append : (x y : List ℕ) → Begins x → Begins y → Begins (x ++ y)
  begins-append [] y a b = b
  begins-append (s ∷ x) y a b = same_first s x (x ++ y) a

  begins-expand_cons : (c : ℕ) (x : List ℕ) → d.list c ≢ [] → Begins (d.list c) → Begins (expand d (c ∷ x))
  unfolding expand
  begins-expand_cons c x = begins-front (d.list c) (expand d x)

  begins-expand_run : (P : ℕ → Type 0) (run v : List ℕ) → AllByRecursion (λ c. P c × Begins (d.list c)) run → Begins (expand d v) → Begins (expand d (run ++ v))
  unfolding expand
  begins-expand_run P [] v all begins = begins
  begins-expand_run P (c ∷ run) v all begins = begins-append (d.list c) (expand d (run ++ v)) all.0.1 (begins-expand_run P run v all.1 begins)

  -- f divides before each character of the run, which is its own f
  run_stays : (f : List ℕ → List ℕ) → ((u v : List ℕ) → Begins (expand d v) → f (u ++ v) ≡ f u ++ f v) → (u run v : List ℕ)
      → AllByRecursion (λ c. (f (c ∷ []) ≡ c ∷ []) × Begins (d.list c)) run → Begins (expand d v) → f (u ++ (run ++ v)) ≡ f u ++ (run ++ f v)
  run_stays f boundary u run v all begins =
      boundary u (run ++ v) (begins-expand_run (λ c. f (c ∷ []) ≡ c ∷ []) run v all begins) ∙ ap (λ l. f u ++ l) (stays run all)
    where
      stays : (run : List ℕ) → AllByRecursion (λ c. (f (c ∷ []) ≡ c ∷ []) × Begins (d.list c)) run → f (run ++ v) ≡ run ++ f v
      stays [] all = refl
      stays (c ∷ run) all =
          boundary (c ∷ []) (run ++ v) (begins-expand_run (λ c. f (c ∷ []) ≡ c ∷ []) run v all.1 begins)
          ∙ ap (λ l. l ++ f (run ++ v)) all.0.0 ∙ ap (λ l. c ∷ l) (stays run all.1)

-- a text decomposes to such a beginning if its first character does
pub BeginsWithStarter-expand : (d : Reading) (c : ℕ) (x : List ℕ) → d.list c ≢ [] → BeginsWithStarter d (d.list c) → BeginsWithStarter d (expand d (c ∷ x))
BeginsWithStarter-expand d = begins-expand_cons d (BeginsWithStarter d) (λ s x y h. h)

pub BeginsAtBoundary-expand : (d : Reading) (c : ℕ) (x : List ℕ) → d.list c ≢ [] → BeginsAtBoundary d (d.list c) → BeginsAtBoundary d (expand d (c ∷ x))
BeginsAtBoundary-expand d = begins-expand_cons d (BeginsAtBoundary d) (λ s x y h. h)

-- a run of characters that are their own forms, each with a safe beginning, stays as it is
pub nfd-run : (d : Reading) (u run v : List ℕ) → AllByRecursion (λ c. (nfd d (c ∷ []) ≡ c ∷ []) × BeginsWithStarter d (d.list c)) run
    → BeginsWithStarter d (expand d v) → nfd d (u ++ (run ++ v)) ≡ nfd d u ++ (run ++ nfd d v)
nfd-run d = run_stays d (BeginsWithStarter d) (λ s x y h. h) (nfd d) (nfd-boundary d)

pub composed_form-run : (d : Reading) (u run v : List ℕ) → AllByRecursion (λ c. (composed_form d (c ∷ []) ≡ c ∷ []) × BeginsAtBoundary d (d.list c)) run
    → BeginsAtBoundary d (expand d v) → composed_form d (u ++ (run ++ v)) ≡ composed_form d u ++ (run ++ composed_form d v)
composed_form-run d = run_stays d (BeginsAtBoundary d) (λ s x y h. h) (composed_form d) (composed_form-boundary d)
