-- The laws in the words of the two forms, from the lemmas on the composed form.
use Rattle.std.proofs.Common.{◌≡◌, ℕ, ◌⊎◌, ◌↔◌, true, List, [], ◌∷◌, ◌++◌, All, sym, ap, subst, ◌∙◌}
use Rattle.std.proofs.lemmas.List.Elements.{recursion_from_All}
use Rattle.normal_forms.specs.Reading.{Reading, IsMark}
use Rattle.normal_forms.specs.Decomposition.{expand}
use Rattle.normal_forms.specs.Order.{order}
use Rattle.normal_forms.specs.Composition.{compose}
use Rattle.normal_forms.specs.CompositionByStarters.{is_above, compose_after}
use Rattle.normal_forms.specs.Forms.{Form, Composing, nfd, nfc, normal_form}
use Rattle.normal_forms.specs.Boundary.{BeginsAtBoundary, BeginsWithStarter}
use Rattle.normal_forms.specs.MarkRun.{compose_marks, IsLastBelow}
use Rattle.normal_forms.specs.Hypotheses.{HasFullLists, HasStarterResults, SuitsForm}
use Rattle.normal_forms.proofs.ordering.OrderLemmas.{IsOrdered, AreMarks, IsOrdered-order}
use Rattle.normal_forms.proofs.ordering.ExpandLemmas.{nfd-nfd}
use Rattle.normal_forms.proofs.composing.ComposeLemmas.{composed_form, composed_form-composed_form, nfd-composed_form}
use Rattle.normal_forms.proofs.composing.VisitLemmas.{compose_is_by_starters, pairs_for, normal_form-composed, pairs_for-full, pairs_for-faithful}
use Rattle.normal_forms.proofs.boundaries.BoundaryLemmas.{composed_form-boundary, composed_form-run, nfd-run}
use Rattle.normal_forms.proofs.composing.CompositionOfMarks.{compose_after-marks, is_above-ordered}

pub normal_form-normal_form : (d : Reading) (form : Form) → SuitsForm d form → (x : List ℕ) → normal_form d form (normal_form d form x) ≡ normal_form d form x
normal_form-normal_form d form suits x =
    ap (normal_form d form) (normal_form-composed d form suits x) ∙ normal_form-composed d form suits (composed_form (pairs_for d form) x)
    ∙ composed_form-composed_form (pairs_for d form) (pairs_for-full d form suits) (pairs_for-faithful d form suits) x
    ∙ sym (normal_form-composed d form suits x)

pub nfc-composed_form : (d : Reading) → HasStarterResults d → (x : List ℕ) → nfc d x ≡ composed_form d x
unfolding nfc composed_form
nfc-composed_form d starters x = compose_is_by_starters d starters (nfd d x)

pub nfd-nfc : (d : Reading) → SuitsForm d Composing → (x : List ℕ) → nfd d (nfc d x) ≡ nfd d x
nfd-nfc d suits x = ap (nfd d) (nfc-composed_form d suits.1 x) ∙ nfd-composed_form d suits.0 suits.2 x

pub nfc-nfd : (d : Reading) → HasFullLists d → (x : List ℕ) → nfc d (nfd d x) ≡ nfc d x
unfolding nfc
nfc-nfd d full x = ap (compose d) (nfd-nfd d full x)

pub nfc_equal_iff : (d : Reading) → SuitsForm d Composing → (x y : List ℕ) → (nfc d x ≡ nfc d y) ↔ (nfd d x ≡ nfd d y)
nfc_equal_iff d suits x y = (
  λ same. sym (nfd-nfc d suits x) ∙ ap (nfd d) same ∙ nfd-nfc d suits y,
  λ same. sym (nfc-nfd d suits.0 x) ∙ ap (nfc d) same ∙ nfc-nfd d suits.0 y,
)

pub nfc-boundary : (d : Reading) → HasStarterResults d → (u v : List ℕ) → BeginsAtBoundary d (expand d v) → nfc d (u ++ v) ≡ nfc d u ++ nfc d v
nfc-boundary d starters u v safe =
    nfc-composed_form d starters (u ++ v) ∙ composed_form-boundary d u v safe
    ∙ sym (ap (λ front. front ++ nfc d v) (nfc-composed_form d starters u) ∙ ap (λ rest. composed_form d u ++ rest) (nfc-composed_form d starters v))

pub nfd_run-passes : (d : Reading) (u run v : List ℕ) → All (λ c. (nfd d (c ∷ []) ≡ c ∷ []) × BeginsWithStarter d (d.list c)) run → BeginsWithStarter d (expand d v)
    → nfd d (u ++ (run ++ v)) ≡ nfd d u ++ (run ++ nfd d v)
nfd_run-passes d u run v passing safe =
    nfd-run d u run v (recursion_from_All (λ c. (nfd d (c ∷ []) ≡ c ∷ []) × BeginsWithStarter d (d.list c)) run passing) safe

pub nfc_run-passes : (d : Reading) → HasStarterResults d → (u run v : List ℕ) → All (λ c. (nfc d (c ∷ []) ≡ c ∷ []) × BeginsAtBoundary d (d.list c)) run
    → BeginsAtBoundary d (expand d v) → nfc d (u ++ (run ++ v)) ≡ nfc d u ++ (run ++ nfc d v)
nfc_run-passes d starters u run v passing safe =
    let composed : All (λ c. (composed_form d (c ∷ []) ≡ c ∷ []) × BeginsAtBoundary d (d.list c)) run =
    λ k c below. let here = passing k c below in (sym (nfc-composed_form d starters _) ∙ here.0, here.1) in
    nfc-composed_form d starters (u ++ (run ++ v))
    ∙ composed_form-run d u run v (recursion_from_All (λ c. (composed_form d (c ∷ []) ≡ c ∷ []) × BeginsAtBoundary d (d.list c)) run composed) safe
    ∙ sym (ap (λ front. front ++ (run ++ nfc d v)) (nfc-composed_form d starters u) ∙ ap (λ rest. composed_form d u ++ (run ++ rest)) (nfc-composed_form d starters v))

pub compose_over_marks : (d : Reading) (a : ℕ) (waiting marks rest : List ℕ) → All (IsMark d) marks
    → compose_after d a waiting (marks ++ rest) ≡ compose_after d (compose_marks d a waiting marks).0 (compose_marks d a waiting marks).1 rest
unfolding AreMarks
compose_over_marks d a waiting marks rest are = compose_after-marks d a waiting marks rest (recursion_from_All (IsMark d) marks are)

pub last_decides : (d : Reading) (waiting : List ℕ) (c : ℕ) → All (IsMark d) waiting → order d waiting ≡ waiting → (is_above d waiting c ≡ true) ↔ ((waiting ≡ []) ⊎ IsLastBelow d waiting c)
unfolding AreMarks
last_decides d waiting c are ordered =
    is_above-ordered d waiting c (recursion_from_All (IsMark d) waiting are) (subst (IsOrdered d) ordered (IsOrdered-order d waiting))
