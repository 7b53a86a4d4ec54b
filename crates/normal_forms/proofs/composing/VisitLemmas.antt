-- The composition by visits to a working list is the composition by starters; without pairs both change nothing.
use Rattle.std.proofs.Common.{◌≡◌, ℕ, true, not, ◌&&◌, if◌then◌else◌, List, [], ◌∷◌, ◌++◌, Some, None, refl, sym, ap, ◌∙◌, inl, inr, append_assoc, append-nil}
use Rattle.std.proofs.lemmas.Bool.{lt-ltb, le-ltb, lt-leb, le-leb, cases_lt, or_left, or_right}
use Rattle.normal_forms.specs.Reading.{Reading, IsStarter, IsMark, IsSecondInNoPair}
use Rattle.normal_forms.specs.Decomposition.{expand}
use Rattle.normal_forms.specs.Order.{is_reorderable, insert, order}
use Rattle.normal_forms.specs.Composition.{is_blocked, joined, visit, compose_from, compose}
use Rattle.normal_forms.specs.CompositionByStarters.{is_above, join, compose_after, compose_by_starters}
use Rattle.normal_forms.specs.Forms.{Form, Decomposing, Composing, nfd, nfc, normal_form}
use Rattle.normal_forms.specs.Hypotheses.{HasStarterResults, HasFullLists, HasFaithfulResults, HasNonemptyLists, SuitsForm}
use Rattle.normal_forms.proofs.ordering.OrderLemmas.{AreMarks}
use Rattle.normal_forms.proofs.composing.ComposeLemmas.{composed_form, starter_or_mark, is_starter-true, is_starter-false, AreMarks-push}
use Rattle.normal_forms.proofs.composing.ComposeLemmas.{join-some, join-none, compose_after-nil, compose_after-cases, compose_after-starter, compose_after-mark}
use Rattle.normal_forms.proofs.composing.ComposeLemmas.{compose_by_starters-nil, compose_by_starters-starter, compose_by_starters-mark}

is_blocked_by_starter : (d : Reading) (out : List ℕ) (a : ℕ) (p : List ℕ) (c : ℕ) → IsStarter d a → is_blocked d (out ++ a ∷ p) c ≡ true
unfolding is_blocked
is_blocked_by_starter d [] a p c h = or_left _ _ (or_left _ _ (is_starter-true d a h))
is_blocked_by_starter d (b ∷ out) a p c h = or_right _ _ (is_blocked_by_starter d out a p c h)

not-is_blocked : (d : Reading) (p : List ℕ) (c : ℕ) → AreMarks d p → not (is_blocked d p c) ≡ is_above d p c
unfolding is_blocked is_above AreMarks
not-is_blocked d [] c marks = refl
not-is_blocked d (m ∷ p) c marks =
    let rest = not-is_blocked d p c marks.1 in
    elim (cases_lt (d.class m) (d.class c)) [
      | inl low ↦
          simp (is_starter-false d m marks.0, lt-leb (d.class c) (d.class m) low, lt-ltb (d.class m) (d.class c) low) rest
      | inr high ↦
          simp (is_starter-false d m marks.0, le-leb (d.class c) (d.class m) high, le-ltb (d.class m) (d.class c) high)
    ]

joined-mark : (d : Reading) (m : ℕ) (p : List ℕ) (c : ℕ) → IsMark d m → joined d m p c ≡ None
unfolding joined
joined-mark d m p c h = ap (λ b. if b && not (is_blocked d p c) then d.pair m c else None) (is_starter-false d m h)

joined-before_starter : (d : Reading) (b : ℕ) (out : List ℕ) (a : ℕ) (p : List ℕ) (c : ℕ) → IsStarter d a → joined d b (out ++ a ∷ p) c ≡ None
unfolding joined
joined-before_starter d b out a p c h =
    elim (starter_or_mark d b) [
      | inl starter ↦ simp (is_starter-true d b starter, is_blocked_by_starter d out a p c h)
      | inr mark ↦ simp (is_starter-false d b mark)
    ]

joined-at_starter : (d : Reading) (a : ℕ) (p : List ℕ) (c : ℕ) → IsStarter d a → AreMarks d p → joined d a p c ≡ join d a p c
unfolding joined join
joined-at_starter d a p c h marks =
    ap (λ b. if b && not (is_blocked d p c) then d.pair a c else None) (is_starter-true d a h)
    ∙ ap (λ b. if b then d.pair a c else None) (not-is_blocked d p c marks)

visit-joined : (d : Reading) (a : ℕ) (p : List ℕ) (c r : ℕ) → joined d a p c ≡ Some r → visit d (a ∷ p) c ≡ r ∷ p
unfolding visit
visit-joined d a p c r h = rw (h, visit)

visit-past : (d : Reading) (a : ℕ) (p : List ℕ) (c : ℕ) → joined d a p c ≡ None → visit d (a ∷ p) c ≡ a ∷ visit d p c
unfolding visit
visit-past d a p c h = rw (h, visit)

visit-marks : (d : Reading) (p : List ℕ) (c : ℕ) → AreMarks d p → visit d p c ≡ p ++ c ∷ []
unfolding visit AreMarks
visit-marks d [] c marks = refl
visit-marks d (m ∷ p) c marks = visit-past d m p c (joined-mark d m p c marks.0) ∙ ap (λ l. m ∷ l) (visit-marks d p c marks.1)

visit-last_starter : (d : Reading) (out : List ℕ) (a : ℕ) (p : List ℕ) (c : ℕ) → IsStarter d a → visit d (out ++ a ∷ p) c ≡ out ++ visit d (a ∷ p) c
visit-last_starter d [] a p c h = refl
visit-last_starter d (b ∷ out) a p c h =
    visit-past d b (out ++ a ∷ p) c (joined-before_starter d b out a p c h) ∙ ap (λ l. b ∷ l) (visit-last_starter d out a p c h)

compose_from-starter : (d : Reading) → HasStarterResults d → (out : List ℕ) (a : ℕ) (p y : List ℕ) → IsStarter d a → AreMarks d p → compose_from d (out ++ a ∷ p) y ≡ out ++ compose_after d a p y
unfolding compose_from AreMarks
compose_from-starter d starters out a p [] h marks = ap (λ l. out ++ l) (sym (compose_after-nil d a p))
compose_from-starter d starters out a p (c ∷ y) h marks =
    let same = joined-at_starter d a p c h marks in
    let past : join d a p c ≡ None → visit d (out ++ a ∷ p) c ≡ out ++ (a ∷ (p ++ c ∷ [])) =
    λ none. visit-last_starter d out a p c h ∙ ap (λ l. out ++ l) (visit-past d a p c (same ∙ none) ∙ ap (λ l. a ∷ l) (visit-marks d p c marks)) in
    compose_after-cases d a p c y (λ l. compose_from d (visit d (out ++ a ∷ p) c) y ≡ out ++ l)
    (λ r some.
    ap (λ l. compose_from d l y) (visit-last_starter d out a p c h ∙ ap (λ l. out ++ l) (visit-joined d a p c r (same ∙ some)))
    ∙ compose_from-starter d starters out r p y (starters.starters a c r (join-some d a p c r marks some).0) marks)
    (λ none starter.
    ap (λ l. compose_from d l y) (past none ∙ sym (append_assoc out (a ∷ p) (c ∷ [])))
    ∙ compose_from-starter d starters (out ++ a ∷ p) c [] y starter tt ∙ append_assoc out (a ∷ p) (compose_after d c [] y))
    (λ none mark.
    ap (λ l. compose_from d l y) (past none) ∙ compose_from-starter d starters out a (p ++ c ∷ []) y h (AreMarks-push d p c marks mark))

compose_from-marks : (d : Reading) → HasStarterResults d → (p y : List ℕ) → AreMarks d p → compose_from d p y ≡ p ++ compose_by_starters d y
unfolding compose_from AreMarks
compose_from-marks d starters p [] marks = sym (append-nil p) ∙ ap (λ l. p ++ l) (sym (compose_by_starters-nil d))
compose_from-marks d starters p (c ∷ y) marks =
    ap (λ l. compose_from d l y) (visit-marks d p c marks)
    ∙ elim (starter_or_mark d c) [
      | inl starter ↦
          compose_from-starter d starters p c [] y starter tt ∙ ap (λ l. p ++ l) (sym (compose_by_starters-starter d c y starter))
      | inr mark ↦
          compose_from-marks d starters (p ++ c ∷ []) y (AreMarks-push d p c marks mark)
          ∙ append_assoc p (c ∷ []) (compose_by_starters d y) ∙ ap (λ l. p ++ l) (sym (compose_by_starters-mark d c y mark))
    ]

pub compose_is_by_starters : (d : Reading) → HasStarterResults d → (x : List ℕ) → compose d x ≡ compose_by_starters d x
unfolding compose AreMarks
compose_is_by_starters d starters x = compose_from-marks d starters [] x tt

compose_after-no_pairs : (d : Reading) → ((c : ℕ) → IsSecondInNoPair d c) → (a : ℕ) (p y : List ℕ) → compose_after d a p y ≡ (a ∷ p) ++ y
compose_after-no_pairs d none a p [] = compose_after-nil d a p ∙ sym (append-nil (a ∷ p))
compose_after-no_pairs d none a p (c ∷ y) =
    let apart = join-none d a p c (none c a) in
    elim (starter_or_mark d c) [
      | inl starter ↦ compose_after-starter d a p c y apart starter ∙ ap (λ l. (a ∷ p) ++ l) (compose_after-no_pairs d none c [] y)
      | inr mark ↦
          compose_after-mark d a p c y apart mark ∙ compose_after-no_pairs d none a (p ++ c ∷ []) y ∙ append_assoc (a ∷ p) (c ∷ []) y
    ]

-- if no pair joins, composition changes nothing
pub compose_by_starters-no_pairs : (d : Reading) → ((c : ℕ) → IsSecondInNoPair d c) → (x : List ℕ) → compose_by_starters d x ≡ x
compose_by_starters-no_pairs d none [] = compose_by_starters-nil d
compose_by_starters-no_pairs d none (c ∷ x) =
    elim (starter_or_mark d c) [
      | inl starter ↦ compose_by_starters-starter d c x starter ∙ compose_after-no_pairs d none c [] x
      | inr mark ↦ compose_by_starters-mark d c x mark ∙ ap (λ l. c ∷ l) (compose_by_starters-no_pairs d none x)
    ]

-- the reading with the pairs that the form composes: none for the decomposing form
unfoldable pub pairs_for : Reading → Form → Reading
pairs_for d Decomposing = record { list = d.list; class = d.class; pair = λ a c. None }
pairs_for d Composing = d

no_pairs : (d : Reading) (c : ℕ) → IsSecondInNoPair (pairs_for d Decomposing) c
unfolding pairs_for
no_pairs d c a = refl

pub pairs_for-nfd : (d : Reading) (form : Form) (x : List ℕ) → nfd (pairs_for d form) x ≡ nfd d x
unfolding pairs_for nfd order insert is_reorderable expand
pairs_for-nfd d Decomposing x = refl
pairs_for-nfd d Composing x = refl

-- each form is the composed form over the pairs that it composes
pub normal_form-decomposing : (d : Reading) (x : List ℕ) → normal_form d Decomposing x ≡ composed_form (pairs_for d Decomposing) x
unfolding normal_form composed_form
normal_form-decomposing d x =
    sym (pairs_for-nfd d Decomposing x) ∙ sym (compose_by_starters-no_pairs (pairs_for d Decomposing) (no_pairs d) (nfd (pairs_for d Decomposing) x))

pub normal_form-composing : (d : Reading) → HasStarterResults d → (x : List ℕ) → normal_form d Composing x ≡ composed_form (pairs_for d Composing) x
unfolding normal_form nfc composed_form pairs_for
normal_form-composing d starters x = compose_is_by_starters d starters (nfd d x)

pub normal_form-composed : (d : Reading) (form : Form) → SuitsForm d form → (x : List ℕ) → normal_form d form x ≡ composed_form (pairs_for d form) x
normal_form-composed d Decomposing suits x = normal_form-decomposing d x
normal_form-composed d Composing suits x = normal_form-composing d suits.1 x

pub pairs_for-full : (d : Reading) (form : Form) → SuitsForm d form → HasFullLists (pairs_for d form)
unfolding pairs_for
pairs_for-full d Decomposing suits = record { members = suits.members }
pairs_for-full d Composing suits = suits.0

pub pairs_for-faithful : (d : Reading) (form : Form) → SuitsForm d form → HasFaithfulResults (pairs_for d form)
unfolding pairs_for
pairs_for-faithful d Decomposing suits = record { results = λ a c r h. cc }
pairs_for-faithful d Composing suits = suits.2

pub pairs_for-are_nonempty : (d : Reading) (form : Form) → HasNonemptyLists d → HasNonemptyLists (pairs_for d form)
unfolding pairs_for
pairs_for-are_nonempty d Decomposing are_nonempty = record { are_nonempty = are_nonempty.are_nonempty }
pairs_for-are_nonempty d Composing are_nonempty = are_nonempty
