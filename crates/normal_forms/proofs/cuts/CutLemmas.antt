-- The cut: every common front of a text and its form may stay, and nothing longer.
use Rattle.std.proofs.Common.{◌≡◌, ◌≢◌, ℕ, List, [], ◌∷◌, ◌++◌, length, inl, inr, refl, sym, ap, subst, ◌∙◌, arith, append_assoc, append-nil, length-append}
use Rattle.std.proofs.lemmas.Bool.{cases_lt}
use Rattle.std.proofs.lemmas.List.{nil_from_length}
use Rattle.normal_forms.specs.Reading.{Reading, IsStarter, IsMark, ReadsAsItself}
use Rattle.normal_forms.specs.Decomposition.{expand}
use Rattle.normal_forms.specs.Order.{order}
use Rattle.normal_forms.specs.Forms.{nfd}
use Rattle.normal_forms.specs.CompositionByStarters.{compose_after, compose_by_starters}
use Rattle.normal_forms.specs.Hypotheses.{HasFullLists, HasFaithfulResults, HasNonemptyLists}
use Rattle.normal_forms.proofs.forms.ListLemmas.{split_append, AllByRecursion-append, AllByRecursion-front, AllByRecursion-rest}
use Rattle.normal_forms.proofs.ordering.OrderLemmas.{AreMarks, IsOrdered, order-nil, order_of_ordered, order-append_same, order-append_cancel, IsOrdered-order}
use Rattle.normal_forms.proofs.ordering.OrderLemmas.{IsOrdered-rest, IsOrdered-tail, IsOrdered-remove, length-order}
use Rattle.normal_forms.proofs.ordering.ExpandLemmas.{AreSelf, expand-append, expand_of_self, AreSelf-nfd, nfd-append}
use Rattle.normal_forms.proofs.composing.ComposeLemmas.{composed_form, join-some, compose_after-nil, compose_after-join, compose_after-starter}
use Rattle.normal_forms.proofs.composing.ComposeLemmas.{compose_after-mark, compose_by_starters-nil, compose_by_starters-starter, compose_by_starters-mark}
use Rattle.normal_forms.proofs.composing.ComposeLemmas.{compose_by_starters-marks, order-expand-compose, nfd-composed_form, composed_form-nil, AreMarks-push}
use Rattle.normal_forms.proofs.composing.ComposeLemmas.{step_cases}

-- ---- parts of a text of marks, and of one that reads as itself

AreMarks-rest : (d : Reading) (u v : List ℕ) → AreMarks d (u ++ v) → AreMarks d v
unfolding AreMarks
AreMarks-rest d u v marks = AllByRecursion-rest (IsMark d) u v marks

AreMarks-nil : (d : Reading) → AreMarks d []
unfolding AreMarks
AreMarks-nil d = tt

AreSelf-front : (d : Reading) (u v : List ℕ) → AreSelf d (u ++ v) → AreSelf d u
unfolding AreSelf
AreSelf-front d u v self = AllByRecursion-front (ReadsAsItself d) u v self

AreSelf-rest : (d : Reading) (u v : List ℕ) → AreSelf d (u ++ v) → AreSelf d v
unfolding AreSelf
AreSelf-rest d u v self = AllByRecursion-rest (ReadsAsItself d) u v self

AreSelf-nil : (d : Reading) → AreSelf d []
unfolding AreSelf
AreSelf-nil d = tt

-- one of several such characters may be left out
AreSelf-remove : (d : Reading) (p : List ℕ) (c : ℕ) (y : List ℕ) → AreSelf d (p ++ c ∷ y) → AreSelf d (p ++ y)
unfolding AreSelf
AreSelf-remove d p c y self =
    AllByRecursion-append (ReadsAsItself d) p y (AreSelf-front d p (c ∷ y) self) (AreSelf-rest d p (c ∷ y) self).1

-- ---- the decomposing form

IsOrdered-nfd : (d : Reading) (x : List ℕ) → IsOrdered d (nfd d x)
unfolding nfd
IsOrdered-nfd d x = IsOrdered-order d (expand d x)

nfd-nil : (d : Reading) → nfd d [] ≡ []
unfolding nfd
nfd-nil d = ap (order d) (expand_of_self d [] (AreSelf-nil d)) ∙ order-nil d

pub length-nfd : (d : Reading) (x : List ℕ) → length (nfd d x) ≡ length (expand d x)
unfolding nfd
length-nfd d x = length-order d (expand d x)

-- a common front cancels
nfd_cancel : (d : Reading) (p r s : List ℕ) → nfd d (p ++ r) ≡ nfd d (p ++ s) → nfd d r ≡ nfd d s
unfolding nfd
nfd_cancel d p r s e =
    order-append_cancel d (nfd d p) (expand d r) (expand d s) (sym (nfd-append d p r) ∙ e ∙ nfd-append d p s)

composed_form-is : (d : Reading) (x : List ℕ) → composed_form d x ≡ compose_by_starters d (nfd d x)
unfolding composed_form
composed_form-is d x = refl

composed_form-by_nfd : (d : Reading) (r s : List ℕ) → nfd d r ≡ nfd d s → composed_form d r ≡ composed_form d s
unfolding composed_form
composed_form-by_nfd d r s e = ap (compose_by_starters d) e

pub expand-empty : (d : Reading) → HasNonemptyLists d → (x : List ℕ) → length (expand d x) ≡ 0 → x ≡ []
unfolding expand
expand-empty d are_nonempty [] e = refl
expand-empty d are_nonempty (c ∷ x) e =
    let none : d.list c ≡ [] = nil_from_length (d.list c) (omega (arith, length-append (d.list c) (expand d x))) in
    absurd (are_nonempty.are_nonempty c none)

-- ---- suffixes

-- what a text in order composes to, after marks that came before it, is normalized
marks_before_composed : (d : Reading) (t y z : List ℕ) → AreMarks d t → AreSelf d (t ++ y) → IsOrdered d (t ++ y) → order d (expand d z) ≡ order d y
    → compose_by_starters d y ≡ z → composed_form d (t ++ z) ≡ t ++ z
unfolding composed_form nfd
marks_before_composed d t y z marks self ordered expands composes =
    let expanded : expand d (t ++ z) ≡ t ++ expand d z =
    expand-append d t z ∙ ap (λ l. l ++ expand d z) (expand_of_self d t (AreSelf-front d t y self)) in
    let form : order d (expand d (t ++ z)) ≡ t ++ y =
    ap (order d) expanded ∙ order-append_same d t (expand d z) y expands ∙ order_of_ordered d (t ++ y) ordered in
    ap (compose_by_starters d) form ∙ compose_by_starters-marks d t y marks ∙ ap (λ l. t ++ l) composes

-- marks in order that read as themselves are normalized
composed_form_of_marks : (d : Reading) (s : List ℕ) → AreMarks d s → AreSelf d s → IsOrdered d s → composed_form d s ≡ s
composed_form_of_marks d s marks self ordered =
    let whole : s ++ [] ≡ s = append-nil s in
    let form =
    marks_before_composed d s [] [] marks (subst (AreSelf d) (sym whole) self) (subst (IsOrdered d) (sym whole) ordered)
    (ap (order d) (expand_of_self d [] (AreSelf-nil d))) (compose_by_starters-nil d) in
    subst (λ l. composed_form d l ≡ l) whole form

-- what a starter and the rest compose to, after marks that came before it, is normalized
marks_before_starter : (d : Reading) → HasFaithfulResults d → (t : List ℕ) (c : ℕ) (y : List ℕ) → AreMarks d t → IsStarter d c → AreSelf d (t ++ c ∷ y)
    → IsOrdered d (t ++ c ∷ y) → composed_form d (t ++ compose_after d c [] y) ≡ t ++ compose_after d c [] y
marks_before_starter d faithful t c y marks starter self ordered =
    let rest : AreSelf d (c ∷ y) = AreSelf-rest d t (c ∷ y) self in
    let composes = compose_by_starters-starter d c y starter in
    marks_before_composed d t (c ∷ y) (compose_after d c [] y) marks self ordered
    (ap (λ l. order d (expand d l)) (sym composes) ∙ order-expand-compose d faithful (c ∷ y) rest) composes

-- every suffix of what a starter, its marks and the rest compose to is normalized
pub suffix_of_compose_after : (d : Reading) → HasFaithfulResults d → (a : ℕ) (p y : List ℕ) → AreMarks d p → AreSelf d (p ++ y) → IsOrdered d (p ++ y)
    → (q s : List ℕ) → compose_after d a p y ≡ q ++ s → q ≢ [] → composed_form d s ≡ s
suffix_of_compose_after d faithful a p y marks self ordered [] s e are_nonempty = absurd (are_nonempty refl)
suffix_of_compose_after d faithful a p [] marks self ordered (x ∷ q) s e are_nonempty =
    let parts : p ≡ q ++ s = (let whole = sym (compose_after-nil d a p) ∙ e in cc) in
    let all : p ++ [] ≡ q ++ s = append-nil p ∙ parts in
    composed_form_of_marks d s (AreMarks-rest d q s (subst (AreMarks d) parts marks))
    (AreSelf-rest d q s (subst (AreSelf d) all self)) (IsOrdered-rest d q s (subst (IsOrdered d) all ordered))
suffix_of_compose_after d faithful a p (c ∷ y) marks self ordered (x ∷ q) s e are_nonempty =
    step_cases d a p c (composed_form d s ≡ s)
    (λ r some.
    let below = (join-some d a p c r marks some).1 in
    suffix_of_compose_after d faithful r p y marks (AreSelf-remove d p c y self) (IsOrdered-remove d p c y below ordered) (x ∷ q) s
    (sym (compose_after-join d a p c r y some) ∙ e) are_nonempty)
    (λ none starter.
    let z : List ℕ = compose_after d c [] y in
    let whole = sym (compose_after-starter d a p c y none starter) ∙ e in
    let parts : p ++ z ≡ q ++ s = cc in
    let rest_self : AreSelf d (c ∷ y) = AreSelf-rest d p (c ∷ y) self in
    let rest_ordered : IsOrdered d (c ∷ y) = IsOrdered-rest d p (c ∷ y) ordered in
    elim (split_append p z q s parts) [
      | inl within ↦
          let all : p ++ c ∷ y ≡ q ++ (within.0 ++ c ∷ y) =
          ap (λ l. l ++ c ∷ y) within.1 ∙ append_assoc q within.0 (c ∷ y) in
          subst (λ l. composed_form d l ≡ l) (sym within.2)
          (marks_before_starter d faithful within.0 c y (AreMarks-rest d q within.0 (subst (AreMarks d) within.1 marks)) starter
          (AreSelf-rest d q (within.0 ++ c ∷ y) (subst (AreSelf d) all self))
          (IsOrdered-rest d q (within.0 ++ c ∷ y) (subst (IsOrdered d) all ordered)))
      | inr past ↦
          elim past.0 as (λ w. z ≡ w ++ s → composed_form d s ≡ s) [
            | [] ↦
                λ k.
                subst (λ l. composed_form d l ≡ l) k
                (marks_before_starter d faithful [] c y (AreMarks-nil d) starter rest_self rest_ordered)
            | b ∷ w ↦
                λ k.
                suffix_of_compose_after d faithful c [] y (AreMarks-nil d) (AreSelf-remove d [] c y rest_self)
                (IsOrdered-tail d c y rest_ordered) (b ∷ w) s k (λ f. cc)
          ] past.2
    ])
    (λ none mark.
    let all : (p ++ c ∷ []) ++ y ≡ p ++ c ∷ y = append_assoc p (c ∷ []) y in
    suffix_of_compose_after d faithful a (p ++ c ∷ []) y (AreMarks-push d p c marks mark) (subst (AreSelf d) (sym all) self)
    (subst (IsOrdered d) (sym all) ordered) (x ∷ q) s (sym (compose_after-mark d a p c y none mark) ∙ e) are_nonempty)

pub suffix_of_compose : (d : Reading) → HasFaithfulResults d → (y : List ℕ) → AreSelf d y → IsOrdered d y → (q s : List ℕ) → compose_by_starters d y ≡ q ++ s → composed_form d s ≡ s
suffix_of_compose d faithful y self ordered [] s e =
    subst (λ l. composed_form d l ≡ l) e
    (marks_before_composed d [] y (compose_by_starters d y) (AreMarks-nil d) self ordered (order-expand-compose d faithful y self) refl)
suffix_of_compose d faithful [] self ordered (x ∷ q) s e = let whole = sym (compose_by_starters-nil d) ∙ e in cc
suffix_of_compose d faithful (c ∷ y) self ordered (x ∷ q) s e =
    elim (cases_lt 0 (d.class c)) [
      | inl mark ↦
          let whole = sym (compose_by_starters-mark d c y mark) ∙ e in
          suffix_of_compose d faithful y (AreSelf-remove d [] c y self) (IsOrdered-tail d c y ordered) q s (cc)
      | inr low ↦
          let starter : IsStarter d c = omega arith in
          suffix_of_compose_after d faithful c [] y (AreMarks-nil d) (AreSelf-remove d [] c y self) (IsOrdered-tail d c y ordered)
          (x ∷ q) s (sym (compose_by_starters-starter d c y starter) ∙ e) (λ f. cc)
    ]

-- every suffix of a form is normalized
pub suffix_of_form : (d : Reading) → HasFullLists d → HasFaithfulResults d → (x q s : List ℕ) → composed_form d x ≡ q ++ s → composed_form d s ≡ s
suffix_of_form d full faithful x q s e =
    suffix_of_compose d faithful (nfd d x) (AreSelf-nfd d full x) (IsOrdered-nfd d x) q s (sym (composed_form-is d x) ∙ e)

-- ---- common fronts

-- after a common front of a text and its form comes the form of the rest
pub rest_of_common_front : (d : Reading) → HasFullLists d → HasFaithfulResults d → (p r s : List ℕ) → composed_form d (p ++ r) ≡ p ++ s → composed_form d r ≡ s
rest_of_common_front d full faithful p r s e =
    let whole : nfd d (p ++ r) ≡ nfd d (p ++ s) = sym (nfd-composed_form d full faithful (p ++ r)) ∙ ap (nfd d) e in
    composed_form-by_nfd d r s (nfd_cancel d p r s whole) ∙ suffix_of_form d full faithful (p ++ r) p s e

-- a text that is a front of its form is its form
pub front_of_form : (d : Reading) → HasFullLists d → HasFaithfulResults d → (x v : List ℕ) → composed_form d x ≡ x ++ v → v ≡ []
front_of_form d full faithful x v e =
    sym (rest_of_common_front d full faithful x [] v (ap (composed_form d) (append-nil x) ∙ e)) ∙ composed_form-nil d

-- no text but the empty one has an empty form
pub composed_form-empty : (d : Reading) → HasFullLists d → HasFaithfulResults d → HasNonemptyLists d → (r : List ℕ) → composed_form d r ≡ [] → r ≡ []
composed_form-empty d full faithful are_nonempty r e =
    expand-empty d are_nonempty r (sym (length-nfd d r) ∙ ap length (sym (nfd-composed_form d full faithful r) ∙ ap (nfd d) e ∙ nfd-nil d))

-- a front of a text whose form is a front of the text is normalized
pub form_of_offered_front : (d : Reading) → HasFullLists d → HasFaithfulResults d → HasNonemptyLists d → (u v w : List ℕ) → u ++ v ≡ composed_form d u ++ w → composed_form d u ≡ u
form_of_offered_front d full faithful are_nonempty u v w e =
    elim (split_append u v (composed_form d u) w e) [
      | inl within ↦
          let form : List ℕ = composed_form d u in
          let rest = rest_of_common_front d full faithful form within.0 [] (ap (composed_form d) (sym within.1) ∙ sym (append-nil form)) in
          let none = composed_form-empty d full faithful are_nonempty within.0 rest in
          sym (within.1 ∙ ap (λ l. form ++ l) none ∙ append-nil form)
      | inr past ↦
          past.1 ∙ ap (λ l. u ++ l) (front_of_form d full faithful u past.0 past.1) ∙ append-nil u
    ]
