-- Composition by starters, and that it keeps the decomposing form.
use Rattle.std.proofs.Common.{◌≡◌, ℕ, ◌⊎◌, true, false, nat_lt, List, [], ◌∷◌, ◌++◌, Option, Some, None, refl, sym, ap, subst, ◌∙◌, arith, inl, inr, append_assoc, append-nil, eq-eqb, ne_eqb}
use Rattle.std.proofs.lemmas.Bool.{cond-true, cond-false, cond_both, cases_eq, and_parts, ltb-true}
use Rattle.std.specs.List.{list_all}
use Rattle.normal_forms.specs.Reading.{Reading, IsStarter, IsMark, IsSecondInNoPair, ReadsAsItself}
use Rattle.normal_forms.specs.Reading.{is_starter}
use Rattle.normal_forms.specs.Decomposition.{expand}
use Rattle.normal_forms.specs.Order.{order}
use Rattle.normal_forms.specs.Forms.{nfd}
use Rattle.normal_forms.specs.CompositionByStarters.{is_above, join, compose_after, compose_by_starters}
use Rattle.normal_forms.specs.Hypotheses.{HasFullLists, HasFaithfulResults}
use Rattle.normal_forms.proofs.forms.ListLemmas.{AllByRecursion-append}
use Rattle.normal_forms.proofs.ordering.OrderLemmas.{AreMarks, AreMarksBelow, order-append_same, order-absorb, order-past_lower, order-order}
use Rattle.normal_forms.proofs.ordering.ExpandLemmas.{AreSelf, expand-append, expand_of_self, AreSelf-nfd}

-- the composing form by starters
unfoldable pub composed_form : Reading → List ℕ → List ℕ
composed_form d x = compose_by_starters d (nfd d x)

pub starter_or_mark : (d : Reading) (c : ℕ) → IsStarter d c ⊎ IsMark d c
starter_or_mark d c = elim (cases_eq (d.class c) 0) [ inl starter ↦ inl starter | inr other ↦ inr (omega arith) ]

pub is_starter-true : (d : Reading) (c : ℕ) → IsStarter d c → is_starter d c ≡ true
is_starter-true d c h = eq-eqb (d.class c) 0 h

pub is_starter-false : (d : Reading) (c : ℕ) → IsMark d c → is_starter d c ≡ false
is_starter-false d c h = ne_eqb (d.class c) 0 (λ e. omega arith)

pub cases_Option : (o : Option ℕ) → (o ≡ None) ⊎ ((r : ℕ) × (o ≡ Some r))
cases_Option None = inl refl
cases_Option (Some r) = inr (r, refl)

pub AreMarks-push : (d : Reading) (p : List ℕ) (c : ℕ) → AreMarks d p → IsMark d c → AreMarks d (p ++ c ∷ [])
unfolding AreMarks
AreMarks-push d p c marks m = AllByRecursion-append (IsMark d) p (c ∷ []) marks (m, tt)

pub AreSelf-push : (d : Reading) (p : List ℕ) (c : ℕ) → AreSelf d p → ReadsAsItself d c → AreSelf d (p ++ c ∷ [])
unfolding AreSelf
AreSelf-push d p c self h = AllByRecursion-append (ReadsAsItself d) p (c ∷ []) self (h, tt)

pub is_above-true : (d : Reading) (p : List ℕ) (c : ℕ) → AreMarks d p → is_above d p c ≡ true → AreMarksBelow d c p
unfolding is_above AreMarks AreMarksBelow
is_above-true d [] c marks h = tt
is_above-true d (m ∷ p) c marks h =
    let parts = and_parts (nat_lt (d.class m) (d.class c)) (list_all (λ b. nat_lt (d.class b) (d.class c)) p) h in
    ((marks.0, ltb-true _ _ parts.0), is_above-true d p c marks.1 parts.1)

pub join-some : (d : Reading) (a : ℕ) (p : List ℕ) (c r : ℕ) → AreMarks d p → join d a p c ≡ Some r → (d.pair a c ≡ Some r) × AreMarksBelow d c p
unfolding join
join-some d a p c r marks h =
    cond_both (is_above d p c) (d.pair a c) None (λ o. o ≡ Some r → (d.pair a c ≡ Some r) × AreMarksBelow d c p)
    (λ above e. (e, is_above-true d p c marks above)) (λ _ e. cc) h

pub join-none : (d : Reading) (a : ℕ) (p : List ℕ) (c : ℕ) → d.pair a c ≡ None → join d a p c ≡ None
unfolding join
join-none d a p c h = cond_both (is_above d p c) (d.pair a c) None (λ o. o ≡ None) (λ _. h) (λ _. refl)

pub compose_after-nil : (d : Reading) (a : ℕ) (p : List ℕ) → compose_after d a p [] ≡ a ∷ p
unfolding compose_after
compose_after-nil d a p = refl

pub compose_after-join : (d : Reading) (a : ℕ) (p : List ℕ) (c r : ℕ) (y : List ℕ) → join d a p c ≡ Some r → compose_after d a p (c ∷ y) ≡ compose_after d r p y
unfolding compose_after
compose_after-join d a p c r y h = rw (h, compose_after)

pub compose_after-starter : (d : Reading) (a : ℕ) (p : List ℕ) (c : ℕ) (y : List ℕ) → join d a p c ≡ None → IsStarter d c → compose_after d a p (c ∷ y) ≡ (a ∷ p) ++ compose_after d c [] y
unfolding compose_after
compose_after-starter d a p c y h s = rw (h, compose_after) (cond-true _ _ _ (is_starter-true d c s))

pub compose_after-mark : (d : Reading) (a : ℕ) (p : List ℕ) (c : ℕ) (y : List ℕ) → join d a p c ≡ None → IsMark d c → compose_after d a p (c ∷ y) ≡ compose_after d a (p ++ c ∷ []) y
unfolding compose_after
compose_after-mark d a p c y h m = rw (h, compose_after) (cond-false _ _ _ (is_starter-false d c m))

pub join-cases : (d : Reading) (a : ℕ) (p : List ℕ) (c : ℕ) → (join d a p c ≡ None) ⊎ ((r : ℕ) × (join d a p c ≡ Some r))
join-cases d a p c = cases_Option (join d a p c)

-- the three ways in which a step of composition goes
pub step_cases : (d : Reading) (a : ℕ) (p : List ℕ) (c : ℕ) (Q : Type 0) → ((r : ℕ) → join d a p c ≡ Some r → Q) → (join d a p c ≡ None → IsStarter d c → Q)
    → (join d a p c ≡ None → IsMark d c → Q) → Q
step_cases d a p c Q joins starts stays =
    elim (join-cases d a p c) [
      | inl none ↦ elim (starter_or_mark d c) [ inl starter ↦ starts none starter | inr mark ↦ stays none mark ]
      | inr some ↦ joins some.0 some.1
    ]

-- the same, for the result of the step
pub compose_after-cases : (d : Reading) (a : ℕ) (p : List ℕ) (c : ℕ) (y : List ℕ) (Q : List ℕ → Type 0) → ((r : ℕ) → join d a p c ≡ Some r → Q (compose_after d r p y))
    → (join d a p c ≡ None → IsStarter d c → Q ((a ∷ p) ++ compose_after d c [] y)) → (join d a p c ≡ None → IsMark d c → Q (compose_after d a (p ++ c ∷ []) y)) → Q (compose_after d a p (c ∷ y))
compose_after-cases d a p c y Q joins starts stays =
    step_cases d a p c (Q (compose_after d a p (c ∷ y)))
    (λ r some. subst Q (sym (compose_after-join d a p c r y some)) (joins r some))
    (λ none starter. subst Q (sym (compose_after-starter d a p c y none starter)) (starts none starter))
    (λ none mark. subst Q (sym (compose_after-mark d a p c y none mark)) (stays none mark))

pub compose_by_starters-nil : (d : Reading) → compose_by_starters d [] ≡ []
unfolding compose_by_starters
compose_by_starters-nil d = refl

pub compose_by_starters-starter : (d : Reading) (c : ℕ) (y : List ℕ) → IsStarter d c → compose_by_starters d (c ∷ y) ≡ compose_after d c [] y
unfolding compose_by_starters
compose_by_starters-starter d c y h = cond-true _ _ _ (is_starter-true d c h)

pub compose_by_starters-mark : (d : Reading) (c : ℕ) (y : List ℕ) → IsMark d c → compose_by_starters d (c ∷ y) ≡ c ∷ compose_by_starters d y
unfolding compose_by_starters
compose_by_starters-mark d c y h = cond-false _ _ _ (is_starter-false d c h)

compose_after-at_starter : (d : Reading) (a : ℕ) (p u : List ℕ) (s : ℕ) (v : List ℕ) → IsStarter d s → IsSecondInNoPair d s
    → compose_after d a p (u ++ s ∷ v) ≡ compose_after d a p u ++ compose_after d s [] v
compose_after-at_starter d a p [] s v h second =
    compose_after-starter d a p s v (join-none d a p s (second a)) h ∙ ap (λ l. l ++ compose_after d s [] v) (sym (compose_after-nil d a p))
compose_after-at_starter d a p (c ∷ u) s v h second =
    compose_after-cases d a p c u (λ l. compose_after d a p (c ∷ (u ++ s ∷ v)) ≡ l ++ compose_after d s [] v)
    (λ r some. compose_after-join d a p c r _ some ∙ compose_after-at_starter d r p u s v h second)
    (λ none starter.
    compose_after-starter d a p c _ none starter ∙ ap (λ l. (a ∷ p) ++ l) (compose_after-at_starter d c [] u s v h second)
    ∙ sym (append_assoc (a ∷ p) (compose_after d c [] u) (compose_after d s [] v)))
    (λ none mark. compose_after-mark d a p c _ none mark ∙ compose_after-at_starter d a (p ++ c ∷ []) u s v h second)

-- nothing is joined across a starter that is second in no pair
pub compose_by_starters-at_starter : (d : Reading) (u : List ℕ) (s : ℕ) (v : List ℕ) → IsStarter d s → IsSecondInNoPair d s
    → compose_by_starters d (u ++ s ∷ v) ≡ compose_by_starters d u ++ compose_by_starters d (s ∷ v)
compose_by_starters-at_starter d [] s v h second = ap (λ l. l ++ compose_by_starters d (s ∷ v)) (sym (compose_by_starters-nil d))
compose_by_starters-at_starter d (c ∷ u) s v h second =
    elim (starter_or_mark d c) [
      | inl starter ↦
          compose_by_starters-starter d c _ starter ∙ compose_after-at_starter d c [] u s v h second
          ∙ ap (λ l. compose_after d c [] u ++ l) (sym (compose_by_starters-starter d s v h))
          ∙ ap (λ l. l ++ compose_by_starters d (s ∷ v)) (sym (compose_by_starters-starter d c u starter))
      | inr mark ↦
          compose_by_starters-mark d c _ mark ∙ ap (λ l. c ∷ l) (compose_by_starters-at_starter d u s v h second)
          ∙ ap (λ l. l ++ compose_by_starters d (s ∷ v)) (sym (compose_by_starters-mark d c u mark))
    ]

pub compose_by_starters-marks : (d : Reading) (p w : List ℕ) → AreMarks d p → compose_by_starters d (p ++ w) ≡ p ++ compose_by_starters d w
unfolding AreMarks
compose_by_starters-marks d [] w marks = refl
compose_by_starters-marks d (m ∷ p) w marks =
    compose_by_starters-mark d m (p ++ w) marks.0 ∙ ap (λ l. m ∷ l) (compose_by_starters-marks d p w marks.1)

-- composition keeps the ordered expansion
pub order-expand-compose_after : (d : Reading) → HasFaithfulResults d → (a : ℕ) (p y : List ℕ) → AreMarks d p → AreSelf d p → AreSelf d y
    → order d (expand d (compose_after d a p y)) ≡ order d (d.list a ++ (p ++ y))
unfolding expand AreMarks AreSelf
order-expand-compose_after d faithful a p [] marks p_self y_self =
    ap (λ l. order d (expand d l)) (compose_after-nil d a p)
    ∙ ap (λ l. order d (d.list a ++ l)) (expand_of_self d p p_self ∙ sym (append-nil p))
order-expand-compose_after d faithful a p (c ∷ y) marks p_self y_self =
    compose_after-cases d a p c y (λ l. order d (expand d l) ≡ order d (d.list a ++ (p ++ c ∷ y)))
    (λ r some.
    let parts = join-some d a p c r marks some in
    order-expand-compose_after d faithful r p y marks p_self y_self.1
    ∙ ap (λ l. order d (l ++ (p ++ y))) (faithful.results a c r parts.0 ∙ ap (λ l. order d (d.list a ++ l)) y_self.0)
    ∙ order-absorb d [] (d.list a ++ c ∷ []) (p ++ y) ∙ ap (order d) (append_assoc (d.list a) (c ∷ []) (p ++ y))
    ∙ order-past_lower d (d.list a) c p y parts.1)
    (λ none starter.
    let rest = compose_after d c [] y in
    let same : order d (expand d rest) ≡ order d (c ∷ y) =
    order-expand-compose_after d faithful c [] y tt tt y_self.1 ∙ ap (λ l. order d (l ++ y)) y_self.0 in
    ap (order d)
    (expand-append d (a ∷ p) rest ∙ append_assoc (d.list a) (expand d p) (expand d rest)
    ∙ ap (λ l. d.list a ++ (l ++ expand d rest)) (expand_of_self d p p_self))
    ∙ order-append_same d (d.list a) _ _ (order-append_same d p _ _ same))
    (λ none mark.
    order-expand-compose_after d faithful a (p ++ c ∷ []) y (AreMarks-push d p c marks mark) (AreSelf-push d p c p_self y_self.0) y_self.1
    ∙ ap (λ l. order d (d.list a ++ l)) (append_assoc p (c ∷ []) y))

pub order-expand-compose : (d : Reading) → HasFaithfulResults d → (y : List ℕ) → AreSelf d y → order d (expand d (compose_by_starters d y)) ≡ order d y
unfolding expand AreMarks AreSelf
order-expand-compose d faithful [] y_self = ap (λ l. order d (expand d l)) (compose_by_starters-nil d)
order-expand-compose d faithful (c ∷ y) y_self =
    elim (starter_or_mark d c) [
      | inl starter ↦
          ap (λ l. order d (expand d l)) (compose_by_starters-starter d c y starter)
          ∙ order-expand-compose_after d faithful c [] y tt tt y_self.1 ∙ ap (λ l. order d (l ++ y)) y_self.0
      | inr mark ↦
          ap (λ l. order d (expand d l)) (compose_by_starters-mark d c y mark)
          ∙ ap (λ l. order d (l ++ expand d (compose_by_starters d y))) y_self.0
          ∙ order-append_same d (c ∷ []) _ _ (order-expand-compose d faithful y y_self.1)
    ]

pub nfd-composed_form : (d : Reading) → HasFullLists d → HasFaithfulResults d → (x : List ℕ) → nfd d (composed_form d x) ≡ nfd d x
unfolding composed_form nfd
nfd-composed_form d full faithful x = order-expand-compose d faithful (nfd d x) (AreSelf-nfd d full x) ∙ order-order d (expand d x)

pub composed_form-composed_form : (d : Reading) → HasFullLists d → HasFaithfulResults d → (x : List ℕ) → composed_form d (composed_form d x) ≡ composed_form d x
unfolding composed_form
composed_form-composed_form d full faithful x = ap (compose_by_starters d) (nfd-composed_form d full faithful x)

pub composed_form-nil : (d : Reading) → composed_form d [] ≡ []
unfolding composed_form nfd order expand compose_by_starters
composed_form-nil d = refl
