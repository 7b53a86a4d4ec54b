-- Composition of a starter with a run of marks, and the test that a mark is not blocked by the marks that stay.
use Rattle.std.proofs.Common.{◌≡◌, ℕ, ◌≤◌, ◌⊎◌, ◌↔◌, true, ◌&&◌, nat_lt, List, [], ◌∷◌, ◌++◌, Some, None, refl, sym, ap, subst, ◌∙◌, arith, inl, inr, append_assoc, append-nil}
use Rattle.std.proofs.Math.Bool.{and-true}
use Rattle.std.proofs.lemmas.Bool.{cases_Bool, cases_lt, ltb-true, lt-ltb, le-ltb, and_right}
use Rattle.normal_forms.specs.Reading.{Reading, IsMark}
use Rattle.normal_forms.specs.Order.{is_reorderable, insert}
use Rattle.normal_forms.specs.CompositionByStarters.{is_above, join, compose_after}
use Rattle.normal_forms.specs.MarkRun.{compose_marks, IsLastBelow}
use Rattle.normal_forms.proofs.forms.ListLemmas.{AllByRecursion-append, AllByRecursion-front, AllByRecursion-rest}
use Rattle.normal_forms.proofs.ordering.OrderLemmas.{AreMarks, IsOrdered, IsOrdered-remove, IsOrdered-head, IsOrdered-tail, is_reorderable-true, is_reorderable-false, insert-past}
use Rattle.normal_forms.proofs.composing.ComposeLemmas.{join-some, join-cases, compose_after-join, compose_after-mark}

pub compose_marks-nil : (d : Reading) (a : ℕ) (p : List ℕ) → compose_marks d a p [] ≡ (a, p)
unfolding compose_marks
compose_marks-nil d a p = refl

pub compose_marks-join : (d : Reading) (a : ℕ) (p : List ℕ) (m r : ℕ) (ms : List ℕ) → join d a p m ≡ Some r → compose_marks d a p (m ∷ ms) ≡ compose_marks d r p ms
unfolding compose_marks
compose_marks-join d a p m r ms h = rw (h, compose_marks)

pub compose_marks-stay : (d : Reading) (a : ℕ) (p : List ℕ) (m : ℕ) (ms : List ℕ) → join d a p m ≡ None → compose_marks d a p (m ∷ ms) ≡ compose_marks d a (p ++ m ∷ []) ms
unfolding compose_marks
compose_marks-stay d a p m ms h = rw (h, compose_marks)

-- a starter goes through a run of marks as it goes through the run alone, and then on
pub compose_after-marks : (d : Reading) (a : ℕ) (p ms y : List ℕ) → AreMarks d ms → compose_after d a p (ms ++ y) ≡ compose_after d (compose_marks d a p ms).0 (compose_marks d a p ms).1 y
unfolding AreMarks
compose_after-marks d a p [] y marks = sym (ap (λ r. compose_after d r.0 r.1 y) (compose_marks-nil d a p))
compose_after-marks d a p (m ∷ ms) y marks =
    elim (join-cases d a p m) [
      | inl none ↦
          compose_after-mark d a p m (ms ++ y) none marks.0 ∙ compose_after-marks d a (p ++ m ∷ []) ms y marks.1
          ∙ sym (ap (λ r. compose_after d r.0 r.1 y) (compose_marks-stay d a p m ms none))
      | inr some ↦
          compose_after-join d a p m some.0 (ms ++ y) some.1 ∙ compose_after-marks d some.0 p ms y marks.1
          ∙ sym (ap (λ r. compose_after d r.0 r.1 y) (compose_marks-join d a p m some.0 ms some.1))
    ]

-- what stays is marks in order, if the run and the marks before it are
pub compose_marks-ordered : (d : Reading) (a : ℕ) (p ms : List ℕ) → AreMarks d (p ++ ms) → IsOrdered d (p ++ ms) → AreMarks d (compose_marks d a p ms).1 × IsOrdered d (compose_marks d a p ms).1
unfolding AreMarks compose_marks
compose_marks-ordered d a p [] marks ordered = (subst (AreMarks d) (append-nil p) marks, subst (IsOrdered d) (append-nil p) ordered)
compose_marks-ordered d a p (m ∷ ms) marks ordered =
    elim (join-cases d a p m) [
      | inl none ↦
          let again = sym (append_assoc p (m ∷ []) ms) in
          subst (λ r. AreMarks d r.1 × IsOrdered d r.1) (sym (compose_marks-stay d a p m ms none))
          (compose_marks-ordered d a (p ++ m ∷ []) ms (subst (AreMarks d) again marks) (subst (IsOrdered d) again ordered))
      | inr some ↦
          let front = AllByRecursion-front (IsMark d) p (m ∷ ms) marks in
          let left = AllByRecursion-append (IsMark d) p ms front (AllByRecursion-rest (IsMark d) p (m ∷ ms) marks).1 in
          subst (λ r. AreMarks d r.1 × IsOrdered d r.1) (sym (compose_marks-join d a p m some.0 ms some.1))
          (compose_marks-ordered d some.0 p ms left (IsOrdered-remove d p m ms (join-some d a p m some.0 front some.1).1 ordered))
    ]

-- ---- the test of the marks that stay is the test of the last of them

-- classes do not fall from one mark in order to the next
class_rises : (d : Reading) (e m : ℕ) (w : List ℕ) → IsMark d m → IsOrdered d (e ∷ m ∷ w) → d.class e ≤ d.class m
class_rises d e m w mark ordered =
    elim (cases_Bool (is_reorderable d e m)) [
      | inl passes ↦
          let parts = is_reorderable-true d e m passes in
          let first : m ∷ insert d e w ≡ e ∷ m ∷ w = sym (insert-past d e m w passes) ∙ IsOrdered-head d e (m ∷ w) ordered in
          let same_class : d.class m ≡ d.class e = cc in
          absurd (omega arith)
      | inr stays ↦ elim (is_reorderable-false d e m stays) [ inl starter ↦ absurd (omega arith) | inr rises ↦ rises ]
    ]

class_rises_to_last : (d : Reading) (e : ℕ) (p : List ℕ) (m : ℕ) → AreMarks d (p ++ m ∷ []) → IsOrdered d (e ∷ (p ++ m ∷ [])) → d.class e ≤ d.class m
unfolding AreMarks
class_rises_to_last d e [] m marks ordered = class_rises d e m [] marks.0 ordered
class_rises_to_last d e (n ∷ p) m marks ordered =
    let next = class_rises d e n (p ++ m ∷ []) marks.0 ordered in
    let rest = class_rises_to_last d n p m marks.1 (IsOrdered-tail d e (n ∷ (p ++ m ∷ [])) ordered) in
    omega arith

pub is_above-nil : (d : Reading) (c : ℕ) → is_above d [] c ≡ true
unfolding is_above
is_above-nil d c = refl

pub is_above-push : (d : Reading) (p : List ℕ) (m c : ℕ) → AreMarks d (p ++ m ∷ []) → IsOrdered d (p ++ m ∷ []) → is_above d (p ++ m ∷ []) c ≡ nat_lt (d.class m) (d.class c)
unfolding is_above AreMarks
is_above-push d [] m c marks ordered = and-true (nat_lt (d.class m) (d.class c))
is_above-push d (e ∷ p) m c marks ordered =
    let rest = is_above-push d p m c marks.1 (IsOrdered-tail d e (p ++ m ∷ []) ordered) in
    let rises = class_rises_to_last d e p m marks.1 ordered in
    elim (cases_lt (d.class m) (d.class c)) [
      | inl low ↦ ap (λ b. b && is_above d (p ++ m ∷ []) c) (lt-ltb (d.class e) (d.class c) (omega arith)) ∙ rest
      | inr high ↦
          let shut = le-ltb (d.class m) (d.class c) high in
          and_right _ _ (rest ∙ shut) ∙ sym shut
    ]

pub cases_last : (p : List ℕ) → (p ≡ []) ⊎ ((front : List ℕ) × (last : ℕ) × (p ≡ front ++ last ∷ []))
cases_last [] = inl refl
cases_last (m ∷ p) =
    elim (cases_last p) [
      | inl none ↦ inr ([], m, ap (λ l. m ∷ l) none)
      | inr parts ↦ inr (m ∷ parts.0, parts.1, ap (λ l. m ∷ l) parts.2)
    ]

-- c is above all marks in order exactly if there are none, or it is above the last of them
pub is_above-ordered : (d : Reading) (p : List ℕ) (c : ℕ) → AreMarks d p → IsOrdered d p → (is_above d p c ≡ true) ↔ ((p ≡ []) ⊎ IsLastBelow d p c)
is_above-ordered d p c marks ordered = (above_last, from_last)
  where
    at_last : (front : List ℕ) (last : ℕ) → p ≡ front ++ last ∷ [] → is_above d p c ≡ nat_lt (d.class last) (d.class c)
    at_last front last e = ap (λ l. is_above d l c) e ∙ is_above-push d front last c (subst (AreMarks d) e marks) (subst (IsOrdered d) e ordered)

    above_last : is_above d p c ≡ true → (p ≡ []) ⊎ IsLastBelow d p c
    above_last h =
        elim (cases_last p) [
          | inl none ↦ inl none
          | inr parts ↦
              inr (record {
                front = parts.0;
                last = parts.1;
                parts = parts.2;
                below = ltb-true _ _ (sym (at_last parts.0 parts.1 parts.2) ∙ h);
              })
        ]

    from_last : (p ≡ []) ⊎ IsLastBelow d p c → is_above d p c ≡ true
    from_last (inl none) = ap (λ l. is_above d l c) none ∙ is_above-nil d c
    from_last (inr l) = at_last l.front l.last l.parts ∙ lt-ltb _ _ l.below
