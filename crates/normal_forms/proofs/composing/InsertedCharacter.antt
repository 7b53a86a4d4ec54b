-- What one more character in a text changes in what the text composes to: marks of greater classes after it join and
-- stay alike. A mark that is second in no pair stays at the end.
use Rattle.std.proofs.Common.{◌≡◌, ℕ, ◌<◌, ◌&&◌, nat_lt, List, [], ◌∷◌, ◌++◌, None, if◌then◌else◌, refl, sym, ap, subst, ◌∙◌, arith, inl, inr, lt-ltb, append_assoc, append-nil}
use Rattle.std.specs.List.{AllByRecursion}
use Rattle.normal_forms.specs.Reading.{Reading, IsMark, IsSecondInNoPair, ReadsAsItself}
use Rattle.normal_forms.specs.Decomposition.{expand}
use Rattle.normal_forms.specs.Order.{order, EndsUpTo}
use Rattle.normal_forms.specs.declared.Form.TheVariants.{Composing, Decomposing}
use Rattle.normal_forms.specs.declared.Form.{Form}
use Rattle.normal_forms.specs.Forms.{nfd, normal_form}
use Rattle.normal_forms.specs.CompositionByStarters.{is_above, join, compose_after, compose_by_starters}
use Rattle.normal_forms.specs.Hypotheses.{SuitsForm}
use Rattle.normal_forms.proofs.forms.ListLemmas.{AllByRecursion-front, AllByRecursion-rest}
use Rattle.normal_forms.proofs.ordering.OrderLemmas.{AreAbove, AreMarks, IsOrdered, IsOrdered-order, order-push}
use Rattle.normal_forms.proofs.ordering.ExpandLemmas.{AreSelf, AreSelf-nfd, expand_of_self, nfd-append}
use Rattle.normal_forms.proofs.composing.ComposeLemmas.{composed_form, cases_Option, join-none, step_cases, AreMarks-push, AreSelf-push}
use Rattle.normal_forms.proofs.composing.ComposeLemmas.{compose_after-nil, compose_after-join, compose_after-starter, compose_after-mark}
use Rattle.normal_forms.proofs.composing.ComposeLemmas.{compose_by_starters-nil, compose_by_starters-starter, compose_by_starters-mark, compose_by_starters-marks, starter_or_mark}
use Rattle.normal_forms.proofs.composing.CompositionOfMarks.{cases_last}
use Rattle.normal_forms.proofs.composing.VisitLemmas.{normal_form-composed, pairs_for, pairs_for-full}

-- what holds of a member because two things hold of it
pub AllByRecursion-both : (P Q R : ℕ → Type 0) → ((m : ℕ) → P m → Q m → R m) → (x : List ℕ) → AllByRecursion P x → AllByRecursion Q x → AllByRecursion R x
AllByRecursion-both P Q R both [] a b = tt
AllByRecursion-both P Q R both (m ∷ x) a b = (both m a.0 b.0, AllByRecursion-both P Q R both x a.1 b.1)

-- m reads as itself and has a class above that of k
abbrev pub IsLater : Reading → ℕ → ℕ → Type 0
IsLater d k m = ReadsAsItself d m × (d.class k < d.class m)

-- ---- after a starter and the marks p and q: characters of classes above that of k join and stay alike, whether k is
-- buffered between p and q or not

is_above-later : (d : Reading) (k : ℕ) (p q : List ℕ) (c : ℕ) → d.class k < d.class c → is_above d (p ++ k ∷ q) c ≡ is_above d (p ++ q) c
unfolding is_above
is_above-later d k [] q c h = ap (λ b. b && is_above d q c) (lt-ltb (d.class k) (d.class c) h)
is_above-later d k (m ∷ p) q c h = ap (λ b. nat_lt (d.class m) (d.class c) && b) (is_above-later d k p q c h)

join-later : (d : Reading) (k a : ℕ) (p q : List ℕ) (c : ℕ) → d.class k < d.class c → join d a (p ++ k ∷ q) c ≡ join d a (p ++ q) c
unfolding join
join-later d k a p q c h = ap (λ b. if b then d.pair a c else None) (is_above-later d k p q c h)

pub record ComposeAlike (d : Reading) (k a : ℕ) (p q y : List ℕ) : Type 0 where
  pub first : ℕ
  pub rest : List ℕ
  pub without_k : compose_after d a (p ++ q) y ≡ first ∷ (p ++ (q ++ rest))
  pub with_k : compose_after d a (p ++ k ∷ q) y ≡ first ∷ (p ++ k ∷ (q ++ rest))
  pub later : AllByRecursion (IsLater d k) rest

pub compose_after-later : (d : Reading) (k a : ℕ) (p q y : List ℕ) → AllByRecursion (IsLater d k) y → ComposeAlike d k a p q y
compose_after-later d k a p q [] later =
    record {
      first = a;
      rest = [];
      without_k = cc (compose_after-nil d a (p ++ q), append-nil q);
      with_k = cc (compose_after-nil d a (p ++ k ∷ q), append-nil q);
      later = tt;
    }
compose_after-later d k a p q (c ∷ y) later =
    let same = join-later d k a p q c later.0.1 in
    elim (cases_Option (join d a (p ++ q) c)) [
      | inl none ↦
          let mark : IsMark d c = omega arith in
          let alike = compose_after-later d k a p (q ++ c ∷ []) y later.1 in
          let waits = append_assoc q (c ∷ []) alike.rest in
          record {
            first = alike.first;
            rest = c ∷ alike.rest;
            without_k = cc (compose_after-mark d a (p ++ q) c y none mark, append_assoc p q (c ∷ []));
            with_k = cc (compose_after-mark d a (p ++ k ∷ q) c y (same ∙ none) mark, append_assoc p (k ∷ q) (c ∷ []));
            later = (later.0, alike.later);
          }
      | inr some ↦
          let alike = compose_after-later d k some.0 p q y later.1 in
          record {
            first = alike.first;
            rest = alike.rest;
            without_k = compose_after-join d a (p ++ q) c some.0 y some.1 ∙ alike.without_k;
            with_k = compose_after-join d a (p ++ k ∷ q) c some.0 y (same ∙ some.1) ∙ alike.with_k;
            later = alike.later;
          }
    ]

pub compose_by_starters-later : (d : Reading) (k : ℕ) (y : List ℕ) → AllByRecursion (IsLater d k) y → compose_by_starters d y ≡ y
unfolding AreMarks
compose_by_starters-later d k y later =
    let marks = AllByRecursion-both _ _ (IsMark d) (λ m a b. omega arith) y later later in
    cc (append-nil y, compose_by_starters-marks d y [] marks, compose_by_starters-nil d)

-- ---- what holds of the compositions of two texts after a common front, the one with k next and the other without, holds
-- wherever k is put

module _ (d : Reading) (k : ℕ) (y : List ℕ) (Differ : List ℕ → List ℕ → Type 0)
    (behind : (u v w longer shorter : List ℕ) → longer ≡ u ++ v → shorter ≡ u ++ w → Differ v w → Differ longer shorter)
    (next : (a : ℕ) (p : List ℕ) → AreMarks d p → AreSelf d p → Differ (compose_after d a p (k ∷ y)) (compose_after d a p y)) where
  -- k comes after x
  compose_after-put : (a : ℕ) (p x : List ℕ) → AreMarks d p → AreSelf d p → AreSelf d x → Differ (compose_after d a p (x ++ k ∷ y)) (compose_after d a p (x ++ y))
  unfolding AreMarks AreSelf
  compose_after-put a p [] marks p_self self = next a p marks p_self
  compose_after-put a p (c ∷ x) marks p_self self =
      step_cases d a p c (Differ (compose_after d a p (c ∷ (x ++ k ∷ y))) (compose_after d a p (c ∷ (x ++ y))))
      (λ r some.
      behind [] _ _ _ _ (compose_after-join d a p c r (x ++ k ∷ y) some) (compose_after-join d a p c r (x ++ y) some) (compose_after-put r p x marks p_self self.1))
      (λ none starter.
      behind (a ∷ p) _ _ _ _ (compose_after-starter d a p c (x ++ k ∷ y) none starter) (compose_after-starter d a p c (x ++ y) none starter)
      (compose_after-put c [] x tt tt self.1))
      (λ none mark.
      behind [] _ _ _ _ (compose_after-mark d a p c (x ++ k ∷ y) none mark) (compose_after-mark d a p c (x ++ y) none mark)
      (compose_after-put a (p ++ c ∷ []) x (AreMarks-push d p c marks mark) (AreSelf-push d p c p_self self.0) self.1))

  pub compose_by_starters-put : Differ (compose_by_starters d (k ∷ y)) (compose_by_starters d y)
      → (x : List ℕ) → AreSelf d x → Differ (compose_by_starters d (x ++ k ∷ y)) (compose_by_starters d (x ++ y))
  unfolding AreMarks AreSelf
  compose_by_starters-put first [] self = first
  compose_by_starters-put first (c ∷ x) self =
      elim (starter_or_mark d c) [
        | inl starter ↦
            behind [] _ _ _ _ (compose_by_starters-starter d c (x ++ k ∷ y) starter) (compose_by_starters-starter d c (x ++ y) starter)
            (compose_after-put c [] x tt tt self.1)
        | inr mark ↦
            behind (c ∷ []) _ _ _ _ (compose_by_starters-mark d c (x ++ k ∷ y) mark) (compose_by_starters-mark d c (x ++ y) mark)
            (compose_by_starters-put first x self.1)
      ]

-- ---- a mark that is second in no pair is put before marks of greater classes, and changes nothing else

record IsPutInto (d : Reading) (m : ℕ) (longer shorter : List ℕ) : Type 0 where
  front : List ℕ
  later : List ℕ
  longer_parts : longer ≡ front ++ m ∷ later
  shorter_parts : shorter ≡ front ++ later
  are_later : AllByRecursion (IsLater d m) later

IsPutInto-behind : (d : Reading) (m : ℕ) (u x y longer shorter : List ℕ) → longer ≡ u ++ x → shorter ≡ u ++ y → IsPutInto d m x y → IsPutInto d m longer shorter
IsPutInto-behind d m u x y longer shorter e f put = record {
  front = u ++ put.front;
  later = put.later;
  longer_parts = cc (append_assoc u put.front (m ∷ put.later));
  shorter_parts = cc (append_assoc u put.front put.later);
  are_later = put.are_later;
}

module _ (d : Reading) (m : ℕ) (mark : IsMark d m) (second : IsSecondInNoPair d m) where
  IsPutInto-next : (y : List ℕ) → AllByRecursion (IsLater d m) y → (a : ℕ) (p : List ℕ) → AreMarks d p → AreSelf d p
      → IsPutInto d m (compose_after d a p (m ∷ y)) (compose_after d a p y)
  IsPutInto-next y later a p marks self =
      let alike = compose_after-later d m a p [] y later in
      record {
        front = alike.first ∷ p;
        later = alike.rest;
        longer_parts = compose_after-mark d a p m y (join-none d a p m (second a)) mark ∙ alike.with_k;
        shorter_parts = ap (λ l. compose_after d a l y) (sym (append-nil p)) ∙ alike.without_k;
        are_later = alike.later;
      }

  IsPutInto-order : (y : List ℕ) → AreSelf d y → IsOrdered d y → IsPutInto d m (compose_by_starters d (order d (y ++ m ∷ []))) (compose_by_starters d y)
  unfolding AreSelf AreAbove
  IsPutInto-order y self ordered =
      let (front, behind, at) = order-push d y m ordered in
      let parts_self = subst (AreSelf d) at.parts self in
      let later = AllByRecursion-both _ _ (IsLater d m) (λ n s a. (s, a)) behind (AllByRecursion-rest _ front behind parts_self) at.above in
      let stays = compose_by_starters-later d m behind later in
      IsPutInto-behind d m [] _ _ _ _ (ap (compose_by_starters d) at.put) (ap (compose_by_starters d) at.parts)
      (compose_by_starters-put d m behind (IsPutInto d m) (IsPutInto-behind d m) (IsPutInto-next behind later)
      (record {
        front = [];
        later = behind;
        longer_parts = compose_by_starters-mark d m behind mark ∙ ap (λ l. m ∷ l) stays;
        shorter_parts = stays;
        are_later = later;
      })
      front (AllByRecursion-front _ front behind parts_self))

  -- nothing comes after it if no mark at the end has a greater class
  none_later : (front later : List ℕ) → AllByRecursion (IsLater d m) later → EndsUpTo d (d.class m) (front ++ later) → later ≡ []
  none_later front later are ends = elim (cases_last later) [
    | inl none ↦ none
    | inr parts ↦
        let last = (AllByRecursion-rest (IsLater d m) parts.0 (parts.1 ∷ []) (subst (AllByRecursion (IsLater d m)) parts.2 are)).0 in
        let most = ends (front ++ parts.0) parts.1 (ap (λ l. front ++ l) parts.2 ∙ sym (append_assoc front parts.0 (parts.1 ∷ []))) in
        absurd (omega (arith, last.1))
  ]

  composed_form-mark : (x : List ℕ) → AreSelf d (nfd d x) → ReadsAsItself d m → EndsUpTo d (d.class m) (composed_form d x)
      → composed_form d (x ++ m ∷ []) ≡ composed_form d x ++ m ∷ []
  unfolding composed_form AreSelf nfd
  composed_form-mark x self itself ends =
      let put = IsPutInto-order (nfd d x) self (IsOrdered-order d (expand d x)) in
      let none = none_later put.front put.later put.are_later (subst (EndsUpTo d (d.class m)) put.shorter_parts ends) in
      let front : composed_form d x ≡ put.front = put.shorter_parts ∙ ap (λ l. put.front ++ l) none ∙ append-nil put.front in
      ap (compose_by_starters d) (nfd-append d x (m ∷ []) ∙ ap (λ l. order d (nfd d x ++ l)) (expand_of_self d (m ∷ []) (itself, tt)))
      ∙ put.longer_parts ∙ ap (λ l. put.front ++ m ∷ l) none ∙ ap (λ l. l ++ m ∷ []) (sym front)

-- the same in both forms
form_of_mark : (d : Reading) (form : Form) → SuitsForm d form → (x : List ℕ) (m : ℕ) → let e = pairs_for d form in ReadsAsItself e m → IsMark e m → IsSecondInNoPair e m
    → EndsUpTo e (e.class m) (normal_form d form x) → normal_form d form (x ++ m ∷ []) ≡ normal_form d form x ++ m ∷ []
form_of_mark d form suits x m itself mark second ends =
    let e = pairs_for d form in
    let same = normal_form-composed d form suits in
    same (x ++ m ∷ [])
    ∙ composed_form-mark e m mark second x (AreSelf-nfd e (pairs_for-full d form suits) x) itself (subst (EndsUpTo e (e.class m)) (same x) ends)
    ∙ ap (λ l. l ++ m ∷ []) (sym (same x))

pub normal_form-mark : (d : Reading) (form : Form) → SuitsForm d form → (x : List ℕ) (m : ℕ) → ReadsAsItself d m → IsMark d m → (form ≡ Composing → IsSecondInNoPair d m)
    → EndsUpTo d (d.class m) (normal_form d form x) → normal_form d form (x ++ m ∷ []) ≡ normal_form d form x ++ m ∷ []
unfolding pairs_for
normal_form-mark d Decomposing suits x m itself mark second ends = form_of_mark d Decomposing suits x m itself mark (λ a. refl) ends
normal_form-mark d Composing suits x m itself mark second ends = form_of_mark d Composing suits x m itself mark (second refl) ends
