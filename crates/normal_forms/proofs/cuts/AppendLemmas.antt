-- One more character: what a text has in common with the form of a longer text it has with its own form.
use Rattle.std.proofs.Common.{◌≡◌, ◌≢◌, ℕ, ◌⊎◌, List, [], ◌∷◌, ◌++◌, length, refl, sym, ap, subst, ◌∙◌, arith}
use Rattle.std.proofs.Common.{inl, inr, eq-eqb, ne_eqb, append_assoc, append-nil, length-append}
use Rattle.std.proofs.Math.Nat.{eq-zero-or-pos}
use Rattle.std.proofs.lemmas.Bool.{cond-true, cond-false}
use Rattle.std.specs.List.{AllByRecursion}
use Rattle.normal_forms.specs.Reading.{Reading, IsStarter, ReadsAsItself}
use Rattle.normal_forms.specs.Decomposition.{expand}
use Rattle.normal_forms.specs.Order.{order, of_class}
use Rattle.normal_forms.specs.Forms.{nfd}
use Rattle.normal_forms.specs.CompositionByStarters.{join, compose_after, compose_by_starters}
use Rattle.normal_forms.specs.Cut.{IsFront}
use Rattle.normal_forms.specs.Hypotheses.{HasFullLists, HasFaithfulResults}
use Rattle.normal_forms.proofs.forms.ListLemmas.{split_append, AllByRecursion-append, AllByRecursion-front, AllByRecursion-rest}
use Rattle.normal_forms.proofs.ordering.OrderLemmas.{AreMarks, AreMarksBelow, AreAbove, IsOrdered, IsOrdered-order, order-push, order-append_cancel, order-order, order-absorb, of_class-order, of_class-append}
use Rattle.normal_forms.proofs.ordering.ExpandLemmas.{AreSelf, expand-append, expand_of_self, AreSelf-expand, AreSelf-order, AreSelf-nfd, nfd-append}
use Rattle.normal_forms.proofs.composing.ComposeLemmas.{composed_form, join-some, compose_after-nil, compose_after-join, compose_after-starter}
use Rattle.normal_forms.proofs.composing.ComposeLemmas.{compose_after-mark, compose_by_starters-starter, compose_by_starters-mark}
use Rattle.normal_forms.proofs.composing.ComposeLemmas.{order-expand-compose, composed_form-composed_form, cases_Option}
use Rattle.normal_forms.proofs.composing.InsertedCharacter.{AllByRecursion-both, IsLater, compose_after-later, compose_by_starters-later, compose_by_starters-put}
use Rattle.normal_forms.proofs.cuts.CutLemmas.{front_of_form}

-- m reads as itself and has another class than k
abbrev IsOther : Reading → ℕ → ℕ → Type 0
IsOther d k m = ReadsAsItself d m × (d.class m ≢ d.class k)

others_of_later : (d : Reading) (k : ℕ) (x : List ℕ) → AllByRecursion (IsLater d k) x → AllByRecursion (IsOther d k) x
others_of_later d k x later = AllByRecursion-both _ _ _ (λ m a b. (a.0, λ e. omega arith)) x later later

-- ---- the composition of a text with k put into it begins as that of the text; after the next character, each reads as
-- itself and has another class than k

record SharesFront (d : Reading) (k : ℕ) (longer shorter : List ℕ) : Type 0 where
  front : List ℕ
  next : ℕ
  rest : List ℕ
  remains : List ℕ
  longer_parts : longer ≡ front ++ next ∷ rest
  shorter_parts : shorter ≡ front ++ remains
  others : AllByRecursion (IsOther d k) rest

-- what comes before both is a part of the common front
SharesFront-behind : (d : Reading) (k : ℕ) (u x y longer shorter : List ℕ) → longer ≡ u ++ x → shorter ≡ u ++ y → SharesFront d k x y → SharesFront d k longer shorter
SharesFront-behind d k u x y longer shorter e f shares = record {
  front = u ++ shares.front;
  next = shares.next;
  rest = shares.rest;
  remains = shares.remains;
  longer_parts = cc (append_assoc u shares.front (shares.next ∷ shares.rest));
  shorter_parts = cc (append_assoc u shares.front shares.remains);
  others = shares.others;
}

-- k comes next after the starter a and the marks p that are buffered
compose_after-put_first : (d : Reading) (k a : ℕ) (p y : List ℕ) → AreMarks d p → AreSelf d p → AllByRecursion (IsLater d k) y → (IsStarter d k → y ≡ [])
    → SharesFront d k (compose_after d a p (k ∷ y)) (compose_after d a p y)
unfolding AreMarksBelow AreSelf
compose_after-put_first d k a p y marks p_self later last =
    elim (cases_Option (join d a p k)) [
      | inl none ↦
          elim (eq-zero-or-pos (d.class k)) [
            | inl starter ↦
                record {
                  front = a ∷ p;
                  next = k;
                  rest = [];
                  remains = [];
                  longer_parts = cc (last starter, compose_after-starter d a p k y none starter, compose_after-nil d k []);
                  shorter_parts = cc (last starter, compose_after-nil d a p, append-nil p);
                  others = tt;
                }
            | inr mark ↦
                let alike = compose_after-later d k a p [] y later in
                record {
                  front = alike.first ∷ p;
                  next = k;
                  rest = alike.rest;
                  remains = alike.rest;
                  longer_parts = compose_after-mark d a p k y none mark ∙ alike.with_k;
                  shorter_parts = cc (append-nil p);
                  others = others_of_later d k alike.rest alike.later;
                }
          ]
      | inr some ↦
          let alike = compose_after-later d k some.0 p [] y later in
          let below = (join-some d a p k some.0 marks some.1).1 in
          record {
            front = [];
            next = alike.first;
            rest = p ++ alike.rest;
            remains = compose_after d a p y;
            longer_parts = cc (compose_after-join d a p k some.0 y some.1, append-nil p);
            shorter_parts = refl;
            others = AllByRecursion-append (IsOther d k) p alike.rest (AllByRecursion-both _ _ _ (λ m b s. (s, λ e. omega arith)) p below p_self) (others_of_later d k alike.rest alike.later);
          }
    ]

-- so wherever k is put
SharesFront-put : (d : Reading) (k : ℕ) (x y : List ℕ) → AreSelf d x → AllByRecursion (IsLater d k) y → (IsStarter d k → y ≡ [])
    → SharesFront d k (compose_by_starters d (x ++ k ∷ y)) (compose_by_starters d (x ++ y))
SharesFront-put d k x y self later last =
    compose_by_starters-put d k y (SharesFront d k) (SharesFront-behind d k) (λ a p marks p_self. compose_after-put_first d k a p y marks p_self later last)
    (let stays = compose_by_starters-later d k y later in
    record {
      front = [];
      next = k;
      rest = y;
      remains = y;
      longer_parts =
          elim (eq-zero-or-pos (d.class k)) [
            | inl starter ↦ cc (last starter, compose_by_starters-starter d k y starter, compose_after-nil d k [])
            | inr mark ↦ cc (compose_by_starters-mark d k y mark)
          ];
      shorter_parts = stays;
      others = others_of_later d k y later;
    })
    x self

-- the append lemma: one more character after a text in order
compose_by_starters-push : (d : Reading) (k : ℕ) (y : List ℕ) → AreSelf d y → IsOrdered d y → SharesFront d k (compose_by_starters d (order d (y ++ k ∷ []))) (compose_by_starters d y)
unfolding AreSelf AreAbove
compose_by_starters-push d k y self ordered =
    let (front, behind, at) = order-push d y k ordered in
    let parts_self = subst (AreSelf d) at.parts self in
    let later = AllByRecursion-both _ _ (IsLater d k) (λ m s a. (s, a)) behind (AllByRecursion-rest _ front behind parts_self) at.above in
    SharesFront-behind d k [] _ _ _ _ (ap (compose_by_starters d) at.put) (ap (compose_by_starters d) at.parts)
    (SharesFront-put d k front behind (AllByRecursion-front _ front behind parts_self) later at.starter_last)

-- a front of the longer is a front of the shorter, or only others come after it
front_or_others : (d : Reading) (k : ℕ) (longer shorter q s : List ℕ) → SharesFront d k longer shorter → longer ≡ q ++ s → IsFront q shorter ⊎ AllByRecursion (IsOther d k) s
front_or_others d k longer shorter q s shares e =
    elim (split_append shares.front (shares.next ∷ shares.rest) q s (sym shares.longer_parts ∙ e)) [
      | inl (m, front, _) ↦ inl (m ++ shares.remains, cc (append_assoc q m shares.remains))
      | inr ([], front, _) ↦ inl (shares.remains, cc (append-nil shares.front))
      | inr (n ∷ m, _, behind) ↦
          let parts : shares.rest ≡ m ++ s = cc in
          inr (AllByRecursion-rest (IsOther d k) m s (subst (AllByRecursion (IsOther d k)) parts shares.others))
    ]

-- ---- fronts of forms

of_class-others : (d : Reading) (k : ℕ) (x : List ℕ) → AllByRecursion (IsOther d k) x → of_class d (d.class k) x ≡ []
unfolding of_class
of_class-others d k [] others = refl
of_class-others d k (m ∷ x) others = cond-false _ _ _ (ne_eqb (d.class m) (d.class k) others.0.1) ∙ of_class-others d k x others.1

of_class-one : (d : Reading) (k : ℕ) → of_class d (d.class k) (k ∷ []) ≡ k ∷ []
unfolding of_class
of_class-one d k = cond-true _ _ _ (eq-eqb (d.class k) (d.class k) refl)

-- after q, what q with w and k composes to has not only others: in canonical order they would be w and k
not_only_others : (d : Reading) → HasFullLists d → HasFaithfulResults d → (q w s : List ℕ) (k : ℕ) → AreSelf d w → ReadsAsItself d k → AllByRecursion (IsOther d k) s
    → compose_by_starters d (order d (nfd d q ++ (w ++ k ∷ []))) ≢ q ++ s
unfolding AreSelf nfd
not_only_others d full faithful q w s k w_self k_self others e =
    let more = w ++ k ∷ [] in
    let x = nfd d q ++ more in
    let x_self : AreSelf d x = AllByRecursion-append _ (nfd d q) more (AreSelf-nfd d full q) (AllByRecursion-append _ w (k ∷ []) w_self (k_self, tt)) in
    let s_self : AreSelf d s = AllByRecursion-both _ _ _ (λ m a b. a.0) s others others in
    let form : order d (nfd d q ++ s) ≡ order d x =
    cc (expand_of_self d s s_self, nfd-append d q s, order-expand-compose d faithful (order d x) (AreSelf-order d x x_self), order-order d x) in
    let same = order-append_cancel d (nfd d q) s more form in
    let none : [] ≡ of_class d (d.class k) w ++ k ∷ [] =
    cc (of_class-others d k s others, of_class-order d (d.class k) s, of_class-order d (d.class k) more, of_class-append d (d.class k) w (k ∷ []), of_class-one d k) in
    omega (arith, ap length none, length-append (of_class d (d.class k) w) (k ∷ []))

pub front_without_last : (d : Reading) → HasFullLists d → HasFaithfulResults d → (q w : List ℕ) (k : ℕ) → AreSelf d w → ReadsAsItself d k
    → IsFront q (compose_by_starters d (order d (nfd d q ++ (w ++ k ∷ [])))) → IsFront q (compose_by_starters d (order d (nfd d q ++ w)))
unfolding AreSelf
front_without_last d full faithful q w k w_self k_self front =
    let x = nfd d q ++ w in
    let x_self : AreSelf d x = AllByRecursion-append _ (nfd d q) w (AreSelf-nfd d full q) w_self in
    let shares = compose_by_starters-push d k (order d x) (AreSelf-order d x x_self) (IsOrdered-order d x) in
    let same : compose_by_starters d (order d (order d x ++ k ∷ [])) ≡ q ++ front.0 = cc (order-absorb d [] x (k ∷ []), append_assoc (nfd d q) w (k ∷ []), front.1) in
    elim (front_or_others d k _ _ q front.0 shares same) [
      | inl shorter ↦ shorter
      | inr others ↦ absurd (not_only_others d full faithful q w front.0 k w_self k_self others front.1)
    ]

-- q is a front of what q with w composes to
abbrev StaysBefore : Reading → List ℕ → List ℕ → Type 0
StaysBefore d q w = IsFront q (compose_by_starters d (order d (nfd d q ++ w)))

front_without_more : (d : Reading) → HasFullLists d → HasFaithfulResults d → (q w more : List ℕ) → AreSelf d w → AreSelf d more → StaysBefore d q (w ++ more) → StaysBefore d q w
unfolding AreSelf
front_without_more d full faithful q w [] w_self more_self stays = subst (StaysBefore d q) (append-nil w) stays
front_without_more d full faithful q w (k ∷ more) w_self more_self stays =
    let one_more_self = AllByRecursion-append _ w (k ∷ []) w_self (more_self.0, tt) in
    let regrouped = subst (StaysBefore d q) (sym (append_assoc w (k ∷ []) more)) stays in
    front_without_last d full faithful q w k w_self more_self.0 (front_without_more d full faithful q (w ++ k ∷ []) more one_more_self more_self.1 regrouped)

-- what a text has at its front in common with the form of a longer text, it has with its own form
pub front_without_continuation : (d : Reading) → HasFullLists d → HasFaithfulResults d → (q r t : List ℕ) → IsFront q (composed_form d (q ++ (r ++ t))) → IsFront q (composed_form d (q ++ r))
unfolding composed_form
front_without_continuation d full faithful q r t front =
    let stays : StaysBefore d q (expand d r ++ expand d t) = rw (nfd-append d q (r ++ t), expand-append d r t) at front in
    rw (nfd-append d q r) (front_without_more d full faithful q (expand d r) (expand d t) (AreSelf-expand d full r) (AreSelf-expand d full t) stays)

-- every front of a form is normalized
pub front_of_form_is_form : (d : Reading) → HasFullLists d → HasFaithfulResults d → (x q s : List ℕ) → composed_form d x ≡ q ++ s → composed_form d q ≡ q
front_of_form_is_form d full faithful x q s e =
    let own = front_without_continuation d full faithful q [] s (s, cc (composed_form-composed_form d full faithful x)) in
    let form : composed_form d q ≡ q ++ own.0 = cc (append-nil q, own.1) in
    cc (form, front_of_form d full faithful q own.0 form, append-nil q)
