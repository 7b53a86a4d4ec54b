-- Equivalence: its steps keep the decomposing form, and every text is equivalent to its decomposing form, through lists of
-- characters that keep what lists keep.
use Rattle.std.proofs.Common.{◌≡◌, ℕ, ◌↔◌, List, [], ◌∷◌, ◌++◌, All, refl, sym, ap, subst, ◌∙◌, arith, inl, inr, append_assoc}
use Rattle.std.proofs.lemmas.Bool.{cases_Bool}
use Rattle.std.proofs.lemmas.List.Elements.{All-append, All-cons, All-head, All-tail}
use Rattle.std.specs.Char.{IsScalar}
use Rattle.normal_forms.specs.Reading.{Reading, IsText, ReadsAsItself}
use Rattle.normal_forms.specs.Decomposition.{expand}
use Rattle.normal_forms.specs.Order.{is_reorderable, insert, order}
use Rattle.normal_forms.specs.Composition.{compose}
use Rattle.normal_forms.specs.Forms.{Form, Decomposing, Composing, nfd, nfc, normal_form}
use Rattle.normal_forms.specs.Equivalence.{MayChangePlaces, IsStep, mapping, swap, EquivalentAmong, same, back, chain, step, Equivalent, EquivalentTexts}
use Rattle.normal_forms.specs.Hypotheses.{HasFullLists, HasTextLists, SuitsForm}
use Rattle.normal_forms.proofs.ordering.OrderLemmas.{is_reorderable-true, insert-past, insert-stays, order-swap}
use Rattle.normal_forms.proofs.ordering.ExpandLemmas.{AreSelf, expand-append, expand_of_self, AreSelf-list, AreSelf-expand, AreSelf-order}
use Rattle.normal_forms.proofs.composing.ComposeLemmas.{nfd-composed_form}
use Rattle.normal_forms.proofs.forms.TextLemmas.{All-expand, All-order}
use Rattle.normal_forms.proofs.composing.VisitLemmas.{pairs_for, normal_form-composing}

-- ---- the steps keep the decomposing form

expand-mapping : (d : Reading) → HasFullLists d → (u : List ℕ) (c : ℕ) (v : List ℕ) → expand d (u ++ c ∷ v) ≡ expand d (u ++ d.list c ++ v)
unfolding expand
expand-mapping d full u c v =
    expand-append d u (c ∷ v)
    ∙ ap (λ l. expand d u ++ (l ++ expand d v)) (sym (expand_of_self d (d.list c) (AreSelf-list d full c)))
    ∙ sym (append_assoc (expand d u) (expand d (d.list c)) (expand d v))
    ∙ ap (λ l. l ++ expand d v) (sym (expand-append d u (d.list c))) ∙ sym (expand-append d (u ++ d.list c) v)

expand-two : (d : Reading) (u : List ℕ) (m n : ℕ) (v : List ℕ) → ReadsAsItself d m → ReadsAsItself d n → expand d (u ++ m ∷ n ∷ v) ≡ expand d u ++ m ∷ n ∷ expand d v
unfolding expand
expand-two d u m n v m_self n_self =
    expand-append d u (m ∷ n ∷ v) ∙ ap (λ l. expand d u ++ (l ++ (d.list n ++ expand d v))) m_self
    ∙ ap (λ l. expand d u ++ m ∷ (l ++ expand d v)) n_self

nfd-step : (d : Reading) → HasFullLists d → (x y : List ℕ) → IsStep d x y → nfd d x ≡ nfd d y
unfolding nfd
nfd-step d full x y (mapping u c v) = ap (order d) (expand-mapping d full u c v)
nfd-step d full x y (swap u m n v may) =
    ap (order d) (expand-two d u m n v may.first.0 may.second.0) ∙ order-swap d (expand d u) m n (expand d v) may.first.1 may.second.1 may.apart
    ∙ ap (order d) (sym (expand-two d u n m v may.second.0 may.first.0))

nfd-of_equivalent : (P : ℕ → Type 0) (d : Reading) → HasFullLists d → (x y : List ℕ) → EquivalentAmong P d x y → nfd d x ≡ nfd d y
nfd-of_equivalent P d full x y (same z all) = refl
nfd-of_equivalent P d full x y (back e) = sym (nfd-of_equivalent P d full y x e)
nfd-of_equivalent P d full x y (chain {y = z} e f) = nfd-of_equivalent P d full x z e ∙ nfd-of_equivalent P d full z y f
nfd-of_equivalent P d full x y (step first second one) = nfd-step d full x y one

-- ---- equivalence passes under a common front

IsStep-front : (d : Reading) (t x y : List ℕ) → IsStep d x y → IsStep d (t ++ x) (t ++ y)
IsStep-front d t x y (mapping u c v) =
    let after : (t ++ u) ++ d.list c ++ v ≡ t ++ (u ++ d.list c ++ v) =
    ap (λ l. l ++ v) (append_assoc t u (d.list c)) ∙ append_assoc t (u ++ d.list c) v in
    subst (λ l. IsStep d l (t ++ (u ++ d.list c ++ v))) (append_assoc t u (c ∷ v))
    (subst (IsStep d ((t ++ u) ++ c ∷ v)) after (mapping (t ++ u) c v))
IsStep-front d t x y (swap u m n v may) =
    subst (λ l. IsStep d l (t ++ (u ++ n ∷ m ∷ v))) (append_assoc t u (m ∷ n ∷ v))
    (subst (IsStep d ((t ++ u) ++ m ∷ n ∷ v)) (append_assoc t u (n ∷ m ∷ v)) (swap (t ++ u) m n v may))

module _ (P : ℕ → Type 0) (d : Reading) where
  equivalent_under : (c : ℕ) (x y : List ℕ) → P c → EquivalentAmong P d x y → EquivalentAmong P d (c ∷ x) (c ∷ y)
  equivalent_under c x y first (same z all) = same (c ∷ z) (All-cons P c z first all)
  equivalent_under c x y first (back e) = back (equivalent_under c y x first e)
  equivalent_under c x y first (chain {y = z} e f) = chain (equivalent_under c x z first e) (equivalent_under c z y first f)
  equivalent_under c x y first (step before after one) =
      step (All-cons P c x first before) (All-cons P c y first after) (IsStep-front d (c ∷ []) x y one)

-- ---- every text is equivalent to its decomposing form

module _ (P : ℕ → Type 0) (d : Reading) where
  equivalent_to_insert : (c : ℕ) (w : List ℕ) → ReadsAsItself d c → AreSelf d w → P c → All P w → EquivalentAmong P d (c ∷ w) (insert d c w)
  unfolding insert AreSelf
  equivalent_to_insert c [] c_self w_self first all = same (c ∷ []) (All-cons P c [] first all)
  equivalent_to_insert c (e ∷ w) c_self w_self first all =
      elim (cases_Bool (is_reorderable d c e)) [
        | inl passes ↦
            let parts = is_reorderable-true d c e passes in
            let second = All-head P e w all in
            let rest = All-tail P e w all in
            let may : MayChangePlaces d c e = record { first = (c_self, omega arith); second = (w_self.0, parts.0); apart = λ h. omega arith } in
            let swapped : EquivalentAmong P d (c ∷ e ∷ w) (e ∷ c ∷ w) =
            step (All-cons P c (e ∷ w) first all) (All-cons P e (c ∷ w) second (All-cons P c w first rest)) (swap [] c e w may) in
            subst (EquivalentAmong P d (c ∷ e ∷ w)) (sym (insert-past d c e w passes))
            (chain swapped (equivalent_under P d e (c ∷ w) (insert d c w) second (equivalent_to_insert c w c_self w_self.1 first rest)))
        | inr stays ↦
            subst (EquivalentAmong P d (c ∷ e ∷ w)) (sym (insert-stays d c e w stays)) (same (c ∷ e ∷ w) (All-cons P c (e ∷ w) first all))
      ]

  equivalent_to_order : (x : List ℕ) → AreSelf d x → All P x → EquivalentAmong P d x (order d x)
  unfolding order AreSelf
  equivalent_to_order [] self all = same [] all
  equivalent_to_order (c ∷ x) self all =
      let first = All-head P c x all in
      let rest = All-tail P c x all in
      chain (equivalent_under P d c x (order d x) first (equivalent_to_order x self.1 rest))
      (equivalent_to_insert c (order d x) self.0 (AreSelf-order d x self.1) first (All-order d P x rest))

  module _ (kept : (c : ℕ) → P c → All P (d.list c)) where
    equivalent_to_expand : (x : List ℕ) → All P x → EquivalentAmong P d x (expand d x)
    unfolding expand
    equivalent_to_expand [] all = same [] all
    equivalent_to_expand (c ∷ x) all =
        let first = All-head P c x all in
        let rest = All-expand d P kept x (All-tail P c x all) in
        chain (equivalent_under P d c x (expand d x) first (equivalent_to_expand x (All-tail P c x all)))
        (step (All-cons P c (expand d x) first rest) (All-append P (d.list c) (expand d x) (kept c first) rest) (mapping [] c (expand d x)))

    equivalent_to_nfd : HasFullLists d → (x : List ℕ) → All P x → EquivalentAmong P d x (nfd d x)
    unfolding nfd
    equivalent_to_nfd full x all = chain (equivalent_to_expand x all) (equivalent_to_order (expand d x) (AreSelf-expand d full x) (All-expand d P kept x all))

    equivalent_from_nfd : HasFullLists d → (x y : List ℕ) → All P x → All P y → nfd d x ≡ nfd d y → EquivalentAmong P d x y
    equivalent_from_nfd full x y first second e =
        chain (subst (EquivalentAmong P d x) e (equivalent_to_nfd full x first)) (back (equivalent_to_nfd full y second))

-- texts with one form have one decomposing form
pub nfd-of_same_form : (d : Reading) (form : Form) → SuitsForm d form → (x y : List ℕ) → normal_form d form x ≡ normal_form d form y → nfd d x ≡ nfd d y
unfolding normal_form pairs_for
nfd-of_same_form d Decomposing suits x y e = e
nfd-of_same_form d Composing suits x y e =
    sym (nfd-composed_form d suits.0 suits.2 x)
    ∙ ap (nfd d) (sym (normal_form-composing d suits.1 x) ∙ e ∙ normal_form-composing d suits.1 y)
    ∙ nfd-composed_form d suits.0 suits.2 y

module _ (P : ℕ → Type 0) (d : Reading) (kept : (c : ℕ) → P c → All P (d.list c)) where
  equivalent_iff : (form : Form) → SuitsForm d form → (x y : List ℕ) → All P x → All P y → EquivalentAmong P d x y ↔ (normal_form d form x ≡ normal_form d form y)
  unfolding normal_form nfc
  equivalent_iff Decomposing suits x y first second =
      (nfd-of_equivalent P d suits x y, equivalent_from_nfd P d kept suits x y first second)
  equivalent_iff Composing suits x y first second = (
    λ e. ap (compose d) (nfd-of_equivalent P d suits.0 x y e),
    λ e. equivalent_from_nfd P d kept suits.0 x y first second (nfd-of_same_form d Composing suits x y e),
  )

pub equivalent_lists : (d : Reading) (form : Form) → SuitsForm d form → (x y : List ℕ) → Equivalent d x y ↔ (normal_form d form x ≡ normal_form d form y)
equivalent_lists d form suits x y = equivalent_iff (λ c. Unit {0}) d (λ c h k f below. tt) form suits x y (λ k f below. tt) (λ k f below. tt)

pub equivalent_texts : (d : Reading) (form : Form) → SuitsForm d form → HasTextLists d → (x y : List ℕ) → IsText x → IsText y → EquivalentTexts d x y ↔ (normal_form d form x ≡ normal_form d form y)
equivalent_texts d form suits texts x y = equivalent_iff IsScalar d texts.texts form suits x y

pub equivalent_through_texts : (d : Reading) → HasFullLists d → HasTextLists d → (x y : List ℕ) → IsText x → IsText y → Equivalent d x y ↔ EquivalentTexts d x y
equivalent_through_texts d full texts x y first second =
    let lists = equivalent_lists d Decomposing full x y in
    let among = equivalent_texts d Decomposing full texts x y first second in
    (λ e. among.1 (lists.0 e), λ e. lists.1 (among.0 e))
