-- A text divided at a character that takes part in no mapping.
use Rattle.std.proofs.Common.{◌≡◌, ℕ, List, [], ◌∷◌, ◌++◌, None, refl, ap, sym, ◌∙◌, append_assoc, inl, inr}
use Rattle.std.proofs.lemmas.List.{append-nil}
use Rattle.normal_forms.specs.Composition.{compose, compose_from}
use Rattle.normal_forms.specs.CompositionByStarters.{compose_after, compose_by_starters}
use Rattle.normal_forms.specs.Decomposition.{expand}
use Rattle.normal_forms.specs.Forms.{nfd, nfc, normal_form}
use Rattle.normal_forms.specs.declared.Form.{Form}
use Rattle.normal_forms.specs.declared.Form.TheVariants.{Decomposing, Composing}
use Rattle.normal_forms.specs.Hypotheses.{HasStarterResults, SuitsForm}
use Rattle.normal_forms.specs.Order.{order}
use Rattle.normal_forms.specs.Reading.{Reading, IsStarter}
use Rattle.normal_forms.proofs.composing.ComposeLemmas.{starter_or_mark, join-none, compose_after-nil, compose_after-starter, compose_after-mark, compose_by_starters-nil, compose_by_starters-starter, compose_by_starters-mark, compose_by_starters-at_starter}
use Rattle.normal_forms.proofs.composing.VisitLemmas.{compose_is_by_starters}
use Rattle.normal_forms.proofs.ordering.ExpandLemmas.{expand-append}
use Rattle.normal_forms.proofs.ordering.OrderLemmas.{order-at_starter}

normal_form-nil : (d : Reading) (form : Form) → normal_form d form [] ≡ []
unfolding normal_form nfd nfc compose compose_from order expand
normal_form-nil d Decomposing = refl
normal_form-nil d Composing = refl

-- a starter that is its own list and composes with nothing
module _ (d : Reading) (s : ℕ) (own : d.list s ≡ s ∷ []) (starter : IsStarter d s)
    (first : (c : ℕ) → d.pair s c ≡ None) (second : (a : ℕ) → d.pair a s ≡ None) where
  nfd-at : (x y : List ℕ) → nfd d (x ++ s ∷ y) ≡ nfd d x ++ s ∷ nfd d y
  unfolding nfd expand
  nfd-at x y =
      ap (order d) (expand-append d x (s ∷ y) ∙ ap (λ l. expand d x ++ (l ++ expand d y)) own)
      ∙ order-at_starter d (expand d x) s (expand d y) starter

  compose_after-alone : (p y : List ℕ) → compose_after d s p y ≡ (s ∷ p) ++ compose_by_starters d y
  compose_after-alone p [] =
      compose_after-nil d s p ∙ sym (ap (λ l. (s ∷ p) ++ l) (compose_by_starters-nil d) ∙ append-nil (s ∷ p))
  compose_after-alone p (c ∷ y) =
      let none = join-none d s p c (first c) in
      elim (starter_or_mark d c) [
        | inl begins ↦
            compose_after-starter d s p c y none begins
            ∙ ap (λ l. (s ∷ p) ++ l) (sym (compose_by_starters-starter d c y begins))
        | inr mark ↦
            compose_after-mark d s p c y none mark ∙ compose_after-alone (p ++ c ∷ []) y
            ∙ append_assoc (s ∷ p) (c ∷ []) (compose_by_starters d y)
            ∙ ap (λ l. (s ∷ p) ++ l) (sym (compose_by_starters-mark d c y mark))
      ]

  compose_by_starters-at : (x y : List ℕ) → compose_by_starters d (x ++ s ∷ y) ≡ compose_by_starters d x ++ s ∷ compose_by_starters d y
  compose_by_starters-at x y =
      compose_by_starters-at_starter d x s y starter second
      ∙ ap (λ l. compose_by_starters d x ++ l) (compose_by_starters-starter d s y starter ∙ compose_after-alone [] y)

  nfc-at : HasStarterResults d → (x y : List ℕ) → nfc d (x ++ s ∷ y) ≡ nfc d x ++ s ∷ nfc d y
  unfolding nfc
  nfc-at results x y =
      compose_is_by_starters d results (nfd d (x ++ s ∷ y)) ∙ ap (compose_by_starters d) (nfd-at x y)
      ∙ compose_by_starters-at (nfd d x) (nfd d y)
      ∙ ap (λ l. l ++ s ∷ compose_by_starters d (nfd d y)) (sym (compose_is_by_starters d results (nfd d x)))
      ∙ ap (λ l. compose d (nfd d x) ++ s ∷ l) (sym (compose_is_by_starters d results (nfd d y)))

  pub form-at : (form : Form) → SuitsForm d form → (x y : List ℕ)
      → normal_form d form (x ++ s ∷ y) ≡ normal_form d form x ++ s ∷ normal_form d form y
  unfolding normal_form
  form-at Decomposing suits x y = nfd-at x y
  form-at Composing suits x y = nfc-at suits.1 x y

  -- a text is normalized apart after it
  pub form-after : (form : Form) → SuitsForm d form → (x y : List ℕ)
      → normal_form d form ((x ++ s ∷ []) ++ y) ≡ normal_form d form (x ++ s ∷ []) ++ normal_form d form y
  form-after form suits x y =
      let front = form-at form suits x [] ∙ ap (λ l. normal_form d form x ++ s ∷ l) (normal_form-nil d form) in
      ap (normal_form d form) (append_assoc x (s ∷ []) y) ∙ form-at form suits x y
      ∙ sym (ap (λ l. l ++ normal_form d form y) front ∙ append_assoc (normal_form d form x) (s ∷ []) (normal_form d form y))
