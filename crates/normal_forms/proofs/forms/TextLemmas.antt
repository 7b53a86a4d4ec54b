-- What holds of each character of a text holds of each character of its forms, if lists and what pairs join to keep it.
use Rattle.std.proofs.Common.{◌≡◌, ℕ, not, ◌&&◌, List, [], ◌∷◌, All, Option, Some, None, refl}
use Rattle.std.specs.Char.{IsScalar}
use Rattle.std.proofs.lemmas.Bool.{cond_both}
use Rattle.std.proofs.lemmas.List.Elements.{All-append, All-cons, All-from_recursion, All-head, All-nil, All-tail, recursion_from_All}
use Rattle.normal_forms.specs.Reading.{Reading, IsText, is_starter}
use Rattle.normal_forms.specs.Decomposition.{expand}
use Rattle.normal_forms.specs.Order.{order}
use Rattle.normal_forms.specs.Composition.{is_blocked, joined, visit, compose_from, compose}
use Rattle.normal_forms.specs.Forms.{Form, Decomposing, Composing, nfd, nfc, normal_form}
use Rattle.normal_forms.specs.Hypotheses.{HasTextLists, HasScalarResults}
use Rattle.normal_forms.proofs.ordering.OrderLemmas.{AllByRecursion-order}

module _ (d : Reading) (P : ℕ → Type 0) where
  pub All-order : (x : List ℕ) → All P x → All P (order d x)
  All-order x all = All-from_recursion P (order d x) (AllByRecursion-order d P x (recursion_from_All P x all))

  pub All-expand : ((c : ℕ) → P c → All P (d.list c)) → (x : List ℕ) → All P x → All P (expand d x)
  unfolding expand
  All-expand kept [] all = all
  All-expand kept (c ∷ x) all =
      All-append P (d.list c) (expand d x) (kept c (All-head P c x all)) (All-expand kept x (All-tail P c x all))

  joined_is_pair : (a : ℕ) (between : List ℕ) (c r : ℕ) → joined d a between c ≡ Some r → d.pair a c ≡ Some r
  unfolding joined
  joined_is_pair a between c r joins =
      cond_both (is_starter d a && not (is_blocked d between c)) _ _ (λ o. o ≡ Some r → d.pair a c ≡ Some r) (λ _ e. e) (λ _ e. cc) joins

  module _ (kept : (a c r : ℕ) → P a → P c → d.pair a c ≡ Some r → P r) where
    All-visit : (x : List ℕ) (c : ℕ) → All P x → P c → All P (visit d x c)
    unfolding visit
    All-visit [] c all one = All-cons P c [] one (All-nil P)
    All-visit (a ∷ between) c all one =
        let first = All-head P a between all in
        let rest = All-tail P a between all in
        either (joined d a between c) (λ r joins. kept a c r first one (joined_is_pair a between c r joins)) first rest (All-visit between c rest one)
      where
        either : (o : Option ℕ) → ((r : ℕ) → o ≡ Some r → P r) → P a → All P between → All P (visit d between c)
            → All P (elim o as (λ _. List ℕ) [ Some composite ↦ composite ∷ between | None ↦ a ∷ visit d between c ])
        either (Some r) result first rest further = All-cons P r between (result r refl) rest
        either None result first rest further = All-cons P a (visit d between c) first further

    All-compose_from : (x rest : List ℕ) → All P x → All P rest → All P (compose_from d x rest)
    unfolding compose_from
    All-compose_from x [] all after = all
    All-compose_from x (c ∷ rest) all after = All-compose_from (visit d x c) rest (All-visit x c all (All-head P c rest after)) (All-tail P c rest after)

    pub All-compose : (x : List ℕ) → All P x → All P (compose d x)
    unfolding compose
    All-compose x all = All-compose_from [] x (All-nil P) all

pub IsText-nfd : (d : Reading) → HasTextLists d → (x : List ℕ) → IsText x → IsText (nfd d x)
unfolding nfd
IsText-nfd d texts x text = All-order d IsScalar (expand d x) (All-expand d IsScalar texts.texts x text)

pub IsText-normal_form : (d : Reading) (form : Form) → HasTextLists d → HasScalarResults d → (x : List ℕ) → IsText x → IsText (normal_form d form x)
unfolding normal_form nfc
IsText-normal_form d Decomposing texts results x text = IsText-nfd d texts x text
IsText-normal_form d Composing texts results x text = All-compose d IsScalar results.scalars (nfd d x) (IsText-nfd d texts x text)
