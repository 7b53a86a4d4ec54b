-- Full decomposition.
use Rattle.std.proofs.Common.{◌≡◌, ℕ, List, [], ◌∷◌, ◌++◌, refl, sym, ap, ◌∙◌, append_assoc}
use Rattle.std.proofs.lemmas.List.Elements.{recursion_from_All}
use Rattle.std.specs.List.{AllByRecursion}
use Rattle.normal_forms.specs.Reading.{Reading, ReadsAsItself}
use Rattle.normal_forms.specs.Decomposition.{expand}
use Rattle.normal_forms.specs.Order.{order}
use Rattle.normal_forms.specs.Forms.{nfd}
use Rattle.normal_forms.specs.Hypotheses.{HasFullLists}
use Rattle.normal_forms.proofs.forms.ListLemmas.{AllByRecursion-append}
use Rattle.normal_forms.proofs.ordering.OrderLemmas.{order-absorb, order-order, AllByRecursion-order}

-- each character of x reads as itself
unfoldable pub AreSelf : Reading → List ℕ → Type 0
AreSelf d x = AllByRecursion (ReadsAsItself d) x

pub expand-append : (d : Reading) (u v : List ℕ) → expand d (u ++ v) ≡ expand d u ++ expand d v
unfolding expand
expand-append d [] v = refl
expand-append d (c ∷ u) v = ap (λ l. d.list c ++ l) (expand-append d u v) ∙ sym (append_assoc (d.list c) (expand d u) (expand d v))

pub expand_of_self : (d : Reading) (x : List ℕ) → AreSelf d x → expand d x ≡ x
unfolding expand AreSelf
expand_of_self d [] a = refl
expand_of_self d (c ∷ x) a = ap (λ l. l ++ expand d x) a.0 ∙ ap (λ l. c ∷ l) (expand_of_self d x a.1)

pub AreSelf-list : (d : Reading) → HasFullLists d → (c : ℕ) → AreSelf d (d.list c)
unfolding AreSelf
AreSelf-list d full c = recursion_from_All (ReadsAsItself d) (d.list c) (full.members c)

pub AreSelf-expand : (d : Reading) → HasFullLists d → (x : List ℕ) → AreSelf d (expand d x)
unfolding expand AreSelf
AreSelf-expand d full [] = tt
AreSelf-expand d full (c ∷ x) = AllByRecursion-append (ReadsAsItself d) (d.list c) (expand d x) (AreSelf-list d full c) (AreSelf-expand d full x)

pub AreSelf-order : (d : Reading) (x : List ℕ) → AreSelf d x → AreSelf d (order d x)
unfolding AreSelf
AreSelf-order d x a = AllByRecursion-order d (ReadsAsItself d) x a

pub AreSelf-nfd : (d : Reading) → HasFullLists d → (x : List ℕ) → AreSelf d (nfd d x)
unfolding nfd
AreSelf-nfd d full x = AreSelf-order d (expand d x) (AreSelf-expand d full x)

pub nfd-nfd : (d : Reading) → HasFullLists d → (x : List ℕ) → nfd d (nfd d x) ≡ nfd d x
unfolding nfd
nfd-nfd d full x = ap (order d) (expand_of_self d (nfd d x) (AreSelf-nfd d full x)) ∙ order-order d (expand d x)

-- the form of a text by that of its front
pub nfd-append : (d : Reading) (u v : List ℕ) → nfd d (u ++ v) ≡ order d (nfd d u ++ expand d v)
unfolding nfd
nfd-append d u v = ap (order d) (expand-append d u v) ∙ sym (order-absorb d [] (expand d u) (expand d v))
