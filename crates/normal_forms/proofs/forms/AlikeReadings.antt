-- Readings that say the same make the same forms.
use Rattle.std.proofs.Common.{◌≡◌, ℕ, not, ◌&&◌, ◌||◌, ◌==◌, nat_lt, nat_le, if◌then◌else◌, List, [], ◌∷◌, ◌++◌, Option, Some, None, All, refl, sym, ap, ap₂, subst, ◌∙◌}
use Rattle.normal_forms.specs.Reading.{Reading, IsText, ReadsAsItself}
use Rattle.normal_forms.specs.Alike.{AreAlike}
use Rattle.normal_forms.specs.Decomposition.{expand}
use Rattle.normal_forms.specs.Order.{is_reorderable, insert, order}
use Rattle.normal_forms.specs.Composition.{is_blocked, joined, visit, compose_from, compose}
use Rattle.std.proofs.lemmas.List.Elements.{All-weaker}
use Rattle.normal_forms.specs.Hypotheses.{HasFaithfulResults, HasFullLists, HasNonemptyLists, HasScalarResults, HasStarterResults, HasTextLists, SuitsForm}
use Rattle.normal_forms.specs.Forms.{Form, Decomposing, Composing, nfd, nfc, normal_form}

-- what a visit makes of a character and what follows it
abbrev visited : Option ℕ → ℕ → List ℕ → List ℕ → List ℕ
visited o a between rest = elim o [ Some composite ↦ composite ∷ between | None ↦ a ∷ rest ]

module _ (d e : Reading) (lists : (c : ℕ) → d.list c ≡ e.list c) (classes : (c : ℕ) → d.class c ≡ e.class c) where
  expand-alike : (x : List ℕ) → expand d x ≡ expand e x
  unfolding expand
  expand-alike [] = refl
  expand-alike (c ∷ x) = ap (λ l. l ++ expand d x) (lists c) ∙ ap (λ l. e.list c ++ l) (expand-alike x)

  is_reorderable-alike : (c f : ℕ) → is_reorderable d c f ≡ is_reorderable e c f
  unfolding is_reorderable
  is_reorderable-alike c f =
      ap (λ k. nat_lt 0 k && nat_lt k (d.class c)) (classes f) ∙ ap (λ k. nat_lt 0 (e.class f) && nat_lt (e.class f) k) (classes c)

  insert-alike : (c : ℕ) (w : List ℕ) → insert d c w ≡ insert e c w
  unfolding insert
  insert-alike c [] = refl
  insert-alike c (f ∷ w) =
      ap (λ b. if b then f ∷ insert d c w else c ∷ f ∷ w) (is_reorderable-alike c f)
      ∙ ap (λ l. if is_reorderable e c f then f ∷ l else c ∷ f ∷ w) (insert-alike c w)

  order-alike : (x : List ℕ) → order d x ≡ order e x
  unfolding order
  order-alike [] = refl
  order-alike (c ∷ x) = ap (insert d c) (order-alike x) ∙ insert-alike c (order e x)

  -- the decomposing form looks at no pairs
  pub nfd-alike : (x : List ℕ) → nfd d x ≡ nfd e x
  unfolding nfd
  nfd-alike x = ap (order d) (expand-alike x) ∙ order-alike (expand e x)

  is_blocked-alike : (between : List ℕ) (c : ℕ) → is_blocked d between c ≡ is_blocked e between c
  unfolding is_blocked
  is_blocked-alike [] c = refl
  is_blocked-alike (b ∷ between) c =
      ap (λ k. ((k == 0) || nat_le (d.class c) k) || is_blocked d between c) (classes b)
      ∙ ap (λ k. ((e.class b == 0) || nat_le k (e.class b)) || is_blocked d between c) (classes c)
      ∙ ap (λ blocked. ((e.class b == 0) || nat_le (e.class c) (e.class b)) || blocked) (is_blocked-alike between c)

  module _ (pairs : (a b : ℕ) → d.pair a b ≡ e.pair a b) where
    joined-alike : (a : ℕ) (between : List ℕ) (c : ℕ) → joined d a between c ≡ joined e a between c
    unfolding joined
    joined-alike a between c =
        ap (λ k. if (k == 0) && not (is_blocked d between c) then d.pair a c else None) (classes a)
        ∙ ap (λ blocked. if (e.class a == 0) && not blocked then d.pair a c else None) (is_blocked-alike between c)
        ∙ ap (λ o. if (e.class a == 0) && not (is_blocked e between c) then o else None) (pairs a c)

    visit-alike : (x : List ℕ) (c : ℕ) → visit d x c ≡ visit e x c
    unfolding visit
    visit-alike [] c = refl
    visit-alike (a ∷ between) c =
        ap (λ o. visited o a between (visit d between c)) (joined-alike a between c) ∙ ap (visited (joined e a between c) a between) (visit-alike between c)

    compose_from-alike : (x rest : List ℕ) → compose_from d x rest ≡ compose_from e x rest
    unfolding compose_from
    compose_from-alike x [] = refl
    compose_from-alike x (c ∷ rest) = ap (λ l. compose_from d l rest) (visit-alike x c) ∙ compose_from-alike (visit e x c) rest

    compose-alike : (x : List ℕ) → compose d x ≡ compose e x
    unfolding compose
    compose-alike x = compose_from-alike [] x

    pub nfc-alike : (x : List ℕ) → nfc d x ≡ nfc e x
    unfolding nfc
    nfc-alike x = ap (compose d) (nfd-alike x) ∙ compose-alike (nfd e x)

pub normal_form-alike : (d e : Reading) → AreAlike d e → (form : Form) (x : List ℕ) → normal_form d form x ≡ normal_form e form x
unfolding normal_form
normal_form-alike d e alike Decomposing x = nfd-alike d e alike.lists alike.classes x
normal_form-alike d e alike Composing x = nfc-alike d e alike.lists alike.classes alike.pairs x

-- if a reading satisfies the hypotheses of the laws, so does one that says the same
module _ (d e : Reading) (alike : AreAlike d e) where
  HasFullLists-alike : HasFullLists d → HasFullLists e
  HasFullLists-alike full = record {
    members = λ c. subst (All (ReadsAsItself e)) (alike.lists c) (All-weaker (ReadsAsItself d) (ReadsAsItself e) (λ m itself. sym (alike.lists m) ∙ itself) (d.list c) (full.members c));
  }

  HasStarterResults-alike : HasStarterResults d → HasStarterResults e
  HasStarterResults-alike starts = record { starters = λ a c r joins. sym (alike.classes r) ∙ starts.starters a c r (alike.pairs a c ∙ joins) }

  HasFaithfulResults-alike : HasFaithfulResults d → HasFaithfulResults e
  HasFaithfulResults-alike faithful = record {
    results = λ a c r joins.
        sym (alike.lists r) ∙ faithful.results a c r (alike.pairs a c ∙ joins) ∙ order-alike d e alike.lists alike.classes (d.list a ++ d.list c)
        ∙ ap₂ (λ x y. order e (x ++ y)) (alike.lists a) (alike.lists c);
  }

  pub HasNonemptyLists-alike : HasNonemptyLists d → HasNonemptyLists e
  HasNonemptyLists-alike are_nonempty = record { are_nonempty = λ c empty. are_nonempty.are_nonempty c (alike.lists c ∙ empty) }

  pub HasTextLists-alike : HasTextLists d → HasTextLists e
  HasTextLists-alike texts = record { texts = λ c is. subst IsText (alike.lists c) (texts.texts c is) }

  pub HasScalarResults-alike : HasScalarResults d → HasScalarResults e
  HasScalarResults-alike results = record { scalars = λ a c r first second joins. results.scalars a c r first second (alike.pairs a c ∙ joins) }

  pub SuitsForm-alike : (form : Form) → SuitsForm d form → SuitsForm e form
  SuitsForm-alike Decomposing suits = HasFullLists-alike suits
  SuitsForm-alike Composing suits = (HasFullLists-alike suits.0, HasStarterResults-alike suits.1, HasFaithfulResults-alike suits.2)
