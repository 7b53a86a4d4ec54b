-- What lines state is what a list of their records has, and lines that mean the same state the same.
use Rattle.std.proofs.Common.{◌≡◌, ◌↔◌, ◌⊎◌, inl, inr, ℕ, zero, suc, ◌+◌, Bool, true, false, List, [], ◌∷◌}
use Rattle.std.proofs.Common.{Contains, IsSomeAnd, Option, Some, None, refl, sym, ap, subst, ◌∙◌, arith}
use Rattle.std.specs.Prelude.{filter_map, flat_map}
use Rattle.std.specs.List.{cons_option}
use Rattle.std.proofs.lemmas.List.Elements.{Contains-append_cases, Contains-append_left, Contains-append_right}
use Rattle.normalizer_ucd.specs.Fields.{data_of, has_data}
use Rattle.normalizer_ucd.specs.FileLines.{data_lines_from}
use Rattle.normalizer_ucd.specs.Layouts.{MeansTheSame, MeanTheSame}

-- one element of a list, and those after it
pub first_has : {X : Type 0} (x : X) (xs : List X) → Contains (x ∷ xs) x
first_has x xs = (0, omega arith, refl)

pub later_has : {X : Type 0} (x y : X) (xs : List X) → Contains xs y → Contains (x ∷ xs) y
later_has x y xs h = (suc h.0, omega (arith, h.1), h.2)

pub none_has : {X : Type 0} (x : X) → Contains [] x → ⊥
none_has x h = let lt = h.1 in omega arith

pub pick : {X : Type 0} (x y : X) (ys : List X) → Contains (y ∷ ys) x → (y ≡ x) ⊎ Contains ys x
pick x y ys (zero, lt, at) = inl at
pick x y ys (suc k, lt, at) = inr (k, omega arith, at)

-- what is found in the elements of a list
module _ {X Y : Type 0} (f : X → Option Y) where
  abbrev Finds : List X → Y → Type 0
  Finds xs y = (x : X) × Contains xs x × (f x ≡ Some y)

  pub found : (xs : List X) (y : Y) → Contains (filter_map f xs) y ↔ Finds xs y
  found xs y = (of_list xs, λ h. to_list xs h.0 h.1 h.2)
    where
      later : (x : X) (xs : List X) → Finds xs y → Finds (x ∷ xs) y
      later x xs h = (h.0, later_has x h.0 xs h.1, h.2)

      of_first : (x : X) (xs : List X) (o : Option Y) → f x ≡ o → (Contains (filter_map f xs) y → Finds xs y) →
          Contains (cons_option o (filter_map f xs)) y → Finds (x ∷ xs) y
      of_first x xs None is rest h = later x xs (rest h)
      of_first x xs (Some z) is rest h = elim (pick y z (filter_map f xs) h) [
        | inl same ↦ (x, first_has x xs, is ∙ ap Some same)
        | inr further ↦ later x xs (rest further)
      ]

      of_list : (xs : List X) → Contains (filter_map f xs) y → Finds xs y
      of_list [] h = absurd (none_has y h)
      of_list (x ∷ xs) h = of_first x xs (f x) refl (of_list xs) h

      kept : (o : Option Y) (ys : List Y) → Contains ys y → Contains (cons_option o ys) y
      kept None ys h = h
      kept (Some z) ys h = later_has z y ys h

      to_list : (xs : List X) (x : X) → Contains xs x → f x ≡ Some y → Contains (filter_map f xs) y
      to_list [] x has is = absurd (none_has x has)
      to_list (z ∷ xs) x has is = elim (pick x z xs has) [
        | inl same ↦
            subst (λ o. Contains (cons_option o (filter_map f xs)) y) (sym (ap f same ∙ is))
            (first_has y (filter_map f xs))
        | inr further ↦ kept (f z) (filter_map f xs) (to_list xs x further is)
      ]

-- the elements of lists, one list after another
module _ {X Y : Type 0} (f : X → List Y) where
  pub listed : (xs : List X) (y : Y) → Contains (flat_map f xs) y ↔ ((x : X) × Contains xs x × Contains (f x) y)
  listed xs y = (of_lists xs, λ h. to_lists xs h.0 h.1 h.2)
    where
      of_lists : (xs : List X) → Contains (flat_map f xs) y → (x : X) × Contains xs x × Contains (f x) y
      of_lists [] h = absurd (none_has y h)
      of_lists (x ∷ xs) h = elim (Contains-append_cases (f x) (flat_map f xs) y h) [
        | inl here ↦ (x, first_has x xs, here)
        | inr further ↦ let more = of_lists xs further in (more.0, later_has x more.0 xs more.1, more.2)
      ]

      to_lists : (xs : List X) (x : X) → Contains xs x → Contains (f x) y → Contains (flat_map f xs) y
      to_lists [] x has of_x = absurd (none_has x has)
      to_lists (z ∷ xs) x has of_x = elim (pick x z xs has) [
        | inl same ↦ Contains-append_left (f z) (flat_map f xs) y (subst (λ w. Contains (f w) y) (sym same) of_x)
        | inr further ↦ Contains-append_right (f z) (flat_map f xs) y (to_lists xs x further of_x)
      ]

-- a value that there is, and what holds of it
pub some_has : {X : Type 0} (o : Option X) (x : X) (P : X → Type 0) → o ≡ Some x → P x → IsSomeAnd o P
some_has o x P is holds = subst (λ p. IsSomeAnd p P) (sym is) holds

pub has_some : {X : Type 0} (o : Option X) (P : X → Type 0) → IsSomeAnd o P → (x : X) × (o ≡ Some x) × P x
has_some None P h = absurd h
has_some (Some x) P h = (x, refl, h)

-- what lines that mean the same state
module _ {B : Type 0} (f : List ℕ → Option B)
    (same : (line other : List ℕ) → MeansTheSame line other → f (data_of line) ≡ f (data_of other)) where
  abbrev stated_in : ℕ → Option (List ℕ) → List (List ℕ) → List B
  stated_in n before parts = filter_map (λ l. f l.text) (data_lines_from n before parts)

  pub same_stated : (n : ℕ) (before begun : Option (List ℕ)) (parts others : List (List ℕ)) → MeanTheSame parts others →
      stated_in n before parts ≡ stated_in n begun others
  same_stated n before begun [] [] h = refl
  same_stated n before begun [] (other ∷ others) h = absurd h
  same_stated n before begun (line ∷ parts) [] h = absurd h
  same_stated n before begun (line ∷ parts) (other ∷ others) h =
      by (has_data line) refl (sym h.0.blank) (λ b c. same_stated (n + 1) b c parts others h.1)
    where
      by : (b : Bool) → has_data line ≡ b → has_data other ≡ has_data line →
          ((b c : Option (List ℕ)) → stated_in (n + 1) b parts ≡ stated_in (n + 1) c others) →
          stated_in n before (line ∷ parts) ≡ stated_in n begun (other ∷ others)
      by true is alike rest =
          rw (alike, is, same line other h.0, rest (Some (data_of line)) (Some (data_of other))) refl
      by false is alike rest = rw (alike, is, rest before begun) refl
