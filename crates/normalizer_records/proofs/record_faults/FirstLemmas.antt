-- The first element of a list of which something holds.
use Rattle.std.proofs.Common.{◌≡◌, ℕ, suc, ◌+◌, ◌-◌, ◌≤◌, ◌<◌, ◌↔◌, Bool, true, false, List, [], ◌∷◌, ◌++◌, length, get_or, take, drop, map}
use Rattle.std.proofs.Common.{All, Contains, IsTrue, Option, Some, None, refl, sym, ap, subst, ◌∙◌, arith}
use Rattle.std.specs.Prelude.{AllPairs}
use Rattle.std.proofs.lemmas.Bool.{true≢false}
use Rattle.std.proofs.lemmas.Bool.Decides.{nat_tests}
use Rattle.std.proofs.lemmas.List.{take-append-drop, take_all, length-drop, get_or-map}
use Rattle.std.proofs.lemmas.List.Elements.{All-contains, All-more, All-cons, Contains-append_left, Contains-append_right, Contains-get_or}
use Rattle.std.proofs.lemmas.List.Kept.{AllPairs-cons}
use Rattle.std.proofs.Math.Seq.{drop-cons}
use Rattle.normalizer_records.specs.AtFault.{first_not_rising, IsCharacterOfFirst, IsFirstFound}

drop_step : {X : Type 0} (xs : List X) (i : ℕ) (d : X) → i < length xs → drop i xs ≡ get_or xs i d ∷ drop (i + 1) xs
drop_step xs i d lt = let e : i + 1 ≡ suc i = omega arith in rw e (drop-cons xs i d lt)

-- by a loop
module _ {X : Type 0} (key : X → ℕ) (says : X → Bool → Type 0) (xs : List X) where
  pub goes_on : (i : ℕ) (x : X) → x ≡ get_or xs i x → i < length xs → All (λ y. says y false) (take i xs) → says x false →
      All (λ y. says y false) (take (i + 1) xs)
  goes_on i x is lt so_far other = All-more (λ y. says y false) xs i x lt so_far (subst (λ y. says y false) is other)

  pub found : (i : ℕ) (x : X) → x ≡ get_or xs i x → i < length xs → All (λ y. says y false) (take i xs) → says x true →
      IsFirstFound key says xs (Some (key x))
  unfolding IsFirstFound
  found i x is lt so_far here =
      let after : drop i xs ≡ x ∷ drop (i + 1) xs = drop_step xs i x lt ∙ ap (λ y. y ∷ drop (i + 1) xs) (sym is) in
      let parts : xs ≡ take i xs ++ x ∷ drop (i + 1) xs
      = sym (take-append-drop i xs) ∙ ap (λ ys. take i xs ++ ys) after in
      (x, take i xs, drop (i + 1) xs, parts, so_far, here, refl)

  pub none : (i : ℕ) → length xs ≤ i → All (λ y. says y false) (take i xs) → IsFirstFound key says xs None
  unfolding IsFirstFound
  none i le so_far = subst (All (λ y. says y false)) (take_all i xs le) so_far

-- by a test of each
pub by_test : {X : Type 0} (key : X → ℕ) (says : X → Bool → Type 0) (P : X → Type 0) → ((x : X) (b : Bool) → says x b → IsTrue b ↔ P x) →
    (xs : List X) (n : Option ℕ) → IsFirstFound key says xs n → IsCharacterOfFirst key P xs n
unfolding IsFirstFound IsCharacterOfFirst
by_test key says P tells xs None h = λ k d lt p. true≢false (sym ((tells _ false (h k d lt)).1 p))
by_test key says P tells xs (Some c) h =
    (h.0, (h.1, h.2, h.3, λ k d lt p. true≢false (sym ((tells _ false (h.4 k d lt)).1 p)), (tells h.0 true h.5).0 refl), h.6)

pub is_there : {X : Type 0} (xs before after : List X) (x : X) → xs ≡ before ++ x ∷ after → Contains xs x
is_there xs before after x parts =
    subst (λ ys. Contains ys x) (sym parts) (Contains-append_right before (x ∷ after) x (0, omega arith, refl))

pub alike : {X : Type 0} (key : X → ℕ) (P Q : X → Type 0) (xs : List X) → All (λ x. P x ↔ Q x) xs → (n : Option ℕ) →
    IsCharacterOfFirst key P xs n → IsCharacterOfFirst key Q xs n
unfolding IsCharacterOfFirst
alike key P Q xs same None h = λ k d lt q. h k d lt ((same k d lt).1 q)
alike key P Q xs same (Some c) (x, (before, after, parts, others, shows), is) = (
  x,
  (
    before,
    after,
    parts,
    λ k d lt q. others k d lt ((All-contains (λ x. P x ↔ Q x) xs (get_or before k d) same
        (subst (λ ys. Contains ys (get_or before k d)) (sym parts) (Contains-append_left before (x ∷ after) _ (Contains-get_or before k d lt)))).1 q),
    (All-contains (λ x. P x ↔ Q x) xs x same (is_there xs before after x parts)).0 shows,
  ),
  is,
)

-- what is read of an element
pub key_at : {X : Type 0} (key : X → ℕ) (xs : List X) (i : ℕ) (x : X) → x ≡ get_or xs i x → i < length xs → get_or (map key xs) i 0 ≡ key x
key_at key xs i x is lt = get_or-map key xs i x 0 lt ∙ ap key (sym is)

-- neighbours, one after another
pub rises_on : (xs : List ℕ) (i : ℕ) → 0 < i → i < length xs → get_or xs (i - 1) 0 < get_or xs i 0 →
    first_not_rising (drop (i - 1) xs) ≡ first_not_rising (drop i xs)
unfolding first_not_rising
rises_on xs i some lt less =
    let before : i - 1 + 1 ≡ i = omega arith in
    let first = drop_step xs (i - 1) 0 (omega arith) in
    let next = drop_step xs i 0 lt in
    rw (first, before, next) (grind (arith, nat_tests))

pub falls_at : (xs : List ℕ) (i : ℕ) → 0 < i → i < length xs → get_or xs i 0 ≤ get_or xs (i - 1) 0 →
    first_not_rising (drop (i - 1) xs) ≡ Some (get_or xs i 0)
unfolding first_not_rising
falls_at xs i some lt above =
    let before : i - 1 + 1 ≡ i = omega arith in
    let first = drop_step xs (i - 1) 0 (omega arith) in
    let next = drop_step xs i 0 lt in
    rw (first, before, next) (grind (arith, nat_tests))

pub short_rises : (xs : List ℕ) → length xs ≤ 1 → first_not_rising xs ≡ None
unfolding first_not_rising
short_rises [] le = refl
short_rises (x ∷ []) le = refl
short_rises (x ∷ y ∷ rest) le = absurd (omega arith)

pub ends : (xs : List ℕ) (i : ℕ) → length xs ≤ i → first_not_rising (drop (i - 1) xs) ≡ None
ends xs i le = short_rises (drop (i - 1) xs) (let e = length-drop (i - 1) xs in omega arith)

module _ {X : Type 0} (key : X → ℕ) where
  abbrev Rise : List X → Type 0
  Rise = AllPairs (λ x y. key x < key y)

  tail : (x : X) (xs : List X) → Rise (x ∷ xs) → Rise xs
  tail x xs h = λ i j d lt within. h (suc i) (suc j) d (omega arith) (omega arith)

  -- all rise exactly if no neighbours fall
  pub rise_unless : (xs : List X) → first_not_rising (map key xs) ≡ None → Rise xs
  unfolding first_not_rising
  rise_unless [] h = λ i j d lt within. absurd (omega arith)
  rise_unless (x ∷ []) h = λ i j d lt within. absurd (omega arith)
  rise_unless (x ∷ y ∷ rest) h =
      let less : key x < key y = grind (arith, nat_tests) in
      let next : first_not_rising (map key (y ∷ rest)) ≡ None = grind (arith, nat_tests) in
      let later = rise_unless (y ∷ rest) next in
      AllPairs-cons (λ x y. key x < key y) x (y ∷ rest)
      (All-cons (λ z. key x < key z) y rest less (λ k d lt. let beyond = later 0 (suc k) d (omega arith) (omega arith) in omega arith)) later

  pub fall_if : (xs : List X) (c : ℕ) → first_not_rising (map key xs) ≡ Some c → ¬ Rise xs
  unfolding first_not_rising
  fall_if [] c h rising = absurd (grind arith)
  fall_if (x ∷ []) c h rising = absurd (grind arith)
  fall_if (x ∷ y ∷ rest) c h rising =
      let less : key x < key y = rising 0 1 x (omega arith) (omega arith) in
      let next : first_not_rising (map key (y ∷ rest)) ≡ Some c = grind (arith, nat_tests) in
      fall_if (y ∷ rest) c next (tail x (y ∷ rest) rising)
