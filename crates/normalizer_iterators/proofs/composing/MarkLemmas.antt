-- Marks that stay after a starter, one by one.
use Rattle.std.proofs.Common.{◌≡◌, ℕ, ◌+◌, true, false, ◌&&◌, nat_lt, nat_le, List, [], ◌∷◌, ◌++◌, max, suc, Some, None, refl, sym, ap, ◌∙◌, arith, inl, inr}
use Rattle.std.proofs.Math.Bool.{and-true}
use Rattle.std.proofs.lemmas.Bool.{le-ltb, cond-true, cond-false}
use Rattle.std.proofs.lemmas.Bool.Decides.{leb_tells}
use Rattle.std.proofs.lemmas.List.Folds.{list_all-append}
use Rattle.std.proofs.Math.Dec.{leb-zero}
use Rattle.std.specs.List.{list_all}
use Rattle.normal_forms.specs.Reading.{Reading, IsStarter}
use Rattle.normal_forms.specs.CompositionByStarters.{is_above, join}
use Rattle.normal_forms.proofs.composing.CompositionOfMarks.{is_above-nil}

pub is_above-push_any : (d : Reading) (p : List ℕ) (m c : ℕ) → is_above d (p ++ m ∷ []) c ≡ (is_above d p c && nat_lt (d.class m) (d.class c))
unfolding is_above
is_above-push_any d p m c =
    list_all-append (λ b. nat_lt (d.class b) (d.class c)) p (m ∷ [])
    ∙ ap (λ b. is_above d p c && b) (and-true (nat_lt (d.class m) (d.class c)))

-- no mark blocks if there is none
pub is_above-none : (d : Reading) (p : List ℕ) (c : ℕ) → p ≡ [] → is_above d p c ≡ nat_le 0 (d.class c)
is_above-none d p c none = ap (λ l. is_above d l c) none ∙ is_above-nil d c ∙ sym (leb-zero (d.class c))

passes_both : (u m k : ℕ) → (nat_le u k && nat_lt m k) ≡ nat_le (max u (m + 1)) k
passes_both u m k =
    elim (leb_tells u k) [
      | inl low ↦
          elim (leb_tells (suc m) k) [
            | inl above ↦
                elim (leb_tells (max u (m + 1)) k) [
                  | inl both ↦ ap (λ b. b && nat_lt m k) low.0 ∙ above.0 ∙ sym both.0
                  | inr not_both ↦ absurd (omega (arith, low.1, above.1, not_both.1))
                ]
            | inr not_above ↦
                elim (leb_tells (max u (m + 1)) k) [
                  | inl both ↦ absurd (omega (arith, not_above.1, both.1))
                  | inr not_both ↦ ap (λ b. b && nat_lt m k) low.0 ∙ not_above.0 ∙ sym not_both.0
                ]
          ]
      | inr not_low ↦
          elim (leb_tells (max u (m + 1)) k) [
            | inl both ↦ absurd (omega (arith, not_low.1, both.1))
            | inr not_both ↦ ap (λ b. b && nat_lt m k) not_low.0 ∙ sym not_both.0
          ]
    ]

-- one more mark blocks the classes up to its own
pub is_above-one_more : (d : Reading) (p q : List ℕ) (m c u v : ℕ) → q ≡ p ++ m ∷ [] → is_above d p c ≡ nat_le u (d.class c) → v ≡ max u (d.class m + 1) → is_above d q c ≡ nat_le v (d.class c)
is_above-one_more d p q m c u v one_more before most =
    ap (λ l. is_above d l c) one_more ∙ is_above-push_any d p m c ∙ ap (λ b. b && nat_lt (d.class m) (d.class c)) before
    ∙ passes_both u (d.class m) (d.class c) ∙ ap (λ w. nat_le w (d.class c)) (sym most)

-- ---- a character is visited

pub join-above : (d : Reading) (a : ℕ) (p : List ℕ) (c : ℕ) → is_above d p c ≡ true → join d a p c ≡ d.pair a c
unfolding join
join-above d a p c above = cond-true _ _ _ above

pub join-blocked : (d : Reading) (a : ℕ) (p : List ℕ) (c : ℕ) → is_above d p c ≡ false → join d a p c ≡ None
unfolding join
join-blocked d a p c blocked = cond-false _ _ _ blocked

-- a starter joins only if no mark is between
pub join-starter : (d : Reading) (a : ℕ) (p : List ℕ) (c r : ℕ) → IsStarter d c → join d a p c ≡ Some r → p ≡ []
unfolding join is_above
join-starter d a [] c r starter joins = refl
join-starter d a (m ∷ p) c r starter joins =
    let low = le-ltb (d.class m) (d.class c) (omega arith) in
    let blocked : is_above d (m ∷ p) c ≡ false = ap (λ b. b && list_all (λ b. nat_lt (d.class b) (d.class c)) p) low in
    cc (joins, join-blocked d a (m ∷ p) c blocked)
