-- Text whose units are its characters.
use Rattle.std.proofs.Common.{◌≡◌, ℕ, ◌==◌, true, length, List, [], ◌∷◌, ◌++◌, append-nil, append_assoc, refl, sym, ap, subst, ◌∙◌, Ok, arith}
use lib.Utf8.{scalar}
use Rattle.std.proofs.lemmas.Bool.{cond-true, eqb-true}
use Rattle.std.proofs.lemmas.List.Elements.{All-append, All-cons, All-head, All-nil, All-tail}
use Rattle.std.specs.Char.{IsScalar}
use Rattle.std.specs.Prelude.{All, Option, Some, None, Result}
use Rattle.normalizer_text.specs.DecodingSteps.{Spells}
use Rattle.normalizer_iterators.specs.declared.error.NormalizeError.{NormalizeError}
use Rattle.normalizer_iterators.specs.declared.error.NormalizeError.TheVariants.{Memory}
use Rattle.normalizer_iterators.specs.Items.{SpellsUnless}
use Rattle.normalizer_iterators.proofs.items.ItemLemmas.{SpellsUnless-next}
use Rattle.normalizer_calls.specs.Utf32.{decoded_unit, decoded_utf32, TakesUnit}
use Rattle.normalizer_calls.proofs.results.ItemsSoFar.{CameSoFar, CameSoFar-end, CameSoFar-more, CameSoFar-none}

-- an iterator that takes a unit each time yields the characters of all of them
pub Spells-units : (units : List ℕ) → Spells TakesUnit units (decoded_utf32 units)
Spells-units [] = λ x j p. absurd (let none : [] ≡ p.0 ∷ j = p.1 in cc)
Spells-units (u ∷ us) = (
  λ j p. absurd (let none : u ∷ us ≡ [] = p.0 in cc),
  λ x j p.
      let both : u ∷ us ≡ p.0 ∷ j = p.1 in
      let first : u ≡ p.0 = cc in
      let rest : us ≡ j = cc in
      (p.2 ∙ ap decoded_unit (sym first), subst (λ y. Spells TakesUnit y (decoded_utf32 us)) rest (Spells-units us)),
)

-- characters decode to themselves
pub decoded_utf32-characters : (units : List ℕ) → All IsScalar units → decoded_utf32 units ≡ units
decoded_utf32-characters [] all = refl
decoded_utf32-characters (u ∷ us) all =
    let first : decoded_unit u ≡ u = cond-true (scalar u) u 0xFFFD (All-head IsScalar u us all) in
    let rest = decoded_utf32-characters us (All-tail IsScalar u us all) in
    ap (λ c. c ∷ decoded_utf32 us) first ∙ ap (λ l. u ∷ l) rest

-- a list without elements
pub no_elements : (l : List ℕ) → (length l == 0) ≡ true → l ≡ []
no_elements [] is = refl
no_elements (c ∷ l) is = absurd (omega (arith, eqb-true (length (c ∷ l)) 0 is))

-- ---- the items of an iterator beside units

append_cancels : (front a b : List ℕ) → front ++ a ≡ front ++ b → a ≡ b
append_cancels [] a b is = is
append_cancels (c ∷ front) a b is = append_cancels front a b (cc)

-- the items so far were the units before those that are left
pub record SameSoFar {I : Type 0} (gives : I → Option (Result ℕ NormalizeError) → I → Type 0) (start : I) (units : List ℕ) (items : I) (left : List ℕ) : Type 0 where
  pub front : List ℕ
  pub parts : units ≡ front ++ left
  pub came : CameSoFar gives start front items

module _ {I : Type 0} {gives : I → Option (Result ℕ NormalizeError) → I → Type 0} where
  pub SameSoFar-none : (start : I) (units : List ℕ) → SameSoFar gives start units start units
  SameSoFar-none start units = record { front = []; parts = refl; came = CameSoFar-none start }

  module _ {start items next : I} {units left : List ℕ} (so_far : SameSoFar gives start units items left) where
    pub SameSoFar-more : (c : ℕ) (rest : List ℕ) → gives items (Some (Ok c)) next → left ≡ c ∷ rest → SameSoFar gives start units next rest
    SameSoFar-more c rest step is = record {
      front = so_far.front ++ c ∷ [];
      parts = so_far.parts ∙ ap (λ l. so_far.front ++ l) is ∙ sym (append_assoc so_far.front (c ∷ []) rest);
      came = CameSoFar-more so_far.came c step;
    }

    -- a character came that isn't the next unit
    pub SameSoFar-other : (c : ℕ) → gives items (Some (Ok c)) next → ((rest : List ℕ) → left ≡ c ∷ rest → ⊥)
        → (x : List ℕ) → SpellsUnless gives Memory start x → x ≡ units → ⊥
    SameSoFar-other c step other x h same =
        let came = so_far.came.came x h in
        let one = SpellsUnless-next gives Memory items next c came.0 step came.2 in
        other one.0 (append_cancels so_far.front left (c ∷ one.0) (sym so_far.parts ∙ sym same ∙ came.1 ∙ ap (λ l. so_far.front ++ l) one.1))

    -- no character is left
    pub SameSoFar-left : gives items None next → (x : List ℕ) → SpellsUnless gives Memory start x → x ≡ units → left ≡ []
    SameSoFar-left step x h same =
        append_cancels so_far.front left [] (sym so_far.parts ∙ sym same ∙ CameSoFar-end so_far.came step x h ∙ sym (append-nil so_far.front))

    pub SameSoFar-all : gives items None next → left ≡ [] → (x : List ℕ) → SpellsUnless gives Memory start x → x ≡ units
    SameSoFar-all step none x h = CameSoFar-end so_far.came step x h ∙ sym (append-nil so_far.front) ∙ ap (λ l. so_far.front ++ l) (sym none) ∙ sym so_far.parts

-- ---- units that pass

-- the units so far are characters
pub IsScalar-more : (x : List ℕ) (c : ℕ) → All IsScalar x → IsScalar c → All IsScalar (x ++ c ∷ [])
IsScalar-more x c all scalar = All-append IsScalar x (c ∷ []) all (All-cons IsScalar c [] scalar (All-nil IsScalar))
