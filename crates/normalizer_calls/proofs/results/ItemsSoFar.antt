-- The items of an iterator that came so far.
use Rattle.std.proofs.Common.{◌≡◌, ℕ, List, [], ◌∷◌, ◌++◌, append-nil, append_assoc, refl, sym, ap, ◌∙◌, Ok, Err}
use Rattle.std.specs.Prelude.{Option, Some, None, Result}
use Rattle.normalizer_iterators.specs.declared.error.NormalizeError.{NormalizeError}
use Rattle.normalizer_iterators.specs.declared.error.NormalizeError.TheVariants.{Memory}
use Rattle.normalizer_iterators.specs.Items.{SpellsOk, SpellsUnless}
use Rattle.normalizer_iterators.proofs.items.ItemLemmas.{SpellsUnless-next, SpellsUnless-end, SpellsUnless-fault, SpellsOk-next, SpellsOk-no_fault}

-- these characters came: a text that is spelled begins with them, and what comes after them is still to come
pub record CameSoFar {I : Type 0} (gives : I → Option (Result ℕ NormalizeError) → I → Type 0) (start : I) (front : List ℕ) (items : I) : Type 0 where
  pub came : (x : List ℕ) → SpellsUnless gives Memory start x → (rest : List ℕ) × (x ≡ front ++ rest) × SpellsUnless gives Memory items rest
  pub room : (x : List ℕ) → SpellsOk gives start x → (rest : List ℕ) × SpellsOk gives items rest

module _ {I : Type 0} {gives : I → Option (Result ℕ NormalizeError) → I → Type 0} where
  pub CameSoFar-none : (start : I) → CameSoFar gives start [] start
  CameSoFar-none start = record { came = λ x h. (x, refl, h); room = λ x h. (x, h) }

  module _ {start items next : I} {front : List ℕ} (so_far : CameSoFar gives start front items) where
    pub CameSoFar-more : (c : ℕ) → gives items (Some (Ok c)) next → CameSoFar gives start (front ++ c ∷ []) next
    CameSoFar-more c step = record {
      came = λ x h.
          let came = so_far.came x h in
          let one = SpellsUnless-next gives Memory items next c came.0 step came.2 in
          (one.0, came.1 ∙ ap (λ l. front ++ l) one.1 ∙ sym (append_assoc front (c ∷ []) one.0), one.2);
      room = λ x h. let came = so_far.room x h in let one = SpellsOk-next gives items next c came.0 step came.1 in (one.0, one.2);
    }

    -- no character is left
    pub CameSoFar-end : gives items None next → (x : List ℕ) → SpellsUnless gives Memory start x → x ≡ front
    CameSoFar-end step x h =
        let came = so_far.came x h in
        came.1 ∙ ap (λ l. front ++ l) (SpellsUnless-end gives Memory items next came.0 step came.2).0 ∙ append-nil front

    pub CameSoFar-fault : (fault : NormalizeError) → gives items (Some (Err fault)) next → (x : List ℕ) → SpellsUnless gives Memory start x → fault ≡ Memory
    CameSoFar-fault fault step x h = let came = so_far.came x h in (SpellsUnless-fault gives Memory items next fault came.0 step came.2).0

    pub CameSoFar-room : (fault : NormalizeError) → gives items (Some (Err fault)) next → (x : List ℕ) → SpellsOk gives start x → ⊥
    CameSoFar-room fault step x h = let came = so_far.room x h in SpellsOk-no_fault gives items next fault came.0 step came.1
