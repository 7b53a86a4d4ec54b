-- How many blocks are stored.
use Rattle.std.proofs.Common.{◌≡◌, ℕ, ◌++◌, ◌||◌, Bool, false, List, [], ◌∷◌, length, map, nat_eq, ltb, refl, inl, inr, arith, ap, sym, ◌∙◌, zero, suc, zero-add, add-one}
use Rattle.std.specs.Cmp.Lexicographic.{pointwise, bytes_decides}
use Rattle.std.specs.List.{range_with_len, list_any, position_or_len, IsDistinct}
use Rattle.std.proofs.Math.Bool.{or-true, or-false}
use Rattle.std.proofs.lemmas.Bool.{cases_Bool, cond_both}
use Rattle.std.proofs.lemmas.Grind.{common_steps}
use Rattle.std.proofs.lemmas.Cmp.{nat_list_eq_equiv}
use Rattle.std.proofs.lemmas.List.Folds.{list_any-append}
use Rattle.std.proofs.lemmas.List.FromFn.{map-range_with_len_more}
use Rattle.std.proofs.lemmas.Map.Keys.{IsDistinct-push}
use Rattle.std.proofs.lemmas.Map.Made.{length-from_keys}
use Rattle.normalizer_tables.specs.Table.{Block, block_places, blocks_of, block_count}
use Rattle.normalizer_tables.specs.inner.Blocks.{block_of, number_in, blocks_to, IsStored}

any_at : {X : Type 0} (p : X → Bool) (xs : List X) → list_any p xs ≡ ltb (position_or_len p xs) (length xs)
any_at p [] = refl
any_at p (x ∷ xs) = grind (arith, common_steps, any_at p xs)

module _ (words : List ℕ) where
  blocks-distinct : (n : ℕ) → IsDistinct (pointwise nat_eq) (blocks_to words n)
  unfolding blocks_to IsDistinct
  blocks-distinct zero = tt
  blocks-distinct (suc n) =
      let bs = blocks_to words n in
      let b = block_of words n in
      cond_both (ltb (number_in bs b) (length bs)) bs (bs ++ b ∷ []) (IsDistinct (pointwise nat_eq)) (λ _. blocks-distinct n)
      (λ new. IsDistinct-push nat_list_eq_equiv bs b (blocks-distinct n) (any_at (pointwise nat_eq b) bs ∙ new))

  abbrev placed : ℕ → List Block
  placed n = map (block_of words) (range_with_len 0 n)

  -- they are those of the places
  blocks-alike : (n : ℕ) (q : Block) → list_any (pointwise nat_eq q) (blocks_to words n) ≡ list_any (pointwise nat_eq q) (placed n)
  unfolding blocks_to
  blocks-alike zero q = refl
  blocks-alike (suc n) q =
      let bs = blocks_to words n in
      let b = block_of words n in
      let more : placed (suc n) ≡ placed n ++ b ∷ [] = ap placed (sym (add-one n)) ∙ map-range_with_len_more (block_of words) 0 n n (zero-add n) in
      cond_both (ltb (number_in bs b) (length bs)) bs (bs ++ b ∷ []) (λ cs. list_any (pointwise nat_eq q) cs ≡ (list_any (pointwise nat_eq q) bs || (pointwise nat_eq q b || false)))
      (λ kept. elim (cases_Bool (pointwise nat_eq q b)) [
        | inl same ↦ ap (λ c. list_any (pointwise nat_eq c) bs) ((bytes_decides q b).0 same) ∙ any_at (pointwise nat_eq b) bs ∙ kept ∙ sym (rw same (or-true _))
        | inr other ↦ rw (other, or-false) refl
      ])
      (λ new. list_any-append (pointwise nat_eq q) bs (b ∷ []))
      ∙ ap (λ t. t || (pointwise nat_eq q b || false)) (blocks-alike n q) ∙ sym (ap (list_any (pointwise nat_eq q)) more ∙ list_any-append (pointwise nat_eq q) (placed n) (b ∷ []))

pub block_count-stored : (blocks : List Block) (numbers words : List ℕ) (above : ℕ) → IsStored blocks numbers words → length blocks ≡ block_count (record { words = words; past = above })
unfolding block_count blocks_of
block_count-stored blocks numbers words above s =
    ap length s.in_blocks ∙ length-from_keys nat_list_eq_equiv (blocks_to words block_places) (placed words block_places) (blocks-distinct words block_places) (blocks-alike words block_places)
