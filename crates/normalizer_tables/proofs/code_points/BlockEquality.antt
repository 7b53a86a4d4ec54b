-- Stored words are equal exactly if the blocks and their numbers are.
use Rattle.std.proofs.Common.{◌≡◌, ◌&&◌, ℕ, List, nat_eq, ap, sym, ◌∙◌}
use Rattle.std.specs.Cmp.Lexicographic.{pointwise, bytes_decides}
use lib.Pointwise.{pointwise_decides}
use Rattle.normalizer_tables.specs.Table.{Block, block_places}
use Rattle.normalizer_tables.specs.inner.Blocks.{blocks_to, numbers_to, stored_words, IsStored}
use Rattle.normalizer_tables.proofs.code_points.StoredParts.{same_parts}

pub stored_alike : (bs cs : List Block) (ns ms : List ℕ) → IsStored bs ns (stored_words bs ns) → IsStored cs ms (stored_words cs ms)
    → (pointwise nat_eq ns ms && pointwise (pointwise nat_eq) bs cs) ≡ pointwise nat_eq (stored_words bs ns) (stored_words cs ms)
stored_alike bs cs ns ms s t =
    same_parts (λ numbers blocks. stored_words blocks numbers) ns ms bs cs (λ e. s.in_order ∙ ap (λ ws. numbers_to ws block_places) e ∙ sym t.in_order)
    (λ e. s.in_blocks ∙ ap (λ ws. blocks_to ws block_places) e ∙ sym t.in_blocks)
    (bytes_decides ns ms) (pointwise_decides bytes_decides bs cs) (bytes_decides (stored_words bs ns) (stored_words cs ms))
