use Rattle.std.proofs.Common.{◌%◌, ◌∙◌, get_or, ap, sym, arith}
use Rattle.normalizer_tables.proofs.code_points.BlockLemmas.{length-numbers, place-within, block_at-looked_up, get_or-stored_words, stored_number-within}
use Rattle.normalizer_tables.proofs.blocks.Blocks.word.Goals as goal

pub index-block-requires : goal.index-block-requires
index-block-requires c = omega (arith, place-within _ c.requires, length-numbers _ _ _ c.self.invariant, c.self.inside.numbers.ok.0)

pub index-requires : goal.index-requires
index-requires c =
    omega (arith, stored_number-within _ _ _ c.self.invariant _ _ (place-within _ c.requires) c.index-block.ensures, c.self.inside.blocks.ok.0)

pub returns : goal.returns
returns c =
    let is = block_at-looked_up _ _ _ c.self.invariant _ _ (place-within _ c.requires) c.index-block.ensures _ c.index.ensures in
    rw (← c.self.view_is) (ap (λ b. get_or b (c.args.number % 64) 0) is ∙ sym (get_or-stored_words _ _ _ _ c.requires))
