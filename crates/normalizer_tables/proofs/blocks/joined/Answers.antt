use Rattle.std.proofs.Common.{arith, refl, sym, nat_eq, ap, length, length-append, ◌∙◌, ◌∷◌, []}
use Rattle.std.specs.Cmp.Lexicographic.{pointwise}
use Rattle.std.proofs.lemmas.Bool.{le-ltb}
use Rattle.std.proofs.lemmas.Option.{cond_some}
use Rattle.normalizer_tables.proofs.code_points.BlockLemmas.{number_in-le, position-None}
use Rattle.normalizer_tables.proofs.blocks.joined.Goals as goal

pub returns-in-Some : goal.returns-in-Some
returns-in-Some c =
    let at = cond_some _ _ _ (sym (rw c.deref.ensures.value at c.in-Some.ensures)) in
    rw at.0 (refl, sym at.1)

pub returns : goal.returns
returns c =
    let none = position-None (pointwise nat_eq c.args.block) c.args.blocks.now.items (rw c.deref.ensures.value at (sym (rw c.in_default.is at c.number_of.ensures))) in
    let items = c.in_ok-push_block.ensures in
    let long = ap length items ∙ length-append c.args.blocks.now.items (c.args.block ∷ []) in
    rw (le-ltb _ _ none) (items, omega (arith, none, number_in-le c.args.blocks.now.items c.args.block, c.len.ensures, long, c.push_block.new.blocks.ok.0))
