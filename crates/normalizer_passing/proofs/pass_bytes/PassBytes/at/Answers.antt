use Rattle.std.proofs.Common.{◌+◌, ◌*◌, arith, sym, ◌∙◌}
use Rattle.normalizer_passing.proofs.ByteLemmas.{byte_of-all, looked_up}
use Rattle.normalizer_passing.proofs.pass_bytes.PassBytes.at.Goals as goal

pub returns : goal.returns
returns c =
    let blocks = c.self.inside.blocks.items in
    let numbers = c.self.inside.numbers.items in
    let are = c.self.invariant.numbered in
    rw (← c.self.view_is) (looked_up blocks numbers c.args.block c.args.place c.index.result.now c.index-2.result.now are.within (omega (arith, are.long, c.requires.block)) c.requires.place
    c.index.ensures c.index-2.ensures ∙ sym (byte_of-all blocks numbers (64 * c.args.block + c.args.place) (let b = c.requires.block in let p = c.requires.place in omega arith)))
