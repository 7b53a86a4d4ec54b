use Rattle.std.proofs.Common.{◌≡◌, ◌<◌, drop, length, take, sym, ap, ◌∙◌, arith, length-drop}
use Rattle.std.proofs.lemmas.List.{take-take, with_items_is}
use Rattle.std.specs.Vec.{vec_len, with_items}
use Rattle.normalizer_streams.proofs.CarriedLemmas.{Carries-behind}
use Rattle.normalizer_streams.proofs.carried.Carried.read_block.Goals as goal

pub returns-clause-carries : goal.returns-clause-carries
returns-clause-carries g c =
    let len = c.self.inside.len in
    let old = c.self.inside.buffer in
    let buffer = c.read_behind.new.buffer in
    let within = c.self.invariant in
    let kept : take len c.lengthen.new.buffer.items ≡ take len old.items =
    sym (take-take len (vec_len old) c.lengthen.new.buffer.items (omega (arith, within))) ∙ ap (take len) c.lengthen.ensures.front in
    let same = c.in-Ok.ensures.front ∙ ap (take len) c.deref_mut.ensures.value ∙ kept ∙ c.self.view_is in
    let room : 0 < length (drop len buffer) = omega (arith, length-drop len buffer, c.in-Ok.ensures.len, c.deref_mut.ensures.len, c.in_ok-lengthen.ensures.long) in
    let whole : (with_items c.lengthen.new.buffer buffer).items ≡ buffer = with_items_is c.lengthen.new.buffer buffer (c.in-Ok.ensures.len ∙ c.deref_mut.ensures.len) in
    Carries-behind _ _ _ buffer _ len c.in-Ok.count whole same c.in-Ok.ensures.count c.in-Ok.ensures.bytes.0 (λ none. c.in-Ok.ensures.bytes.1 none room)
