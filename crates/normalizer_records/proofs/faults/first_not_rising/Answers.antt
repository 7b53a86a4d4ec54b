use Rattle.std.proofs.Common.{◌≡◌, ◌+◌, ◌-◌, ◌<◌, ◌≤◌, Some, ap, arith, get_or, map, sym, ◌∙◌}
use Rattle.std.proofs.lemmas.List.{length-map}
use Rattle.normalizer_records.proofs.record_faults.FirstLemmas.{ends, falls_at, key_at, rises_on}
use Rattle.normalizer_records.proofs.faults.first_not_rising.Goals as goal

pub returns-then-c-character : goal.returns-then-c-character
returns-then-c-character g c =
    let key = g.T.HasCharacter.character in
    let xs = map key c.args.items.now in
    let i = c.loop-place.place in
    let same = length-map c.args.items.now key in
    let here = key_at key c.args.items.now i _ c.index-items-place.is c.loop-place-test.true in
    let before = key_at key c.args.items.now (i - 1) _ c.index-items-place-in-loop-place.is (omega arith) in
    let is = c.character-c.ensures in
    let was = c.character.ensures in
    let le : get_or xs i 0 ≤ get_or xs (i - 1) 0 = omega (arith, c.if-c-character.true) in
    ap Some (is ∙ sym here) ∙ sym (falls_at xs i (omega arith) (omega arith) le) ∙ c.loop-place.invariant

pub loop-place-preserved : goal.loop-place-preserved
loop-place-preserved g c =
    let key = g.T.HasCharacter.character in
    let xs = map key c.args.items.now in
    let i = c.loop-place.place in
    let same = length-map c.args.items.now key in
    let here = key_at key c.args.items.now i _ c.index-items-place.is c.loop-place-test.true in
    let before = key_at key c.args.items.now (i - 1) _ c.index-items-place-in-loop-place.is (omega arith) in
    let is = c.character-c.ensures in
    let was = c.character.ensures in
    let less : get_or xs (i - 1) 0 < get_or xs i 0 = omega (arith, c.if-c-character.false) in
    let e : i + 1 - 1 ≡ i = omega arith in
    rw e (sym (rises_on xs i (omega arith) (omega arith) less) ∙ c.loop-place.invariant)

pub returns : goal.returns
returns g c =
    let same = length-map c.args.items.now g.T.HasCharacter.character in
    sym (ends (map g.T.HasCharacter.character c.args.items.now) c.loop-place.place (omega (arith, c.loop-place-test.false)))
    ∙ c.loop-place.invariant
