use Rattle.std.proofs.Common.{◌≡◌, get_or, ap, arith, subst, sym, ◌∙◌}
use Rattle.std.proofs.lemmas.List.{take_more}
use Rattle.std.proofs.lemmas.List.Elements.{All-nil}
use Rattle.std.specs.Char.{IsScalar}
use Rattle.normalizer_passing.specs.PassBytes.{byte_of, least_after}
use Rattle.normalizer_calls.proofs.passthrough.RunParts.{OwnSoFar, OwnSoFar-more, OwnSoFar-none}
use Rattle.normalizer_calls.proofs.results.Utf32Lemmas.{IsScalar-more}
use Rattle.normalizer_calls.proofs.utf32.is_seen_to_pass.Goals as goal

pub loop-unit-init : goal.loop-unit-init
loop-unit-init g c = (All-nil IsScalar, OwnSoFar-none _ _)

pub loop-unit-preserved : goal.loop-unit-preserved
loop-unit-preserved g c =
    let m = g.N.Forming.made_form c.args.normalizer.now in
    let bytes = c.bytes-bytes.result.now in
    let unit = get_or c.args.units.now c.loop-unit.unit-index 0 in
    let so_far = c.loop-unit.invariant in
    let is = c.in-Some.ensures.value in
    let byte : c.of-byte.result ≡ byte_of bytes unit = rw (← is.1) c.of-byte.ensures in
    let least : c.least_after-least.result ≡ least_after (byte_of bytes unit) = c.least_after-least.ensures ∙ ap least_after byte in
    rw (take_more c.args.units.now c.loop-unit.unit-index 0 c.loop-unit-test.true) (
      IsScalar-more _ unit so_far.0 is.0,
      subst (OwnSoFar m.reading m.form _) (sym least)
          (OwnSoFar-more m.reading m.form g.N.Forming.held_back bytes c.bytes-bytes.ensures _ c.loop-unit.least unit so_far.1 is.0 (omega (arith, byte, c.if-byte-least.false))),
    )
