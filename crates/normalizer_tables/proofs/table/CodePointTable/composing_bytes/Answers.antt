use Rattle.std.proofs.lemmas.Result.{IfOk-weaker}
use Rattle.normalizer_tables.proofs.code_points.BlockBytes.{IfOk-both, IsComposingByte-without}
use Rattle.normalizer_tables.proofs.table.CodePointTable.composing_bytes.Goals as goal

pub returns : goal.returns
returns c = rw (← c.self.view_is) (IfOk-weaker c.bytes_without.result _ _
    (λ bytes is. IsComposingByte-without _ c.args.pairs.now bytes is.0 c.in_ok-stops.stops.items c.in_ok-stops.ensures (rw (← c.deref.ensures.value) is.1))
    (IfOk-both c.bytes_without.result _ _ (c.bytes_without.ensures.bytes c.self.inside.past) c.bytes_without.ensures.stops))
