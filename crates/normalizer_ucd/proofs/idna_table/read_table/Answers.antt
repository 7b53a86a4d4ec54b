use Rattle.std.proofs.Common.{◌≡◌, map, sym}
use Rattle.normalizer_ucd.specs.declared.error.UcdFile.TheVariants.{IdnaMappingTable}
use Rattle.normalizer_ucd.specs.Fields.{lines}
use Rattle.normalizer_ucd.specs.FileFaults.{too_short}
use Rattle.normalizer_ucd.specs.FileLines.{data_lines}
use Rattle.normalizer_ucd.specs.Wholes.{cut_off}
use Rattle.normalizer_ucd.specs.Versions.{other_version, stated_in}
use Rattle.normalizer_ucd.proofs.Reading.{no_fault, none_after}
use Rattle.normalizer_ucd.proofs.idna_table.read_table.Goals as goal

pub returns : goal.returns
returns c =
    let table = c.args.table.now in
    let exclusions = c.args.composition_exclusions.now in
    let whole = no_fault (cut_off IdnaMappingTable table) (lines table) _ c.in_ok-parts.ensures in
    let listed : map (λ line. line.now) c.deref.result.now ≡ lines exclusions
    = rw c.deref.ensures.value c.in_ok-listed.ensures in
    let parts : map (λ line. line.now) c.deref-2.result.now ≡ lines table = rw c.deref-2.ensures.value (sym whole.1) in
    let again : map (λ line. line.now) c.deref-3.result.now ≡ lines table = rw c.deref-3.ensures.value (sym whole.1) in
    let same = no_fault (other_version (stated_in (lines exclusions)) IdnaMappingTable (stated_in (lines table)))
    (tt {0}) (tt {0}) (rw (listed, parts) at c.in_ok-agree.ensures) in
    let read = rw again at c.ranges_in.ensures in
    rw (whole.0, same.0, none_after (too_short (data_lines table))) read
