use Rattle.std.specs.List.{flat_map}
use Rattle.icu_normalizer.specs.MapperRanges.{entries_of}
use Rattle.normalizer_handles.specs.Opening.{AreBy, IsBuildFault}
use Rattle.normalizer_handles.proofs.OpeningLemmas.{holds-of}
use Rattle.normalizer_handles.proofs.opening.open.Goals as goal
use Rattle.normalizer_ucd.specs.RecordPlaces.{place_of_record}

pub returns : goal.returns
returns c =
    let listed = flat_map entries_of c.args.mapper.now in
    let places = place_of_record c.args.lines.now.unicode_data.now c.args.lines.now.idna_table.now in
    holds-of (AreBy c.args.records.now listed c.args.version) (IsBuildFault places c.args.records.now listed)
    c.in_ok-normalizers.normalizers _ _ _ c.hold.ensures c.in_ok-normalizers.ensures tt
