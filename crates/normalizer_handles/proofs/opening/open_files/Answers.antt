use Rattle.std.specs.List.{flat_map}
use Rattle.icu_normalizer.specs.MapperRanges.{entries_of}
use Rattle.normalizer_handles.proofs.OpeningLemmas.{holds-both}
use Rattle.normalizer_handles.proofs.opening.open_files.Goals as goal
use Rattle.normalizer_ucd.specs.RecordPlaces.{place_of_record}

pub returns : goal.returns
returns c =
    holds-both (place_of_record c.args.unicode_data.now c.args.idna_table.now) _ _ c.in_ok-version.ensures _ _
    c.in_ok-records.records.items (flat_map entries_of c.in_ok-mapper.mapper.items) c.in_ok-records.ensures
    c.in_ok-mapper.ensures _ _ _ (rw (c.deref.ensures.value, c.deref-2.ensures.value) at c.open.ensures)
