use Rattle.std.specs.List.{flat_map}
use Rattle.normalizer_records.specs.Ranges.{entries_of}
use Rattle.normalizer_ucd.specs.IdnaTable.{uts46_records_beside}
use Rattle.normalizer_ucd.proofs.Covers.{whole}
use Rattle.normalizer_ucd.proofs.Reading.{gives}
use Rattle.normalizer_ucd.proofs.idna_table.uts46_ranges_beside_exclusions.Goals as goal

pub returns-clause-records : goal.returns-clause-records
unfolding uts46_records_beside
returns-clause-records c = gives (λ v. v.items) (flat_map entries_of) _ _ _ c.read_table.ensures

pub returns-clause-whole : goal.returns-clause-whole
returns-clause-whole c =
    whole (λ v. v.items) c.args.composition_exclusions.now c.args.table.now _ _ c.read_table.ensures
