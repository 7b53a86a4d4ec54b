use Rattle.std.proofs.Common.{◌≡◌, List, IfOk, Result, Ok, Err, subst, sym}
use Rattle.normalizer_builder.specs.Building.{Builds}
use Rattle.normalizer_packing.specs.ReadBack.{characters_of}
use Rattle.normalizer_packing.specs.declared.Packed.{Packed}
use Rattle.normalizer_records.specs.RecordValue.{RecordValue, Uts46RecordValue}
use Rattle.normalizer_tables.specs.declared.entry.Kind.TheVariants.{Mapper}
use Rattle.normalizer_tables.specs.declared.provider.DataError.{DataError}
use Rattle.normalizer_tables.specs.declared.provider.DataMarkerInfo.TheVariants.{NormalizerUts46DataV1}
use Rattle.icu_normalizer.specs.ByRecords.{MapsByRecords}
use Rattle.icu_normalizer.specs.ComposingAcceptance.{RefusesToCompose}
use Rattle.icu_normalizer.specs.Mappers.{mapper_data_of}
use Rattle.icu_normalizer.specs.declared.uts46.Uts46Mapper.{Uts46Mapper}
use Rattle.icu_normalizer.proofs.MemoryAlone.{IsOkUnless-memory}
use Rattle.icu_normalizer.proofs.PackedForms.{packed-maps}
use Rattle.icu_normalizer.proofs.by_records.built_mapper.Goals as goal

-- a mapper over packed data that suit maps as the records mean
maps-over : (Suits : Type 0) (records : List RecordValue) (uts46 : List Uts46RecordValue) (p : Packed) → Builds records uts46 p
    → (r : Result Uts46Mapper DataError) → IfOk r (λ m. (mapper_data_of m ≡ (characters_of p Mapper, p.compositions)) × Suits)
    → IfOk r (λ m. MapsByRecords records uts46 (mapper_data_of m))
maps-over Suits records uts46 p builds (Ok m) held = subst (MapsByRecords records uts46) (sym held.0) (packed-maps records uts46 p builds.means)
maps-over Suits records uts46 p builds (Err e) held = tt

pub returns-clause-maps : goal.returns-clause-maps
returns-clause-maps c = λ records uts46 builds. maps-over _ records uts46 c.args.built.now.packed builds c.try_new.result c.try_new.ensures.0

pub returns-clause-refused : goal.returns-clause-refused
returns-clause-refused c =
    let met = c.what_is_built_is_accepted.ensures.mapper c.requires.0 c.requires.1 _ c.requires.2 in
    let never = c.data_that_meet_conditions_are_accepted.ensures.refused in
    let p = c.args.built.now.packed in
    IsOkUnless-memory (RefusesToCompose NormalizerUts46DataV1 (characters_of p Mapper, p.compositions)) (λ e refuses. never _ _ NormalizerUts46DataV1 e met refuses) _ c.try_new.ensures.1
