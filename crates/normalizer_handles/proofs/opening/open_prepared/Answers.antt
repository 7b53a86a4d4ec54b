use Rattle.icu_normalizer.specs.DataMarkerInfo.TheVariants.{NormalizerNfdDataV1, NormalizerUts46DataV1}
use Rattle.icu_normalizer.proofs.PackedForms.{packed-unrefused}
use Rattle.normalizer_handles.proofs.PreparedLemmas.{holds-by}
use Rattle.normalizer_handles.proofs.opening.open_prepared.Goals as goal

pub returns-clause-records : goal.returns-clause-records
returns-clause-records c = λ records mapper p builds file.
    let accepted = c.what_is_built_is_accepted.ensures in
    let never = c.data_that_meet_conditions_are_accepted.ensures.refused in
    let forms = packed-unrefused p never (accepted.nfd records mapper p builds) (accepted.nfc records mapper p builds)
    (accepted.nfkd records mapper p builds) (accepted.nfkc records mapper p builds) in
    holds-by records mapper p builds c.args.prepared.now file forms
    (λ e refuses. never _ _ NormalizerUts46DataV1 e (accepted.mapper records mapper p builds) refuses)
    (λ e refuses. never _ _ NormalizerNfdDataV1 e (accepted.steps records mapper p builds) refuses) _ _ _
    c.open_file.ensures
