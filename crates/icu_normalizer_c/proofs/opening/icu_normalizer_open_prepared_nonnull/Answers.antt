use Rattle.icu_normalizer_c.proofs.opening.icu_normalizer_open_prepared_nonnull.Goals as goal

pub returns-clause-records : goal.returns-clause-records
returns-clause-records c = λ records mapper p builds file. (
  c.open_prepared.result,
  c.status_reporting.ensures.status,
  c.open_prepared.ensures.records records mapper p builds file,
)
