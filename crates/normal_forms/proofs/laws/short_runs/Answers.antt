use Rattle.normal_forms.proofs.boundaries.ChunkLemmas.{HasShortRuns-rest, leading_fits, chunk_fits}
use Rattle.normal_forms.proofs.laws.short_runs.Goals as goal

pub returns-clause-rest : goal.returns-clause-rest
returns-clause-rest c = HasShortRuns-rest

pub returns-clause-leading : goal.returns-clause-leading
returns-clause-leading c = leading_fits

pub returns-clause-chunk : goal.returns-clause-chunk
returns-clause-chunk c = chunk_fits
