use Rattle.normal_forms.proofs.boundaries.ChunkLemmas.{nfd-before_chunk, nfd-chunk}
use Rattle.normal_forms.proofs.laws.lazy_reading.Goals as goal

pub returns-clause-leading : goal.returns-clause-leading
returns-clause-leading c = nfd-before_chunk

pub returns-clause-chunk : goal.returns-clause-chunk
returns-clause-chunk c = nfd-chunk
