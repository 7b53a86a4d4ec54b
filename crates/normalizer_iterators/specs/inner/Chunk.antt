-- A decomposition reads its next chunk.
use Rattle.std.specs.Prelude.{◌≡◌, ℕ, Option}
use Rattle.std.specs.Iterator.{Count}
use Rattle.normalizer_iterators.specs.declared.decomposition.Decomposition.{Decomposition}
use Rattle.normalizer_iterators.specs.declared.error.NormalizeError.{NormalizeError}
use Rattle.normalizer_iterators.specs.declared.error.NormalizeError.TheVariants.{Memory}
use Rattle.normalizer_iterators.specs.DecompositionItems.{IsEnded, pending_of}
use Rattle.normalizer_iterators.specs.Delegate.{Source}
use Rattle.normalizer_iterators.specs.inner.ReadingOn.{ReadsChunkAfter, ChunkDidNotFitAfter}

module _ {I : Type 0} where
  -- the chunk of c was read, after which `last` was read before, and its first character came
  abbrev pub ChunkComes : Source I → Decomposition I → ℕ → Option ℕ → ℕ → Decomposition I → Type 0
  ChunkComes from old c last first new = ReadsChunkAfter from old.characters old.ignored c last
      old.delegate first (pending_of new) new.delegate new.waiting

  -- its chunk did not fit, and nothing is to come
  abbrev pub ChunkIsRefused : (I → Option ℕ → I → Type 0) → (I → Count) → Decomposition I → ℕ → Option ℕ
      → NormalizeError → Decomposition I → Type 0
  ChunkIsRefused gives left old c last e new = (e ≡ Memory) × IsEnded new
      × ChunkDidNotFitAfter gives left old.characters old.ignored c last old.delegate
