-- Reports that are kept.
use Rattle.std.proofs.Common.{◌≡◌, Bool, true, cond, List, [], Some, None, refl}
use Rattle.normalizer_command.specs.inner.Kept.{kept_reports}
use Rattle.normalizer_command.specs.declared.memory.KeptReport.{KeptReport}

-- what is known of reports that are whole
pub known-none : (kept : List KeptReport) → kept ≡ [] → Some (kept_reports kept) ≡ Some []
known-none kept n = rw n refl

pub known-all : (whole : Bool) (kept : List KeptReport) → whole ≡ true → cond whole (Some (kept_reports kept)) None ≡ Some (kept_reports kept)
known-all whole kept w = rw w refl
