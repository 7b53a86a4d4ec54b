use Rattle.normalizer_handles.specs.Prepared.{AreOfFile, IsFaultOfFile}
use Rattle.normalizer_handles.proofs.OpeningLemmas.{holds-of}
use Rattle.normalizer_handles.proofs.opening.open_file.Goals as goal

pub returns : goal.returns
returns c =
    holds-of (AreOfFile c.args.prepared.now) (IsFaultOfFile c.args.prepared.now) c.in_ok-normalizers.normalizers _ _ _
    c.hold.ensures c.in_ok-normalizers.ensures tt
