use Rattle.std.proofs.Common.{◌≡◌, drop, map}
use Rattle.normalizer_ucd.specs.Versions.{find_map, version_of}
use Rattle.normalizer_ucd.proofs.stated.first_version.Given as goal

abbrev pub invariant-loop-word : goal.invariant-loop-word
invariant-loop-word l =
    find_map version_of (map (λ word. word.now) (drop l.word-index l.words))
    ≡ find_map version_of (map (λ word. word.now) l.words)
