use Rattle.std.proofs.Common.{◌≡◌, take}
use Rattle.icu_normalizer.specs.Utf16.{encode_utf16_all}
use Rattle.icu_normalizer_c.proofs.mapping.encoded_utf16.Given as goal

abbrev pub invariant-loop-c : goal.invariant-loop-c
invariant-loop-c l = l.units.items ≡ encode_utf16_all (take l.c-index l.characters)
