-- The flags in a word, and what is below them.
use Rattle.std.proofs.Common.{◌≡◌, ℕ, ◌*◌, ◌/◌, ◌%◌, ◌^◌, ◌<◌, not, ◌==◌, bit_and, arith}
use Rattle.std.proofs.lemmas.Bool.Decides.{nat_tests}
use Rattle.std.proofs.lemmas.Nat.{and_mask}
use Rattle.std.proofs.lemmas.Nat.Bits.{and_high}
use Rattle.normalizer_tables.specs.Words.{is_non_round_trip, is_backward_combining}
use Rattle.normalizer_packing.specs.Flags.{without_flags}

pub without_flags_low : (w : ℕ) → without_flags w ≡ w % 2 ^ 30
unfolding without_flags
without_flags_low w = and_mask w 30

pub round_trip_bit : (w : ℕ) → is_non_round_trip w ≡ not (w / 2 ^ 30 % 2 ^ 1 == 0)
unfolding is_non_round_trip
round_trip_bit w = let bit : bit_and w 0x40000000 ≡ (w / 2 ^ 30 % 2 ^ 1) * 2 ^ 30 = and_high w 1 30 in grind (arith, nat_tests)

pub backward_bit : (w : ℕ) → is_backward_combining w ≡ not (w / 2 ^ 31 % 2 ^ 1 == 0)
unfolding is_backward_combining
backward_bit w = let bit : bit_and w 0x80000000 ≡ (w / 2 ^ 31 % 2 ^ 1) * 2 ^ 31 = and_high w 1 31 in grind (arith, nat_tests)

-- a word is what it is without its flags, and these
pub same_by_parts : (w v : ℕ) → w < 2 ^ 32 → v < 2 ^ 32 → without_flags w ≡ without_flags v → is_non_round_trip w ≡ is_non_round_trip v → is_backward_combining w ≡ is_backward_combining v → w ≡ v
same_by_parts w v small also rest round_trip backward = grind (arith, nat_tests, without_flags_low, round_trip_bit, backward_bit)
