-- How many fields a line has, by its semicolons.
use Rattle.std.proofs.Common.{◌≡◌, ◌<◌, ◌≤◌, ◌+◌, ℕ, List, [], true, false, get_or, length, Some, None, refl, ap, arith}
use Rattle.std.specs.Prelude.{◌==◌, count_by}
use Rattle.std.specs.Option.{is_none, option_map}
use Rattle.std.specs.List.{slice_split}
use Rattle.std.proofs.lemmas.Option.{slice_get-get_or, slice_get_past}
use Rattle.std.proofs.lemmas.List.Splits.{length-slice_split}
use Rattle.normalizer_ucd.specs.Fields.{field, trim}

pub few : (line : List ℕ) → count_by (λ b. b == 0x3B) line < 14 → is_none (field line 14) ≡ true
few line lt =
    let count : length (slice_split (λ b. b == 0x3B) line) ≡ count_by (λ b. b == 0x3B) line + 1
    = length-slice_split (λ b. b == 0x3B) line in
    let none : field line 14 ≡ None
    = ap (option_map trim) (slice_get_past (slice_split (λ b. b == 0x3B) line) 14 (omega arith)) in
    rw none refl

pub enough : (line : List ℕ) → 14 ≤ count_by (λ b. b == 0x3B) line → is_none (field line 14) ≡ false
enough line le =
    let count : length (slice_split (λ b. b == 0x3B) line) ≡ count_by (λ b. b == 0x3B) line + 1
    = length-slice_split (λ b. b == 0x3B) line in
    let some : field line 14 ≡ Some (trim (get_or (slice_split (λ b. b == 0x3B) line) 14 []))
    = ap (option_map trim) (slice_get-get_or (slice_split (λ b. b == 0x3B) line) 14 [] (omega arith)) in
    rw some refl
