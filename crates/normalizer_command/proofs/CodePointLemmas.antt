-- The digits of a code point, as a format lays them out.
use Rattle.std.proofs.Common.{◌≡◌, ℕ, ◌-◌, ◌^◌, [], List, length, true, false, Some, ap, arith, append-nil, refl, ◌∙◌}
use Rattle.std.specs.Fmt.{digits, padded_integral, format_spec, char_count, styled_digits_output, digits_output}
use Rattle.normalizer_command.specs.Mismatches.{code_point_digits}

padded_integral-four : (n : ℕ) → padded_integral (format_spec 32 0 4 4 (2 ^ 64 - 1)) false [] (digits 16 true n) ≡ code_point_digits n
unfolding padded_integral char_count
padded_integral-four n =
    let short : 4 - length (digits 16 true n) - 0 - 0 ≡ 4 - length (digits 16 true n) = omega arith in
    rw (short, append-nil (digits 16 true n))

pub styled_code_point : (d : _) (f : _) (n : ℕ) → f ≡ format_spec 32 0 4 4 (2 ^ 64 - 1) → digits_output d ≡ Some (digits 16 true n) → styled_digits_output d f ≡ Some (code_point_digits n)
styled_code_point d f n spec shown =
    let laid : List ℕ = padded_integral (format_spec 32 0 4 4 (2 ^ 64 - 1)) false [] (digits 16 true n) in
    let is : styled_digits_output d f ≡ Some laid = rw (spec, shown) refl in
    is ∙ ap Some (padded_integral-four n)
