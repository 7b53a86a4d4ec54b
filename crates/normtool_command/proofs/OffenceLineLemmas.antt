-- The line of a mismatch, as a format lays it out.
use Rattle.std.proofs.Common.{◌≡◌, ℕ, ◌-◌, ◌^◌, [], List, ◌∷◌, length, decimal, false, Some, Result, IfOk, IfSome, arith, append-nil}
use Rattle.std.specs.Fmt.{digits, padded_integral, format_spec, char_count, styled_digits_output, digits_output, ◌++?◌}
use Rattle.icu_normalizer.specs.Offence.{Offence}
use Rattle.normtool_command.specs.OffenceLines.{code_point_digits, line_feed, offence_line, space}

padded_integral-four : (n : ℕ) → padded_integral (format_spec 32 0 4 4 (2 ^ 64 - 1)) false [] (digits 16 false n) ≡ code_point_digits n
unfolding padded_integral char_count
padded_integral-four n =
    let short : 4 - length (digits 16 false n) - 0 - 0 ≡ 4 - length (digits 16 false n) = omega arith in
    rw (short, append-nil (digits 16 false n))

pub shown_as_offence_line : {S E : Type 0} (bytes : S → List ℕ) (r : Result S E) (d d' : _) (f f' : _) (o : Offence) → f ≡ format_spec 32 0 4 4 (2 ^ 64 - 1) → f' ≡ format_spec 32 0 4 4 (2 ^ 64 - 1)
    → digits_output d ≡ Some (digits 16 false o.found) → digits_output d' ≡ Some (digits 16 false o.wanted)
    → IfOk r (λ s. IfSome (Some (decimal o.place) ++? Some (space ∷ []) ++? styled_digits_output d f ++? Some (space ∷ []) ++? styled_digits_output d' f' ++? Some (line_feed ∷ [])) (λ bs. bytes s ≡ bs))
    → IfOk r (λ s. bytes s ≡ offence_line o)
shown_as_offence_line bytes r d d' f f' o spec spec' found wanted h =
    rw (← padded_integral-four o.found, ← padded_integral-four o.wanted) (rw (spec, spec', found, wanted) at h)
