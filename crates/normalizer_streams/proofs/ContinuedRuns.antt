-- Runs of characters that may continue one another.
use Rattle.std.proofs.Common.{◌≡◌, ℕ, ◌+◌, ◌-◌, ◌<◌, ◌≤◌, Bool, true, false, List, length, take, drop, refl, sym, ap, ◌∙◌, arith, length-drop, length-take}
use Rattle.std.specs.Prelude.{not, ◌||◌}
use Rattle.std.proofs.lemmas.Bool.{cases_lt, true≢false}
use Rattle.std.proofs.Common.{⊎_elim}
use Rattle.std.proofs.lemmas.List.{drop-drop, drop-take}
use Rattle.icu_normalizer.specs.Bounds.{Bounds}
use Rattle.icu_normalizer.specs.Characters.{Characters, word_of}
use Rattle.icu_normalizer.specs.Words.{is_backward_combining}
use Rattle.icu_normalizer.specs.PairConditions.{is_taken_as_boundary}
use Rattle.icu_normalizer.proofs.Utf8Lemmas.{IsDecoding-utf8, HasTrails-utf8}
use Rattle.normalizer_streams.specs.Streams.{IsDivision, IsRun}
use Rattle.normalizer_streams.specs.IllFormed.{first_of}

either-false : (a b : Bool) → (not a || b) ≡ false → a ≡ true
either-false true b h = refl
either-false false b h = absurd (true≢false h)

-- a character that isn't taken to begin at a boundary may continue what comes before it
pub continues_unless_safe : (s : Characters) (b : Bounds) (c : ℕ) → is_taken_as_boundary s b c ≡ false → is_backward_combining (word_of s c) ≡ true
unfolding is_taken_as_boundary
continues_unless_safe s b c h = either-false (is_backward_combining (word_of s c)) _ h

-- four bytes have the first step
first-cut : (bytes : List ℕ) (n : ℕ) → 0 < length bytes → 4 ≤ n → first_of (take n bytes) ≡ first_of bytes
first-cut bytes n some far =
    let short : (first_of bytes).width ≤ n = omega (arith, HasTrails-utf8.short bytes) in IsDecoding-utf8.cut bytes n some short

module _ (continues : ℕ → Bool) (bytes : List ℕ) where
  -- a division well before the end of a front is one of the front
  IsDivision-front : (n place : ℕ) → place + 4 ≤ n → IsDivision continues bytes place → IsDivision continues (take n bytes) place
  IsDivision-front n place far i =
      let rest = drop place bytes in
      let some : 0 < length rest = omega (arith, i.within, length-drop place bytes) in
      let sum : place + (n - place) ≡ n = omega arith in
      let front : drop place (take n bytes) ≡ take (n - place) rest = ap (λ k. drop place (take k bytes)) (sym sum) ∙ drop-take place (n - place) bytes in
      let same : first_of (drop place (take n bytes)) ≡ first_of rest = ap first_of front ∙ first-cut rest (n - place) some (omega arith) in
      record {
        within = omega (arith, i.within, length-take n bytes);
        whole = ap (λ s. s.is_error) same ∙ i.whole;
        starts = ap (λ s. continues s.character) same ∙ i.starts;
      }

  -- the bytes are one run if the front that was searched is, and the rest has no division
  pub IsRun-more : (n from : ℕ) → from ≡ n - 4 → IsRun continues (take n bytes) → ((place : ℕ) → 0 < place → from ≤ place → IsDivision continues bytes place → ⊥) → IsRun continues bytes
  IsRun-more n from far old none = λ place positive i. ⊎_elim
      (λ before. old place positive (IsDivision-front n place (omega arith) i))
      (λ after. none place positive after i)
      (cases_lt place from)

  -- what comes after the last division is one run
  pub IsRun-last : (last : ℕ) (rest : List ℕ) → rest ≡ drop last bytes → ((place : ℕ) → last < place → IsDivision continues bytes place → ⊥) → IsRun continues rest
  IsRun-last last rest e none = λ place positive i.
      let same : drop place rest ≡ drop (last + place) bytes = ap (drop place) e ∙ drop-drop place last bytes in
      none (last + place) (omega arith) (record {
        within = omega (arith, i.within, ap length e, length-drop last bytes);
        whole = ap (λ x. (first_of x).is_error) (sym same) ∙ i.whole;
        starts = ap (λ x. continues (first_of x).character) (sym same) ∙ i.starts;
      })
