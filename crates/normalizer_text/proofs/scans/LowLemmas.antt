-- Units that begin characters below a bound.
use Rattle.std.proofs.Common.{◌≡◌, ℕ, zero, suc, ◌-◌, ◌*◌, ◌<◌, ◌≤◌, false, List, [], ◌∷◌, length, take, drop, arith, refl, ap, sym, ◌∙◌}
use Rattle.std.specs.Prelude.{All}
use Rattle.std.proofs.lemmas.Bool.{true≢false}
use Rattle.std.proofs.lemmas.List.Elements.{All-nil, All-cons, All-head, All-tail, All-same, All-drop}
use Rattle.normalizer_text.specs.DecodingSteps.{read, steps, IsWellFormed}
use Rattle.normalizer_text.specs.Utf8.{range, row, scalar_value, first_by_row, first_of_utf8, decoded_utf8}
use Rattle.normalizer_text.specs.Utf16.{first_of_utf16}
use Rattle.normalizer_text.proofs.sequences.Sequences.{IsSequence}
use Rattle.normalizer_text.specs.Encodings.{Encoding, first_in, decoded_in}
use Rattle.normalizer_text.proofs.steps.StepLemmas.{IsRight, decoded-nil, decoded-some, steps-some, rest-shorter}
use Rattle.normalizer_text.proofs.sequences.RowLemmas.{IsSequence-row, by_row-whole}
use Rattle.normalizer_text.proofs.sequences.SequenceLemmas.{row-ascii}
use Rattle.normalizer_text.proofs.rules.Utf8Lemmas.{by_cases}
use Rattle.normalizer_text.proofs.rules.Utf16Lemmas.{first-single, low-is_single}

pub first-ascii : (b : ℕ) (bs : List ℕ) → b < 0x80 → first_of_utf8 (b ∷ bs) ≡ read b 1
first-ascii b bs h =
    ap (λ o. first_by_row o b bs) (row-ascii b (omega arith)) ∙ by_row-whole (row (range 0x00 0x7F) []) b bs refl

pub first-low_unit : (u : ℕ) (us : List ℕ) → u < 0xD800 → first_of_utf16 (u ∷ us) ≡ read u 1
first-low_unit u us h = first-single u us (low-is_single u h)

-- a sequence of one byte or two has no more than 64 values for each first byte
scalar_value-low : (limit b : ℕ) (bs : List ℕ) → 0xC2 ≤ limit → limit ≤ 0xE0 → b < limit → IsSequence (b ∷ bs) → scalar_value (b ∷ bs) < (limit - 0xC0) * 64
scalar_value-low limit b [] least most below s = omega arith
scalar_value-low limit b (c ∷ []) least most below s = omega arith
scalar_value-low limit b (c ∷ d ∷ []) least most below s = absurd (omega arith)
scalar_value-low limit b (c ∷ d ∷ e ∷ []) least most below s = absurd (omega arith)
scalar_value-low limit b (c ∷ d ∷ e ∷ f ∷ bs) least most below s = absurd s

pub character-low : (limit b : ℕ) (bs : List ℕ) → 0xC2 ≤ limit → limit ≤ 0xE0 → b < limit → (first_of_utf8 (b ∷ bs)).is_error ≡ false → (first_of_utf8 (b ∷ bs)).character < (limit - 0xC0) * 64
character-low limit b bs least most below right =
    by_cases (λ s. s.is_error ≡ false → s.character < (limit - 0xC0) * 64) b bs
    (λ _ e. absurd (true≢false e))
    (λ r f m e. scalar_value-low limit b (take (length r.trail) bs) least most below (IsSequence-row b bs r f m))
    (λ r f m e. absurd (true≢false e))
    right

-- what holds of the character that each unit begins, holds of all that well-formed units decode to
pub decoded-All : (e : Encoding) (P Q : ℕ → Type 0)
    → ((u : ℕ) (us : List ℕ) → P u → (first_in e (u ∷ us)).is_error ≡ false → Q (first_in e (u ∷ us)).character) → (units : List ℕ) → IsWellFormed (first_in e) units → All P units → All Q (decoded_in e units)
decoded-All e P Q holds units w all = by (length units) units (omega arith) w all
  where
    by : (n : ℕ) (us : List ℕ) → length us ≤ n → IsWellFormed (first_in e) us → All P us → All Q (decoded_in e us)
    by n [] h w all = All-same Q _ _ (decoded-nil e) (All-nil Q)
    by zero (u ∷ us) h w all = absurd (omega arith)
    by (suc n) (u ∷ us) h w all =
        let s = first_in e (u ∷ us) in
        let rest = drop s.width (u ∷ us) in
        let w' : All IsRight (s ∷ steps (first_in e) rest) = All-same IsRight (s ∷ steps (first_in e) rest) (steps (first_in e) (u ∷ us)) (sym (steps-some e (u ∷ us) (omega arith))) w in
        let here = holds u us (All-head P u us all) (All-head IsRight s (steps (first_in e) rest) w') in
        let others = by n rest (rest-shorter e (u ∷ us) n (omega arith) h) (All-tail IsRight s (steps (first_in e) rest) w') (All-drop P s.width (u ∷ us) all) in
        All-same Q _ _ (decoded-some e (u ∷ us) (omega arith)) (All-cons Q s.character (decoded_in e rest) here others)

pub decoded-low : (limit : ℕ) → 0xC2 ≤ limit → limit ≤ 0xE0 → (bytes : List ℕ) → IsWellFormed first_of_utf8 bytes → All (λ b. b < limit) bytes → All (λ c. c < (limit - 0xC0) * 64) (decoded_utf8 bytes)
decoded-low limit least most =
    decoded-All Encoding.Utf8 (λ b. b < limit) (λ c. c < (limit - 0xC0) * 64) (λ b bs below right. character-low limit b bs least most below right)
