-- The rule of UTF-16 is a rule of decoding, and of an encoding.
use Rattle.std.proofs.Common.{◌≡◌, ℕ, zero, suc, ◌+◌, ◌-◌, ◌/◌, ◌%◌, ◌<◌, ◌≤◌, ◌⊎◌, inl, inr, true, false, ◌&&◌, List, [], ◌∷◌, ◌++◌, length, take, get_or, arith, refl, ap, sym, subst, ◌∙◌, ⊎_elim}
use Rattle.std.specs.Char.{IsScalar}
use Rattle.std.specs.Char.Escape.{encode_utf16}
use Rattle.std.specs.Int.{is_in_range}
use Rattle.std.proofs.lemmas.Bool.{false≢true, true≢false, cases_Bool, cases_lt, or_cases, and_parts, and_from, and_left, or_from, leb-true, le-leb, lt-ltb, le-ltb, cond-true, cond-false}
use Rattle.std.proofs.lemmas.Bool.Decides.{nat_tests}
use Rattle.normalizer_text.specs.declared.decoding_step.Step.{Step}
use Rattle.normalizer_text.specs.DecodingSteps.{read, replacement_step}
use Rattle.normalizer_text.specs.Utf16.{is_high, is_low, is_single, pair_value, unpaired_step, first_of_utf16}
use Rattle.normalizer_text.specs.Encodings.{Encoding}
use Rattle.normalizer_text.proofs.rules.Decoding.{IsDecoding, HasTrails, IsEncoding}
use Rattle.normalizer_text.proofs.sequences.ScalarLemmas.{scalar_cases, IsScalar-low, IsScalar-high}

-- ---- kinds of units

abbrev IsBetween : ℕ → ℕ → ℕ → Type 0
IsBetween low high u = (low ≤ u) × (u ≤ high)

between : (low high u : ℕ) → is_in_range low high u ≡ true → IsBetween low high u
between low high u e = let k = and_parts _ _ e in (leb-true _ _ k.0, leb-true _ _ k.1)

within : (low high u : ℕ) → low ≤ u → u ≤ high → is_in_range low high u ≡ true
within low high u l h = and_from _ _ (le-leb low u l) (le-leb u high h)

above : (low high u : ℕ) → high < u → is_in_range low high u ≡ false
above low high u h = grind (arith, nat_tests)

below : (low high u : ℕ) → u < low → is_in_range low high u ≡ false
below low high u h = grind (arith, nat_tests)

pub low-is_single : (u : ℕ) → u < 0xD800 → is_single u ≡ true
low-is_single u h = grind (arith, nat_tests)

pub high-is_single : (u : ℕ) → 0xE000 ≤ u → u ≤ 0xFFFF → is_single u ≡ true
high-is_single u l h = grind (arith, nat_tests)

pub single-cases : (u : ℕ) → is_single u ≡ true → (u ≤ 0xD7FF) ⊎ ((0xE000 ≤ u) × (u ≤ 0xFFFF))
single-cases u e = ⊎_elim (λ l. inl (between 0 0xD7FF u l).1) (λ h. inr (between 0xE000 0xFFFF u h)) (or_cases _ _ e)

low-single : (u : ℕ) → is_low u ≡ true → is_single u ≡ false
low-single u e = let k = between 0xDC00 0xDFFF u e in or_from _ _ (above 0 0xD7FF u (omega arith)) (below 0xE000 0xFFFF u (omega arith))

low-high : (u : ℕ) → is_low u ≡ true → is_high u ≡ false
low-high u e = let k = between 0xDC00 0xDFFF u e in above 0xD800 0xDBFF u (omega arith)

single-high : (u : ℕ) → is_single u ≡ true → is_high u ≡ false
single-high u e = ⊎_elim (λ l. below 0xD800 0xDBFF u (omega arith)) (λ h. above 0xD800 0xDBFF u (omega arith)) (single-cases u e)

-- ---- what is shown of a step by cases

pub unpaired-cases : (P : Step → Type 0) (u : ℕ) → (is_single u ≡ true → P (read u 1)) → (is_single u ≡ false → P (replacement_step 1)) → P (unpaired_step u)
unpaired-cases P u right wrong = ⊎_elim
    (λ e. subst P (sym (cond-true (is_single u) (read u 1) (replacement_step 1) e)) (right e))
    (λ e. subst P (sym (cond-false (is_single u) (read u 1) (replacement_step 1) e)) (wrong e))
    (cases_Bool (is_single u))

pub first-pair : (u v : ℕ) (us : List ℕ) → (is_high u && is_low v) ≡ true → first_of_utf16 (u ∷ v ∷ us) ≡ read (pair_value u v) 2
first-pair u v us e = cond-true (is_high u && is_low v) (read (pair_value u v) 2) (unpaired_step u) e

pub first-unpaired : (u v : ℕ) (us : List ℕ) → (is_high u && is_low v) ≡ false → first_of_utf16 (u ∷ v ∷ us) ≡ unpaired_step u
first-unpaired u v us e = cond-false (is_high u && is_low v) (read (pair_value u v) 2) (unpaired_step u) e

pub cases : (P : Step → Type 0) (u v : ℕ) (us : List ℕ) → ((is_high u && is_low v) ≡ true → P (read (pair_value u v) 2))
    → ((is_high u && is_low v) ≡ false → P (unpaired_step u)) → P (first_of_utf16 (u ∷ v ∷ us))
cases P u v us pair single = ⊎_elim
    (λ e. subst P (sym (first-pair u v us e)) (pair e))
    (λ e. subst P (sym (first-unpaired u v us e)) (single e))
    (cases_Bool (is_high u && is_low v))

pub unpaired-width : (u : ℕ) → (unpaired_step u).width ≡ 1
unpaired-width u = unpaired-cases (λ s. s.width ≡ 1) u (λ _. refl) (λ _. refl)

pub pair-bounds : (u v : ℕ) → (is_high u && is_low v) ≡ true → IsBetween 0xD800 0xDBFF u × IsBetween 0xDC00 0xDFFF v
pair-bounds u v e = let k = and_parts _ _ e in (between 0xD800 0xDBFF u k.0, between 0xDC00 0xDFFF v k.1)

-- ---- decoding

some_utf16 : (us : List ℕ) → 0 < length us → 0 < (first_of_utf16 us).width
some_utf16 [] h = absurd (omega arith)
some_utf16 (u ∷ []) h = omega (arith, unpaired-width u)
some_utf16 (u ∷ v ∷ us) h = cases (λ s. 0 < s.width) u v us (λ _. omega arith) (λ _. omega (arith, unpaired-width u))

fits_utf16 : (us : List ℕ) → 0 < length us → (first_of_utf16 us).width ≤ length us
fits_utf16 [] h = absurd (omega arith)
fits_utf16 (u ∷ []) h = omega (arith, unpaired-width u)
fits_utf16 (u ∷ v ∷ us) h = cases (λ s. s.width ≤ length (u ∷ v ∷ us)) u v us (λ _. omega arith) (λ _. omega (arith, unpaired-width u))

short_utf16 : (us : List ℕ) → (first_of_utf16 us).width ≤ 2
short_utf16 [] = omega arith
short_utf16 (u ∷ []) = omega (arith, unpaired-width u)
short_utf16 (u ∷ v ∷ us) = cases (λ s. s.width ≤ 2) u v us (λ _. omega arith) (λ _. omega (arith, unpaired-width u))

scalar-unpaired : (u : ℕ) → IsScalar (unpaired_step u).character
scalar-unpaired u = unpaired-cases (λ s. IsScalar s.character) u
    (λ e. ⊎_elim (λ l. IsScalar-low u (omega arith)) (λ h. IsScalar-high u (omega arith) (omega arith)) (single-cases u e))
    (λ _. refl)

scalar_utf16 : (us : List ℕ) → IsScalar (first_of_utf16 us).character
scalar_utf16 [] = refl
scalar_utf16 (u ∷ []) = scalar-unpaired u
scalar_utf16 (u ∷ v ∷ us) = cases (λ s. IsScalar s.character) u v us
    (λ e. let k = pair-bounds u v e in IsScalar-high (pair_value u v) (omega arith) (omega arith))
    (λ _. scalar-unpaired u)

error-unpaired : (u : ℕ) → (unpaired_step u).is_error ≡ true → (unpaired_step u).character ≡ 0xFFFD
error-unpaired u e = unpaired-cases (λ s. s.is_error ≡ true → s.character ≡ 0xFFFD) u (λ _ e. absurd (false≢true e)) (λ _ _. refl) e

error_utf16 : (us : List ℕ) → (first_of_utf16 us).is_error ≡ true → (first_of_utf16 us).character ≡ 0xFFFD
error_utf16 [] e = refl
error_utf16 (u ∷ []) e = error-unpaired u e
error_utf16 (u ∷ v ∷ us) e = cases (λ s. s.is_error ≡ true → s.character ≡ 0xFFFD) u v us (λ _ e. absurd (false≢true e)) (λ _ e. error-unpaired u e) e

cut_utf16 : (us : List ℕ) (n : ℕ) → 0 < length us → (first_of_utf16 us).width ≤ n → first_of_utf16 (take n us) ≡ first_of_utf16 us
cut_utf16 [] n h l = absurd (omega arith)
cut_utf16 (u ∷ us) zero h l = absurd (omega (arith, some_utf16 (u ∷ us) h))
cut_utf16 (u ∷ []) (suc zero) h l = refl
cut_utf16 (u ∷ []) (suc (suc n)) h l = refl
cut_utf16 (u ∷ v ∷ us) (suc zero) h l = cases (λ s. s.width ≤ 1 → unpaired_step u ≡ s) u v us (λ _ l. absurd (omega arith)) (λ _ _. refl) l
cut_utf16 (u ∷ v ∷ us) (suc (suc n)) h l = refl

extends_utf16 : (us more : List ℕ) → 0 < length us → (first_of_utf16 us).is_error ≡ false → first_of_utf16 (us ++ more) ≡ first_of_utf16 us
extends_utf16 [] more h e = absurd (omega arith)
extends_utf16 (u ∷ []) [] h e = refl
extends_utf16 (u ∷ []) (v ∷ more) h e = unpaired-cases (λ s. s.is_error ≡ false → first_of_utf16 (u ∷ v ∷ more) ≡ unpaired_step u) u
    (λ single _. first-unpaired u v more (and_left _ _ (single-high u single)))
    (λ _ e. absurd (true≢false e))
    e
extends_utf16 (u ∷ v ∷ us) more h e = refl

pub IsDecoding-utf16 : IsDecoding Encoding.Utf16
IsDecoding-utf16 = record { some = some_utf16; fits = fits_utf16; scalar = scalar_utf16; error = error_utf16; cut = cut_utf16; extends = extends_utf16 }

inside_utf16 : (us : List ℕ) (k : ℕ) → 0 < k → k < (first_of_utf16 us).width → is_low (get_or us k 0) ≡ true
inside_utf16 us zero some h = absurd (omega arith)
inside_utf16 [] (suc k) some h = absurd (omega arith)
inside_utf16 (u ∷ []) (suc k) some h = absurd (omega (arith, unpaired-width u))
inside_utf16 (u ∷ v ∷ us) (suc zero) some h = cases (λ s. 1 < s.width → is_low v ≡ true) u v us
    (λ e _. (and_parts _ _ e).1)
    (λ _ h. absurd (omega (arith, unpaired-width u)))
    h
inside_utf16 (u ∷ v ∷ us) (suc (suc k)) some h = absurd (omega (arith, short_utf16 (u ∷ v ∷ us)))

alone-unpaired : (u : ℕ) → is_low u ≡ true → unpaired_step u ≡ replacement_step 1
alone-unpaired u e = cond-false (is_single u) (read u 1) (replacement_step 1) (low-single u e)

alone_utf16 : (us : List ℕ) → 0 < length us → is_low (get_or us 0 0) ≡ true → first_of_utf16 us ≡ replacement_step 1
alone_utf16 [] h e = absurd (omega arith)
alone_utf16 (u ∷ []) h e = alone-unpaired u e
alone_utf16 (u ∷ v ∷ us) h e = first-unpaired u v us (and_left _ _ (low-high u e)) ∙ alone-unpaired u e

pub HasTrails-utf16 : HasTrails Encoding.Utf16
HasTrails-utf16 = record { inside = inside_utf16; alone = alone_utf16; short = λ us. omega (arith, short_utf16 us) }

-- ---- encoding

encode-single : (c : ℕ) → c < 0x10000 → encode_utf16 c ≡ c ∷ []
encode-single c h = cond-true _ _ _ (lt-ltb c 0x10000 h)

encode-pair : (c : ℕ) → 0x10000 ≤ c → encode_utf16 c ≡ (0xD800 + (c - 0x10000) / 0x400) ∷ (0xDC00 + (c - 0x10000) % 0x400) ∷ []
encode-pair c h = cond-false _ _ _ (le-ltb c 0x10000 h)

some-encode : (c : ℕ) → IsScalar c → 0 < length (encode_utf16 c)
some-encode c h = ⊎_elim (λ l. omega (arith, ap length (encode-single c l))) (λ g. omega (arith, ap length (encode-pair c g))) (cases_lt c 0x10000)

single-scalar : (c : ℕ) → IsScalar c → c < 0x10000 → is_single c ≡ true
single-scalar c h l = ⊎_elim (λ k. grind (arith, nat_tests)) (λ k. grind (arith, nat_tests)) (scalar_cases c h)

pub first-single : (c : ℕ) (more : List ℕ) → is_single c ≡ true → first_of_utf16 (c ∷ more) ≡ read c 1
first-single c [] e = cond-true (is_single c) (read c 1) (replacement_step 1) e
first-single c (v ∷ more) e = first-unpaired c v more (and_left _ _ (single-high c e)) ∙ cond-true (is_single c) (read c 1) (replacement_step 1) e

first-encode : (c : ℕ) (more : List ℕ) → IsScalar c → first_of_utf16 (encode_utf16 c ++ more) ≡ read c (length (encode_utf16 c))
first-encode c more h = ⊎_elim
    (λ l. subst (λ x. first_of_utf16 (x ++ more) ≡ read c (length x)) (sym (encode-single c l)) (first-single c more (single-scalar c h l)))
    (λ g.
    let top : c < 0x110000 = ⊎_elim (λ l. omega arith) (λ k. k.1) (scalar_cases c h) in
    let high = 0xD800 + (c - 0x10000) / 0x400 in
    let low = 0xDC00 + (c - 0x10000) % 0x400 in
    let value : pair_value high low ≡ c = omega arith in
    subst (λ x. first_of_utf16 (x ++ more) ≡ read c (length x)) (sym (encode-pair c g))
    (first-pair high low more (and_from _ _ (within 0xD800 0xDBFF high (omega arith) (omega arith)) (within 0xDC00 0xDFFF low (omega arith) (omega arith))) ∙ ap (λ v. read v 2) value))
    (cases_lt c 0x10000)

encode-unpaired : (u : ℕ) (us : List ℕ) → (unpaired_step u).is_error ≡ false → encode_utf16 (unpaired_step u).character ≡ take (unpaired_step u).width (u ∷ us)
encode-unpaired u us e = unpaired-cases (λ s. s.is_error ≡ false → encode_utf16 s.character ≡ take s.width (u ∷ us)) u
    (λ single _. encode-single u (⊎_elim (λ l. omega arith) (λ h. omega arith) (single-cases u single)))
    (λ _ e. absurd (true≢false e))
    e

encode-first : (us : List ℕ) → 0 < length us → (first_of_utf16 us).is_error ≡ false → encode_utf16 (first_of_utf16 us).character ≡ take (first_of_utf16 us).width us
encode-first [] h e = absurd (omega arith)
encode-first (u ∷ []) h e = encode-unpaired u [] e
encode-first (u ∷ v ∷ us) h e = cases (λ s. s.is_error ≡ false → encode_utf16 s.character ≡ take s.width (u ∷ v ∷ us)) u v us
    (λ pair _.
    let k = pair-bounds u v pair in
    let c = pair_value u v in
    let high : 0xD800 + (c - 0x10000) / 0x400 ≡ u = omega arith in
    let low : 0xDC00 + (c - 0x10000) % 0x400 ≡ v = omega arith in
    encode-pair c (omega arith) ∙ rw (high, low) refl)
    (λ _ e. encode-unpaired u (v ∷ us) e)
    e

pub IsEncoding-utf16 : IsEncoding Encoding.Utf16
IsEncoding-utf16 = record { nil = refl; cons = λ c x. refl; some = some-encode; front = first-encode; back = encode-first }
