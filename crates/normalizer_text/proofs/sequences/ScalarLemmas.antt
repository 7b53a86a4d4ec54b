-- The scalar value of a well-formed sequence, and the sequence of a scalar value.
use Rattle.std.proofs.Common.{◌≡◌, ℕ, ◌+◌, ◌/◌, ◌%◌, ◌<◌, ◌≤◌, ◌⊎◌, inl, inr, refl, sym, subst, ◌∙◌, List, [], ◌∷◌, arith, ⊎_elim}
use Rattle.std.specs.Char.{IsScalar, encode_utf8}
use Rattle.std.proofs.lemmas.Bool.{and_parts, leb-true, ltb-true, and_from, le-leb, lt-ltb, le-ltb, cond-true, cond-false, cases_order, cases_eq, cases_lt}
use Rattle.normalizer_text.specs.Utf8.{scalar_value}
use Rattle.normalizer_text.proofs.sequences.Sequences.{IsSequence}

pub scalar_cases : (c : ℕ) → IsScalar c → (c < 0xD800) ⊎ ((0xE000 ≤ c) × (c < 0x110000))
scalar_cases c e = ⊎_elim
    (λ l. inl l)
    (λ g. let k = rw (le-ltb c 0xD800 g) at e in
    let p = and_parts _ _ k in inr (leb-true _ _ p.0, ltb-true _ _ p.1))
    (cases_lt c 0xD800)

pub IsScalar-low : (c : ℕ) → c < 0xD800 → IsScalar c
IsScalar-low c h = cond-true _ _ _ (lt-ltb c 0xD800 h)

pub IsScalar-high : (c : ℕ) → 0xE000 ≤ c → c < 0x110000 → IsScalar c
IsScalar-high c h l = rw (le-ltb c 0xD800 (omega arith)) (and_from _ _ (le-leb 0xE000 c h) (lt-ltb c 0x110000 l))

pub scalar_value-IsScalar : (bytes : List ℕ) → IsSequence bytes → IsScalar (scalar_value bytes)
scalar_value-IsScalar [] s = absurd s
scalar_value-IsScalar (a ∷ []) s = IsScalar-low (scalar_value (a ∷ [])) (omega arith)
scalar_value-IsScalar (a ∷ b ∷ []) s = IsScalar-low (scalar_value (a ∷ b ∷ [])) (omega arith)
scalar_value-IsScalar (a ∷ b ∷ c ∷ []) s = ⊎_elim
    (λ e. let k = s.3 e in IsScalar-low (scalar_value (a ∷ b ∷ c ∷ [])) (omega arith))
    (⊎_elim (λ l. IsScalar-low (scalar_value (a ∷ b ∷ c ∷ [])) (omega arith)) (λ g. IsScalar-high (scalar_value (a ∷ b ∷ c ∷ [])) (omega arith) (omega arith)))
    (cases_order a 0xED)
scalar_value-IsScalar (a ∷ b ∷ c ∷ d ∷ []) s = ⊎_elim
    (λ e. let k = s.2 e in IsScalar-high (scalar_value (a ∷ b ∷ c ∷ d ∷ [])) (omega arith) (omega arith))
    (λ ne. ⊎_elim
    (λ e. let k = s.3 e in IsScalar-high (scalar_value (a ∷ b ∷ c ∷ d ∷ [])) (omega arith) (omega arith))
    (λ f. IsScalar-high (scalar_value (a ∷ b ∷ c ∷ d ∷ [])) (omega arith) (omega arith))
    (cases_eq a 0xF4))
    (cases_eq a 0xF0)
scalar_value-IsScalar (a ∷ b ∷ c ∷ d ∷ e ∷ bytes) s = absurd s

-- ---- the bytes of a character

encode-one : (c : ℕ) → c < 0x80 → encode_utf8 c ≡ c ∷ []
unfolding encode_utf8
encode-one c h = cond-true _ _ _ (lt-ltb c 0x80 h)

encode-two : (c : ℕ) → 0x80 ≤ c → c < 0x800 → encode_utf8 c ≡ (0xC0 + c / 64) ∷ (0x80 + c % 64) ∷ []
unfolding encode_utf8
encode-two c l h = cond-false _ _ _ (le-ltb c 0x80 l) ∙ cond-true _ _ _ (lt-ltb c 0x800 h)

encode-three : (c : ℕ) → 0x800 ≤ c → c < 0x10000 → encode_utf8 c ≡ (0xE0 + c / 4096) ∷ (0x80 + c / 64 % 64) ∷ (0x80 + c % 64) ∷ []
unfolding encode_utf8
encode-three c l h = cond-false _ _ _ (le-ltb c 0x80 (omega arith)) ∙ cond-false _ _ _ (le-ltb c 0x800 l) ∙ cond-true _ _ _ (lt-ltb c 0x10000 h)

encode-four : (c : ℕ) → 0x10000 ≤ c → encode_utf8 c ≡ (0xF0 + c / 262144) ∷ (0x80 + c / 4096 % 64) ∷ (0x80 + c / 64 % 64) ∷ (0x80 + c % 64) ∷ []
unfolding encode_utf8
encode-four c l = cond-false _ _ _ (le-ltb c 0x80 (omega arith)) ∙ cond-false _ _ _ (le-ltb c 0x800 (omega arith)) ∙ cond-false _ _ _ (le-ltb c 0x10000 l)

-- a well-formed sequence is the encoding of its scalar value
pub encode-scalar_value : (bytes : List ℕ) → IsSequence bytes → encode_utf8 (scalar_value bytes) ≡ bytes
encode-scalar_value [] s = absurd s
encode-scalar_value (a ∷ []) s = encode-one a s
encode-scalar_value (a ∷ b ∷ []) s =
    let v = scalar_value (a ∷ b ∷ []) in
    let p : 0xC0 + v / 64 ≡ a = omega arith in
    let q : 0x80 + v % 64 ≡ b = omega arith in
    encode-two v (omega arith) (omega arith) ∙ rw (p, q) refl
encode-scalar_value (a ∷ b ∷ c ∷ []) s =
    let v = scalar_value (a ∷ b ∷ c ∷ []) in
    let h : 0x800 ≤ v = ⊎_elim (λ e. let k = s.2 e in omega arith) (λ ne. omega arith) (cases_eq a 0xE0) in
    let p : 0xE0 + v / 4096 ≡ a = omega arith in
    let q : 0x80 + v / 64 % 64 ≡ b = omega arith in
    let r : 0x80 + v % 64 ≡ c = omega arith in
    encode-three v h (omega arith) ∙ rw (p, q, r) refl
encode-scalar_value (a ∷ b ∷ c ∷ d ∷ []) s =
    let v = scalar_value (a ∷ b ∷ c ∷ d ∷ []) in
    let h : 0x10000 ≤ v = ⊎_elim (λ e. let k = s.2 e in omega arith) (λ ne. omega arith) (cases_eq a 0xF0) in
    let p : 0xF0 + v / 262144 ≡ a = omega arith in
    let q : 0x80 + v / 4096 % 64 ≡ b = omega arith in
    let r : 0x80 + v / 64 % 64 ≡ c = omega arith in
    let t : 0x80 + v % 64 ≡ d = omega arith in
    encode-four v h ∙ rw (p, q, r, t) refl
encode-scalar_value (a ∷ b ∷ c ∷ d ∷ e ∷ bytes) s = absurd s

-- the encoding of a scalar value is a well-formed sequence
pub record Encodes (c : ℕ) (bytes : List ℕ) : Type 0 where
  pub sequence : IsSequence bytes
  pub value : scalar_value bytes ≡ c

pub Encodes-encode : (c : ℕ) → IsScalar c → Encodes c (encode_utf8 c)
Encodes-encode c h = ⊎_elim
    (λ l. subst (Encodes c) (sym (encode-one c l)) (record { sequence = l; value = refl }))
    (λ g. ⊎_elim
    (λ l. subst (Encodes c) (sym (encode-two c g l)) (record { sequence = (omega arith, omega arith, omega arith, omega arith); value = omega arith }))
    (λ g. ⊎_elim
    (λ l. subst (Encodes c) (sym (encode-three c g l)) (record {
      sequence = (omega arith, omega arith, (λ e. omega arith), (λ e. surrogate e), omega arith, omega arith, omega arith, omega arith);
      value = omega arith;
    }))
    (λ g. let top : c < 0x110000 = ⊎_elim (λ l. omega arith) (λ k. k.1) (scalar_cases c h) in
    subst (Encodes c) (sym (encode-four c g)) (record {
      sequence = (omega arith, omega arith, (λ e. omega arith), (λ e. omega arith), omega arith, omega arith, omega arith, omega arith, omega arith, omega arith);
      value = omega arith;
    }))
    (cases_lt c 0x10000))
    (cases_lt c 0x800))
    (cases_lt c 0x80)
  where
    surrogate : 0xE0 + c / 4096 ≡ 0xED → 0x80 + c / 64 % 64 ≤ 0x9F
    surrogate e = ⊎_elim (λ k. omega arith) (λ k. omega arith) (scalar_cases c h)
