-- The first ill-formed sequence of units and of bytes, and how many there are.
use Rattle.std.proofs.Common.{◌≡◌, ℕ, zero, suc, ◌+◌, ◌-◌, ◌<◌, ◌≤◌, ◌⊎◌, inl, inr, Bool, true, false, cond, List, [], ◌∷◌, ◌++◌, length, take, drop, refl, sym, ap, subst, ◌∙◌, arith, length-drop, take-append-drop}
use Rattle.std.specs.Prelude.{All, count_by}
use Rattle.std.proofs.lemmas.Bool.{cases_Bool}
use Rattle.std.proofs.lemmas.List.{drop-drop, drop_all}
use Rattle.std.proofs.lemmas.List.Elements.{All-append, All-nil, All-cons, All-head, All-same, All-tail}
use Rattle.std.proofs.lemmas.List.Sums.{sum_by-cons}
use Rattle.icu_normalizer.specs.DecodingSteps.{steps, IsWellFormed}
use Rattle.icu_normalizer.specs.Encodings.{Encoding, first_in}
use Rattle.icu_normalizer.specs.Step.{Step}
use Rattle.icu_normalizer.proofs.StepLemmas.{IsRight, rest-shorter, steps-append, steps-nil, steps-some, steps-take}
use Rattle.normalizer_streams.specs.IllFormed.{IsFirstIllFormed, IsWellFormedBy}
use Rattle.normalizer_streams.specs.inner.Errors.{IsFirstErrorAt}
use Rattle.normalizer_streams.proofs.CarriedLemmas.{take-sum}

abbrev pub count_errors : List Step → ℕ
count_errors ss = count_by (λ s. s.is_error) ss

pub no_errors : (ss : List Step) → All IsRight ss → count_errors ss ≡ 0
no_errors [] all = refl
no_errors (s ∷ ss) all =
    sum_by-cons (λ (x : Step). cond x.is_error 1 0) s ss
    ∙ ap (λ b. cond b 1 0 + count_errors ss) (All-head IsRight s ss all) ∙ omega (arith, no_errors ss (All-tail IsRight s ss all))

pub one-most : (b : Bool) → cond b 1 0 ≤ 1
one-most true = omega arith
one-most false = omega arith

module _ (e : Encoding) where
  pub IsWellFormed-nil : IsWellFormed (first_in e) []
  IsWellFormed-nil = All-same IsRight _ _ (steps-nil e) (All-nil IsRight)

  pub IsWellFormed-append : (front rest : List ℕ) → IsWellFormed (first_in e) front → IsWellFormed (first_in e) rest → IsWellFormed (first_in e) (front ++ rest)
  IsWellFormed-append front rest a b = All-same IsRight _ _ (steps-append e front rest a) (All-append IsRight _ _ a b)

  -- the step in front alone
  one-step : (us : List ℕ) → 0 < length us → steps (first_in e) (take (first_in e us).width us) ≡ first_in e us ∷ []
  one-step us some =
      let w = (first_in e us).width in
      let none : w - w ≡ 0 = omega arith in
      steps-take e us w some (omega arith) ∙ ap (λ k. first_in e us ∷ steps (first_in e) (take k (drop w us))) none ∙ ap (λ x. first_in e us ∷ x) (steps-nil e)

  -- one step more
  pub well_formed-more : (us : List ℕ) (n : ℕ) → n < length us → IsWellFormed (first_in e) (take n us) → (first_in e (drop n us)).is_error ≡ false
      → IsWellFormed (first_in e) (take (n + (first_in e (drop n us)).width) us)
  well_formed-more us n within front right =
      let rest = drop n us in
      let some : 0 < length rest = omega (arith, length-drop n us) in
      let one = All-same IsRight _ _ (one-step rest some) (All-cons IsRight _ [] right (All-nil IsRight)) in
      subst (IsWellFormed (first_in e)) (sym (take-sum n (first_in e rest).width us)) (IsWellFormed-append (take n us) (take (first_in e rest).width rest) front one)

  -- the errors from a place on are those of its step, and those after it
  pub errors-step : (us : List ℕ) (n : ℕ) (s : Step) → n < length us → s ≡ first_in e (drop n us)
      → count_errors (steps (first_in e) (drop n us)) ≡ cond s.is_error 1 0 + count_errors (steps (first_in e) (drop (n + s.width) us))
  errors-step us n s within is =
      let some : 0 < length (drop n us) = omega (arith, length-drop n us) in
      let w = (first_in e (drop n us)).width in
      let rest : drop w (drop n us) ≡ drop (n + s.width) us = drop-drop w n us ∙ ap (λ t. drop (n + t.width) us) (sym is) in
      ap count_errors (steps-some e (drop n us) some)
      ∙ sum_by-cons (λ (x : Step). cond x.is_error 1 0) (first_in e (drop n us)) (steps (first_in e) (drop w (drop n us)))
      ∙ ap (λ t. cond t.is_error 1 0 + count_errors (steps (first_in e) (drop w (drop n us)))) (sym is)
      ∙ ap (λ x. cond s.is_error 1 0 + count_errors (steps (first_in e) x)) rest

  pub errors-end : (us : List ℕ) (n : ℕ) → length us ≤ n → count_errors (steps (first_in e) (drop n us)) ≡ 0
  errors-end us n le = ap (λ x. count_errors (steps (first_in e) x)) (drop_all n us le) ∙ ap count_errors (steps-nil e)

  -- units are well-formed, or have a first ill-formed sequence
  pub find_error : (us : List ℕ) → IsWellFormed (first_in e) us ⊎ ((place : ℕ) × IsFirstErrorAt e us place)
  find_error us = by (length us) us (omega arith)
    where
      by : (n : ℕ) (us : List ℕ) → length us ≤ n → IsWellFormed (first_in e) us ⊎ ((place : ℕ) × IsFirstErrorAt e us place)
      by n [] h = inl (IsWellFormed-nil)
      by zero (u ∷ us) h = absurd (omega arith)
      by (suc n) (u ∷ us) h =
          let us' = u ∷ us in
          let w = (first_in e us').width in
          let some : 0 < length us' = omega arith in
          elim (cases_Bool (first_in e us').is_error) [
            | inl error ↦ inr (0, record { before = IsWellFormed-nil; here = record { within = some; error = error } })
            | inr right ↦
                let front = All-same IsRight _ _ (one-step us' some) (All-cons IsRight _ [] right (All-nil IsRight)) in
                elim (by n (drop w us') (rest-shorter e us' n some h)) [
                  | inl rest ↦ inl (subst (IsWellFormed (first_in e)) (take-append-drop w us') (IsWellFormed-append (take w us') (drop w us') front rest))
                  | inr found ↦
                      let place = found.0 in
                      let f = found.1 in inr (
                        w + place,
                        record {
                          before = subst (IsWellFormed (first_in e)) (sym (take-sum w place us')) (IsWellFormed-append (take w us') (take place (drop w us')) front f.before);
                          here = record {
                            within = omega (arith, f.here.within, length-drop w us');
                            error = ap (λ x. (first_in e x).is_error) (sym (drop-drop place w us')) ∙ f.here.error;
                          };
                        },
                      )
                ]
          ]

-- the first ill-formed sequence of bytes
pub first_ill_formed-at : (bytes : List ℕ) (place : ℕ) → IsFirstErrorAt Encoding.Utf8 bytes place → (place ≤ length bytes) × IsFirstIllFormed bytes (take place bytes)
first_ill_formed-at bytes place f = (
  omega (arith, f.here.within),
  record {
    rest = drop place bytes;
    parts = sym (take-append-drop place bytes);
    well_formed = f.before;
    some = omega (arith, f.here.within, length-drop place bytes);
    error = f.here.error;
  },
)

-- bytes are well-formed, or have a first ill-formed sequence
pub find_ill_formed : (bytes : List ℕ) → IsWellFormedBy bytes ⊎ ((front : List ℕ) × IsFirstIllFormed bytes front)
find_ill_formed bytes = elim (find_error Encoding.Utf8 bytes) [
  | inl none ↦ inl none
  | inr found ↦ inr (take found.0 bytes, (first_ill_formed-at bytes found.0 found.1).1)
]
