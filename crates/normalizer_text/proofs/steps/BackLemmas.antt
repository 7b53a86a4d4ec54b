-- Steps from the back.
use Rattle.std.proofs.Common.{◌≡◌, subst, ℕ, zero, suc, ◌+◌, ◌-◌, ◌<◌, ◌≤◌, true, false, Bool, List, [], ◌∷◌, ◌++◌}
use Rattle.std.proofs.Common.{length, length-drop, length-append, length-take-le, get_or, get_or-drop, append_assoc, take, drop, map, reverse, arith, ap, sym, ◌∙◌, ⊎_elim}
use Rattle.std.specs.Prelude.{slice_index}
use Rattle.std.proofs.lemmas.List.{drop-drop, take_all, drop_all, append-nil, map-append, reverse-append, same_from_push}
use Rattle.std.proofs.lemmas.Bool.{false_from_ne_true, cases_lt, cases_eq, true≢false}
use Rattle.normalizer_text.specs.declared.decoding_step.Step.{Step}
use Rattle.normalizer_text.specs.DecodingSteps.{steps, decoded_text, replacement_step, IsBoundary, IsLastStep, TakesLast, TakenFrom, Spells}
use Rattle.normalizer_text.specs.Encodings.{Encoding, first_in, trails_in, longest_step}
use Rattle.normalizer_text.specs.inner.Backwards.{IsLastStart}
use Rattle.normalizer_text.proofs.rules.Decoding.{IsDecoding, HasTrails}
use Rattle.normalizer_text.proofs.rules.EncodingRules.{IsDecoding-first, HasTrails-first}
use Rattle.normalizer_text.proofs.steps.StepBoundaries.{width_of-steps}
use Rattle.normalizer_text.proofs.steps.StepLemmas.{steps-nil, decoded-nil, decoded-some, steps-some, steps-take}

plus : (w q : ℕ) → q ≡ w + q - w
plus w q = omega arith

plus-zero : (p : ℕ) → p + 0 ≡ p
plus-zero p = omega arith

module _ (e : Encoding) where
  abbrev first : List ℕ → Step
  first = first_in e

  d : IsDecoding e
  d = IsDecoding-first e

  -- the beginning of the last step
  pub record EndsAt (us : List ℕ) (q : ℕ) : Type 0 where
    pub below : q < length us
    pub last : steps first us ≡ steps first (take q us) ++ first (drop q us) ∷ []
    pub ends : (first (drop q us)).width ≡ length us - q

  pub last-step : (us : List ℕ) → 0 < length us → (q : ℕ) × EndsAt us q
  last-step us h = by (length us) us (omega arith) h
    where
      by : (n : ℕ) (us : List ℕ) → length us ≤ n → 0 < length us → (q : ℕ) × EndsAt us q
      by zero us m h = absurd (omega arith)
      by (suc n) us m h =
          let w = (first us).width in
          let some = d.some us h in
          let fits = d.fits us h in
          let k = length-drop w us in ⊎_elim
          (λ less.
          let ih = by n (drop w us) (omega arith) (omega arith) in
          let q = ih.0 in
          let at = ih.1 in
          let below = at.below in
          let ends = at.ends in
          let there = drop-drop q w us in (
            w + q,
            record {
              below = omega arith;
              last = steps-some e us h
                  ∙ ap (λ x. first us ∷ x) at.last
                  ∙ ap (λ x. first us ∷ (steps first (take q (drop w us)) ++ first x ∷ [])) there
                  ∙ ap (λ i. first us ∷ (steps first (take i (drop w us)) ++ first (drop (w + q) us) ∷ [])) (plus w q)
                  ∙ sym (ap (λ x. x ++ first (drop (w + q) us) ∷ []) (steps-take e us (w + q) h (omega arith)));
              ends = sym (ap (λ x. (first x).width) there) ∙ ends ∙ (omega arith);
            },
          ))
          (λ all. (
            0,
            record {
              below = h;
              last = steps-some e us h
                  ∙ ap (λ x. first us ∷ steps first x) (drop_all w us all)
                  ∙ ap (λ x. first us ∷ x) (steps-nil e)
                  ∙ sym (ap (λ x. x ++ first us ∷ []) (steps-nil e));
              ends = omega arith;
            },
          ))
          (cases_lt w (length us))

  -- ---- what the last step takes, and what it leaves

  pub decoded-last : (us : List ℕ) (s : Step) → IsLastStep first us s → decoded_text first us ≡ decoded_text first (take (length us - s.width) us) ++ s.character ∷ []
  decoded-last us s l = ap (map (λ s. s.character)) l.last ∙ map-append (λ s. s.character) (steps first (take (length us - s.width) us)) (s ∷ [])

  pub some-last : (us : List ℕ) (s : Step) → IsLastStep first us s → 0 < s.width
  some-last us s l = ⊎_elim
      (λ none.
      let all : take (length us - s.width) us ≡ us = take_all (length us - s.width) us (omega arith) in
      let k = ap length (l.last ∙ ap (λ x. steps first x ++ s ∷ []) all) in
      absurd (omega (arith, k, length-append (steps first us) (s ∷ []))))
      (λ some. omega arith)
      (cases_eq s.width 0)

  -- an iterator that takes the last step each time yields what the units decode to, from the back
  pub Spells-TakesLast : (us : List ℕ) → Spells (TakesLast first) us (reverse (decoded_text first us))
  Spells-TakesLast us = by (length us) us (omega arith)
    where
      by : (n : ℕ) (us : List ℕ) → length us ≤ n → Spells (TakesLast first) us (reverse (decoded_text first us))
      by n [] h = subst (Spells (TakesLast first) []) (sym (ap reverse (decoded-nil e))) (λ x j p.
          absurd (let f = p.1.fits in let z = some-last [] p.0 p.1 in omega arith))
      by zero (u ∷ us) h = absurd (omega arith)
      by (suc n) (u ∷ us) h =
          let us' = u ∷ us in
          let found = last-step us' (omega arith) in
          let q = found.0 in
          let at = found.1 in
          let whole : decoded_text first us' ≡ decoded_text first (take q us') ++ (first (drop q us')).character ∷ [] =
          ap (map (λ s. s.character)) at.last ∙ map-append (λ s. s.character) (steps first (take q us')) (first (drop q us') ∷ []) in
          subst (Spells (TakesLast first) us') (sym (ap reverse whole ∙ reverse-append (decoded_text first (take q us')) ((first (drop q us')).character ∷ []))) (
            (λ j p. absurd (let k : length us' ≡ 0 = ap length p.0 in omega arith)),
            λ x j p.
                let back = decoded-last us' p.0 p.1 in
                let both = same_from_push _ _ _ _ (sym whole ∙ back) in (
                  p.2 ∙ sym both.1,
                  subst (λ y. Spells (TakesLast first) y (reverse (decoded_text first (take q us')))) (sym p.3)
                      (subst (λ y. Spells (TakesLast first) (take (length us' - p.0.width) us') (reverse y)) (sym both.0)
                      (by n (take (length us' - p.0.width) us') (omega (arith, some-last us' p.0 p.1, length-take-le (length us' - p.0.width) us' (omega arith))))),
                ),
          )

  -- ---- from both ends

  pub decoded-TakenFrom : {us x rest y : List ℕ} → TakenFrom first us x rest y → decoded_text first us ≡ x ++ decoded_text first rest ++ y
  decoded-TakenFrom {us = us} TakenFrom.none = sym (append-nil (decoded_text first us))
  decoded-TakenFrom (TakenFrom.front x rest y c left t p) =
      let some : decoded_text first rest ≡ c ∷ decoded_text first left =
      decoded-some e rest p.0 ∙ ap (λ z. z ∷ decoded_text first (drop (first rest).width rest)) (sym p.1) ∙ ap (λ z. c ∷ decoded_text first z) (sym p.2) in
      decoded-TakenFrom t ∙ ap (λ z. x ++ z ++ y) some ∙ ap (λ z. z ++ y) (sym (append_assoc x (c ∷ []) (decoded_text first left)))
  decoded-TakenFrom (TakenFrom.back x rest y c left t p) =
      let some : decoded_text first rest ≡ decoded_text first left ++ c ∷ [] =
      decoded-last rest p.0 p.1 ∙ ap (λ z. decoded_text first (take (length rest - p.0.width) rest) ++ z ∷ []) (sym p.2) ∙ ap (λ z. decoded_text first z ++ c ∷ []) (sym p.3) in
      decoded-TakenFrom t ∙ ap (λ z. x ++ z ++ y) some
      ∙ ap (λ z. z ++ y) (sym (append_assoc x (decoded_text first left) (c ∷ [])))
      ∙ append_assoc (x ++ decoded_text first left) (c ∷ []) y

  -- ---- which unit the last step begins with

  abbrev trails : ℕ → Bool
  trails = trails_in e

  t : HasTrails e
  t = HasTrails-first e

  -- a step ends before each unit that can't come after the first one of a step
  pub steps-at : (us : List ℕ) (p : ℕ) → p ≤ length us → (0 < p → p < length us → trails (get_or us p 0) ≡ false) → steps first us ≡ steps first (take p us) ++ steps first (drop p us)
  steps-at us p l h = by (length us) us p (omega arith) l h
    where
      by : (n : ℕ) (us : List ℕ) (p : ℕ) → length us ≤ n → p ≤ length us → (0 < p → p < length us → trails (get_or us p 0) ≡ false)
          → steps first us ≡ steps first (take p us) ++ steps first (drop p us)
      by n us zero m l h = sym (ap (λ x. x ++ steps first us) (steps-nil e))
      by n [] (suc p) m l h = absurd (omega arith)
      by zero (u ∷ us) (suc p) m l h = absurd (omega arith)
      by (suc n) (u ∷ us) (suc p) m l h =
          let us' = u ∷ us in
          let q = suc p in
          let w = (first us').width in
          let some = d.some us' (omega arith) in
          let rest = drop w us' in
          let k = length-drop w us' in ⊎_elim
          (λ within. let fits = d.fits us' (omega arith) in absurd (true≢false (sym (t.inside us' q (omega arith) within) ∙ h (omega arith) (omega arith))))
          (λ past.
          let place : w + (q - w) ≡ q = omega arith in
          let ih = by n rest (q - w) (omega arith) (omega arith) (λ a b. ap trails (get_or-drop w us' (q - w) 0 ∙ ap (λ i. get_or us' i 0) place) ∙ h (omega arith) (omega arith)) in
          steps-some e us' (omega arith)
          ∙ ap (λ x. first us' ∷ x) ih
          ∙ ap (λ x. first us' ∷ (steps first (take (q - w) rest) ++ steps first x)) (drop-drop (q - w) w us' ∙ ap (λ i. drop i us') place)
          ∙ sym (ap (λ x. x ++ steps first (drop q us')) (steps-take e us' q (omega arith) past)))
          (cases_lt q w)

  pub boundary-at : (us : List ℕ) (p : ℕ) → p < length us → trails (slice_index us p) ≡ false → IsBoundary first us p
  boundary-at us p l h = record {
    before = steps first (take p us);
    after = steps first (drop p us);
    apart = steps-at us p (omega arith) (λ _ _. h);
    taken = width_of-steps e (take p us) ∙ length-take-le p us (omega arith);
  }

  -- the step at the front of the units from p on, if it takes all of them
  IsLastStep-whole : (us : List ℕ) (p : ℕ) → IsLastStart trails us p → (first (drop p us)).width ≡ length us - p → IsLastStep first us (first (drop p us))
  IsLastStep-whole us p s all =
      let below = s.below in
      let rest = length-drop p us in
      let there : 0 < length (drop p us) = omega arith in
      let front : length us - (first (drop p us)).width ≡ p = omega arith in
      let lead : 0 < p → p < length us → trails (get_or us p 0) ≡ false = λ some _. ⊎_elim (λ low. s.at low) (λ high. false_from_ne_true (trails (get_or us p 0)) (λ trail.
      let one : first (drop p us) ≡ replacement_step 1 = t.alone (drop p us) there (ap trails (get_or-drop p us 0 0 ∙ ap (λ i. get_or us i 0) (plus-zero p)) ∙ trail) in
      let width = ap (λ s. s.width) one in
      absurd (omega arith))) (cases_lt (length us - longest_step) p) in
      record {
        fits = omega arith;
        last = steps-at us p (omega arith) lead
            ∙ ap (λ x. steps first (take p us) ++ x) (steps-some e (drop p us) there)
            ∙ ap (λ x. steps first (take p us) ++ first (drop p us) ∷ steps first x) (drop_all (first (drop p us)).width (drop p us) (omega arith))
            ∙ ap (λ x. steps first (take p us) ++ first (drop p us) ∷ x) (steps-nil e)
            ∙ ap (λ i. steps first (take i us) ++ first (drop p us) ∷ []) (sym front);
      }

  -- and if it doesn't: the last unit alone is an error
  IsLastStep-alone : (us : List ℕ) (p : ℕ) → IsLastStart trails us p → ((first (drop p us)).width ≡ length us - p → ⊥) → IsLastStep first us (replacement_step 1)
  IsLastStep-alone us p s ne =
      let below = s.below in
      let low = s.low in
      let found = last-step us (omega arith) in
      let q = found.0 in
      let at = found.1 in
      let under = at.below in
      let ends = at.ends in
      let short = t.short (drop q us) in
      -- places inside of the last step
      let inside : (k : ℕ) → q < k → k < length us → trails (get_or us k 0) ≡ true = λ k more less.
      let place : q + (k - q) ≡ k = omega arith in
      ap trails (sym (get_or-drop q us (k - q) 0 ∙ ap (λ i. get_or us i 0) place)) ∙ t.inside (drop q us) (k - q) (omega arith) (omega arith) in
      -- it begins after p
      let differ : q ≡ p → ⊥ = λ same. ne (ap (λ i. (first (drop i us)).width) (sym same) ∙ ends ∙ ap (λ i. length us - i) same) in
      let after : p < q = ⊎_elim (λ yes. yes) (λ no. absurd (true≢false (sym (inside p (omega (arith, differ)) below) ∙ s.at (omega (arith, differ))))) (cases_lt p q) in
      let there : 0 < length (drop q us) = omega (arith, length-drop q us) in
      let alone : first (drop q us) ≡ replacement_step 1 = t.alone (drop q us) there (ap trails (get_or-drop q us 0 0 ∙ ap (λ i. get_or us i 0) (plus-zero q)) ∙ s.after q after under) in
      let one : length us - 1 ≡ q = (let k = ap (λ s. s.width) alone in omega arith) in
      record {
        fits = omega arith;
        last = at.last
            ∙ ap (λ x. steps first (take q us) ++ x ∷ []) alone
            ∙ ap (λ i. steps first (take i us) ++ replacement_step 1 ∷ []) (sym one);
      }

  -- the same of a step that was found there, and of the one that is then the last
  pub IsLastStep-found : (us : List ℕ) (p n : ℕ) (s : Step) → IsLastStart trails us p → n ≡ length us → s ≡ first (drop p us) → s.width ≡ n - p → IsLastStep first us s
  IsLastStep-found us p n s l all is w = subst (IsLastStep first us) (sym is) (IsLastStep-whole us p l (sym (ap (λ s. s.width) is) ∙ w ∙ ap (λ n. n - p) all))

  pub IsLastStep-other : (us : List ℕ) (p n : ℕ) (s r : Step) → IsLastStart trails us p → n ≡ length us → s ≡ first (drop p us) → (s.width ≡ n - p → ⊥) → r ≡ replacement_step 1 → IsLastStep first us r
  IsLastStep-other us p n s r l all is w one = subst (IsLastStep first us) (sym one) (IsLastStep-alone us p l (λ k. w (ap (λ s. s.width) is ∙ k ∙ sym (ap (λ n. n - p) all))))
