-- Steps, one after another.
use Rattle.std.proofs.Common.{◌≡◌, subst, ℕ, zero, suc, ◌+◌, ◌-◌, ◌<◌, ◌≤◌, false, List, [], ◌∷◌, ◌++◌, length, length-drop, take, drop, map, arith, refl, ap, sym, ◌∙◌}
use Rattle.std.specs.Prelude.{◌↔◌, All}
use Rattle.std.specs.Char.{IsScalar}
use Rattle.std.proofs.lemmas.List.{drop-drop, drop-take, drop-append-le, map-append}
use Rattle.std.proofs.lemmas.List.Elements.{All-nil, All-cons, All-head, All-map, All-tail, All-same}
use Rattle.normalizer_text.specs.declared.decoding_step.Step.{Step}
use Rattle.normalizer_text.specs.DecodingSteps.{steps_past, steps, decoded_text, Decodes, IsWellFormed, width_of, TakesFirst, Spells}
use Rattle.normalizer_text.specs.Encodings.{Encoding, first_in}
use Rattle.normalizer_text.proofs.rules.Decoding.{IsDecoding}
use Rattle.normalizer_text.proofs.rules.EncodingRules.{IsDecoding-first}

abbrev pub IsRight : Step → Type 0
IsRight s = s.is_error ≡ false

module _ (e : Encoding) where
  abbrev first : List ℕ → Step
  first = first_in e

  d : IsDecoding e
  d = IsDecoding-first e

  -- the steps past the first n units are those of the others
  steps_past-drop : (n : ℕ) (us : List ℕ) → steps_past first n us ≡ steps first (drop n us)
  unfolding steps_past
  steps_past-drop zero us = refl
  steps_past-drop (suc n) [] = refl
  steps_past-drop (suc n) (u ∷ us) = steps_past-drop n us

  pub steps-nil : steps first [] ≡ []
  unfolding steps_past
  steps-nil = refl

  pub decoded-nil : decoded_text first [] ≡ []
  decoded-nil = ap (map (λ s. s.character)) steps-nil

  steps-cons : (u : ℕ) (us : List ℕ) → 0 < (first (u ∷ us)).width → steps first (u ∷ us) ≡ first (u ∷ us) ∷ steps first (drop (first (u ∷ us)).width (u ∷ us))
  unfolding steps_past
  steps-cons u us some = ap (λ x. first (u ∷ us) ∷ x) (by (first (u ∷ us)).width some)
    where
      by : (w : ℕ) → 0 < w → steps_past first (w - 1) us ≡ steps first (drop w (u ∷ us))
      by zero h = absurd (omega arith)
      by (suc w) h = let e : suc w - 1 ≡ w = omega arith in rw e (steps_past-drop w us)

  -- the step in front, and the steps of what it leaves
  pub steps-some : (us : List ℕ) → 0 < length us → steps first us ≡ first us ∷ steps first (drop (first us).width us)
  steps-some [] h = absurd (omega arith)
  steps-some (u ∷ us) h = steps-cons u us (d.some (u ∷ us) h)

  pub decoded-some : (us : List ℕ) → 0 < length us → decoded_text first us ≡ (first us).character ∷ decoded_text first (drop (first us).width us)
  decoded-some us h = ap (map (λ s. s.character)) (steps-some us h)

  -- what the step in front leaves is shorter
  pub rest-shorter : (us : List ℕ) (n : ℕ) → 0 < length us → length us ≤ suc n → length (drop (first us).width us) ≤ n
  rest-shorter us n h l = omega (arith, length-drop (first us).width us, d.some us h)

  -- an iterator that takes the first step each time yields what the units decode to
  pub Spells-TakesFirst : (us : List ℕ) → Spells (TakesFirst first) us (decoded_text first us)
  Spells-TakesFirst us = by (length us) us (omega arith)
    where
      by : (n : ℕ) (us : List ℕ) → length us ≤ n → Spells (TakesFirst first) us (decoded_text first us)
      by n [] h = subst (Spells (TakesFirst first) []) (sym decoded-nil) (λ x j p. absurd (omega (arith, p.0)))
      by zero (u ∷ us) h = absurd (omega arith)
      by (suc n) (u ∷ us) h = subst (Spells (TakesFirst first) (u ∷ us)) (sym (decoded-some (u ∷ us) (omega arith))) (
        (λ j p. absurd (let k : length (u ∷ us) ≡ 0 = ap length p.0 in omega arith)),
        λ x j p. (
          p.1,
          subst (λ y. Spells (TakesFirst first) y (decoded_text first (drop (first (u ∷ us)).width (u ∷ us)))) (sym p.2)
              (by n (drop (first (u ∷ us)).width (u ∷ us)) (rest-shorter (u ∷ us) n (omega arith) h)),
        ),
      )

  -- ---- the relation and the function

  pub Decodes-decoded : (us : List ℕ) → Decodes first us (decoded_text first us)
  Decodes-decoded us = by (length us) us (omega arith)
    where
      by : (n : ℕ) (us : List ℕ) → length us ≤ n → Decodes first us (decoded_text first us)
      by n [] h = subst (Decodes first []) (sym decoded-nil) Decodes.nothing
      by zero (u ∷ us) h = absurd (omega arith)
      by (suc n) (u ∷ us) h = subst (Decodes first (u ∷ us)) (sym (decoded-some (u ∷ us) (omega arith)))
          (Decodes.step u us _ (by n (drop (first (u ∷ us)).width (u ∷ us)) (rest-shorter (u ∷ us) n (omega arith) h)))

  pub decoded_from_Decodes : {us x : List ℕ} → Decodes first us x → x ≡ decoded_text first us
  decoded_from_Decodes Decodes.nothing = sym decoded-nil
  decoded_from_Decodes (Decodes.step u us x h) = ap (λ y. (first (u ∷ us)).character ∷ y) (decoded_from_Decodes h) ∙ sym (decoded-some (u ∷ us) (omega arith))

  -- ---- what holds of each first step

  pub All-steps : (P : Step → Type 0) → ((us : List ℕ) → P (first us)) → (us : List ℕ) → All P (steps first us)
  All-steps P holds us = by (length us) us (omega arith)
    where
      by : (n : ℕ) (us : List ℕ) → length us ≤ n → All P (steps first us)
      by n [] h = All-same P _ _ steps-nil (All-nil P)
      by zero (u ∷ us) h = absurd (omega arith)
      by (suc n) (u ∷ us) h = All-same P _ _ (steps-some (u ∷ us) (omega arith))
          (All-cons P _ _ (holds (u ∷ us)) (by n (drop (first (u ∷ us)).width (u ∷ us)) (rest-shorter (u ∷ us) n (omega arith) h)))

  pub decoded-IsText : (us : List ℕ) → All IsScalar (decoded_text first us)
  decoded-IsText us = All-map IsScalar (λ s. s.character) (steps first us) (All-steps (λ s. IsScalar s.character) d.scalar us)

  -- ---- what is well-formed

  -- the step in front is no error
  pub first-right : (us : List ℕ) → 0 < length us → IsWellFormed first us → (first us).is_error ≡ false
  first-right us h w =
      let rest = steps first (drop (first us).width us) in
      All-head IsRight (first us) rest (All-same IsRight (first us ∷ rest) (steps first us) (sym (steps-some us h)) w)

  -- ---- a front and a rest

  -- a well-formed front is decoded apart
  pub steps-append : (front rest : List ℕ) → IsWellFormed first front → steps first (front ++ rest) ≡ steps first front ++ steps first rest
  steps-append front rest w = by (length front) front (omega arith) w
    where
      by : (n : ℕ) (us : List ℕ) → length us ≤ n → IsWellFormed first us → steps first (us ++ rest) ≡ steps first us ++ steps first rest
      by n [] h w = sym (ap (λ x. x ++ steps first rest) steps-nil)
      by zero (u ∷ us) h w = absurd (omega arith)
      by (suc n) (u ∷ us) h w =
          let us' = u ∷ us in
          let cons = steps-some us' (omega arith) in
          let w' : All IsRight (first us' ∷ steps first (drop (first us').width us')) = All-same IsRight (first us' ∷ steps first (drop (first us').width us')) (steps first us') (sym cons) w in
          let same = d.extends us' rest (omega arith) (All-head IsRight (first us') (steps first (drop (first us').width us')) w') in
          let left : drop (first (us' ++ rest)).width (us' ++ rest) ≡ drop (first us').width us' ++ rest =
          ap (λ s. drop s.width (us' ++ rest)) same ∙ drop-append-le (first us').width us' rest (d.fits us' (omega arith)) in
          steps-some (us' ++ rest) (omega arith)
          ∙ ap (λ s. s ∷ steps first (drop (first (us' ++ rest)).width (us' ++ rest))) same
          ∙ ap (λ x. first us' ∷ steps first x) left
          ∙ ap (λ x. first us' ∷ x) (by n (drop (first us').width us') (rest-shorter us' n (omega arith) h) (All-tail IsRight (first us') (steps first (drop (first us').width us')) w'))
          ∙ sym (ap (λ x. x ++ steps first rest) cons)

  -- the steps of the first n units, and of the others, if the first step takes no more than n
  pub steps-take : (us : List ℕ) (n : ℕ) → 0 < length us → (first us).width ≤ n → steps first (take n us) ≡ first us ∷ steps first (take (n - (first us).width) (drop (first us).width us))
  steps-take us n h l =
      let w = (first us).width in
      let some = d.some us h in
      let same = d.cut us n h l in
      let k : n ≡ w + (n - w) = omega arith in
      let left : drop w (take n us) ≡ take (n - w) (drop w us) = ap (λ m. drop w (take m us)) k ∙ drop-take w (n - w) us in
      steps-some (take n us) (positive us n h (omega arith))
      ∙ ap (λ s. s ∷ steps first (drop s.width (take n us))) same
      ∙ ap (λ x. first us ∷ steps first x) left
    where
      positive : (us : List ℕ) (n : ℕ) → 0 < length us → 0 < n → 0 < length (take n us)
      positive [] n h l = absurd (omega arith)
      positive (u ∷ us) zero h l = absurd (omega arith)
      positive (u ∷ us) (suc n) h l = omega arith

  -- at the boundary of a step the front has the first steps, and the rest the others
  pub steps-apart : (before after : List Step) (us : List ℕ) → steps first us ≡ before ++ after → (steps first (take (width_of before) us) ≡ before) × (steps first (drop (width_of before) us) ≡ after)
  steps-apart [] after us whole = (steps-nil, whole)
  steps-apart (s ∷ before) after [] whole = absurd (let k : [] ≡ s ∷ (before ++ after) = sym steps-nil ∙ whole in cc)
  steps-apart (s ∷ before) after (u ∷ us) whole =
      let us' = u ∷ us in
      let k : first us' ∷ steps first (drop (first us').width us') ≡ s ∷ (before ++ after) = sym (steps-some us' (omega arith)) ∙ whole in
      let head : first us' ≡ s = cc in
      let tail : steps first (drop (first us').width us') ≡ before ++ after = cc in
      let w = (first us').width in
      let width : s.width ≡ w = ap (λ s. s.width) (sym head) in
      let ih = steps-apart before after (drop w us') tail in
      let n = width_of before in
      let less : s.width + n - w ≡ n = omega arith in (
        steps-take us' (s.width + n) (omega arith) (omega arith)
            ∙ ap (λ m. first us' ∷ steps first (take m (drop w us'))) less
            ∙ ap (λ x. first us' ∷ x) ih.0
            ∙ ap (λ s. s ∷ before) head,
        ap (λ m. steps first (drop (m + n) us')) width ∙ ap (steps first) (sym (drop-drop n w us')) ∙ ih.1,
      )

  -- ---- what the public laws say

  pub Decodes-iff : (units x : List ℕ) → Decodes first units x ↔ (x ≡ decoded_text first units)
  Decodes-iff units x = (decoded_from_Decodes, λ same. subst (Decodes first units) (sym same) (Decodes-decoded units))

  pub decoded-append : (front rest : List ℕ) → IsWellFormed first front → decoded_text first (front ++ rest) ≡ decoded_text first front ++ decoded_text first rest
  decoded-append front rest w = ap (map (λ s. s.character)) (steps-append front rest w) ∙ map-append (λ s. s.character) (steps first front) (steps first rest)
