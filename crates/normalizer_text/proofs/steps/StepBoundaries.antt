-- Positions at which a step ends.
use Rattle.std.proofs.Common.{◌≡◌, subst, ℕ, zero, suc, ◌+◌, ◌-◌, ◌<◌, ◌≤◌, inl, inr, List, [], ◌∷◌}
use Rattle.std.proofs.Common.{◌++◌, length, length-drop, length-take-le, append_assoc, take, drop, arith, refl, ap, sym, ◌∙◌, map, take-append-drop}
use Rattle.std.specs.Prelude.{All}
use Rattle.std.proofs.lemmas.List.{append-nil, take_at, drop_at, drop-drop, map-append}
use Rattle.std.proofs.lemmas.Bool.{cases_lt}
use Rattle.std.specs.List.{slice_range}
use Rattle.std.proofs.lemmas.List.Elements.{All-take, All-drop, All-same}
use Rattle.normalizer_text.specs.declared.decoding_step.Step.{Step}
use Rattle.normalizer_text.specs.DecodingSteps.{steps, width_of, IsBoundary, IsFirstStep, IsLastStep, IsWellFormed, decoded_text}
use Rattle.normalizer_text.specs.Encodings.{Encoding, first_in}
use Rattle.normalizer_text.proofs.rules.EncodingRules.{IsDecoding-first}
use Rattle.normalizer_text.proofs.steps.StepLemmas.{IsRight, steps-nil, steps-some, steps-apart, rest-shorter, steps-append}

pub width_of-append : (a b : List Step) → width_of (a ++ b) ≡ width_of a + width_of b
width_of-append [] b = omega arith
width_of-append (s ∷ a) b = omega (arith, width_of-append a b)

-- of two fronts of the same steps, the one of fewer steps takes no more units
pub width_of-fewer : (p r q t : List Step) → p ++ r ≡ q ++ t → length p ≤ length q → width_of p ≤ width_of q
width_of-fewer [] r q t same fewer = omega arith
width_of-fewer (s ∷ p) r [] t same fewer = absurd (omega arith)
width_of-fewer (s ∷ p) r (s' ∷ q) t same fewer =
    let head : s ≡ s' = cc in
    let tail : p ++ r ≡ q ++ t = cc in
    let width : s.width ≡ s'.width = ap (λ x. x.width) head in
    let rest = width_of-fewer p r q t tail (omega arith) in omega arith

-- the longer one continues the other
longer_front : (p r q t : List Step) → p ++ r ≡ q ++ t → length p ≤ length q → (m : List Step) × (q ≡ p ++ m) × (r ≡ m ++ t)
longer_front [] r q t same fewer = (q, refl, same)
longer_front (s ∷ p) r [] t same fewer = absurd (omega arith)
longer_front (s ∷ p) r (s' ∷ q) t same fewer =
    let head : s ≡ s' = cc in
    let tail : p ++ r ≡ q ++ t = cc in
    let k = longer_front p r q t tail (omega arith) in
    (k.0, ap (λ c. c ∷ q) (sym head) ∙ ap (λ l. s ∷ l) k.1, k.2)

module _ (e : Encoding) where
  abbrev first : List ℕ → Step
  first = first_in e

  -- the steps take all of the units
  pub width_of-steps : (us : List ℕ) → width_of (steps first us) ≡ length us
  width_of-steps us = by (length us) us (omega arith)
    where
      by : (n : ℕ) (us : List ℕ) → length us ≤ n → width_of (steps first us) ≡ length us
      by n [] h = ap width_of (steps-nil e)
      by zero (u ∷ us) h = absurd (omega arith)
      by (suc n) (u ∷ us) h =
          let us' = u ∷ us in
          let w = (first us').width in
          let fits = (IsDecoding-first e).fits us' (omega arith) in
          ap width_of (steps-some e us' (omega arith)) ∙ omega (arith, by n (drop w us') (rest-shorter e us' n (omega arith) h), length-drop w us')

  -- a step takes some of the units that are left
  pub step-some : (us : List ℕ) (n : ℕ) (s : Step) → n < length us → s ≡ first (drop n us) → (0 < s.width) × (n + s.width ≤ length us)
  step-some us n s more is =
      let some : 0 < length (drop n us) = omega (arith, length-drop n us) in
      let takes = (IsDecoding-first e).some (drop n us) some in
      let fits = (IsDecoding-first e).fits (drop n us) some in
      (omega (arith, ap (λ t. t.width) is), omega (arith, ap (λ t. t.width) is, length-drop n us))

  pub boundary-le : (us : List ℕ) (n : ℕ) → IsBoundary first us n → n ≤ length us
  boundary-le us n b =
      let all = width_of-steps us in
      let parts = ap width_of b.apart ∙ width_of-append b.before b.after in
      let taken = b.taken in omega arith

  pub boundary-start : (us : List ℕ) → IsBoundary first us 0
  boundary-start us = record { before = []; after = steps first us; apart = refl; taken = refl }

  pub boundary-end : (us : List ℕ) → IsBoundary first us (length us)
  boundary-end us = record { before = steps first us; after = []; apart = sym (append-nil (steps first us)); taken = width_of-steps us }

  unfoldable pub boundary-first : (us : List ℕ) (s : Step) → IsFirstStep first us s → IsBoundary first us s.width
  boundary-first us s f = record {
    before = s ∷ [];
    after = steps first (drop (first us).width us);
    apart = steps-some e us f.some ∙ ap (λ x. x ∷ steps first (drop (first us).width us)) (sym f.is);
    taken = omega arith;
  }

  pub boundary-last : (us : List ℕ) (s : Step) → IsLastStep first us s → IsBoundary first us (length us - s.width)
  boundary-last us s l =
      let front = take (length us - s.width) us in record {
        before = steps first front;
        after = s ∷ [];
        apart = l.last;
        taken = width_of-steps front ∙ length-take-le (length us - s.width) us (omega arith);
      }

  -- the steps of the two parts
  pub steps-parts : (us : List ℕ) (n : ℕ) (b : IsBoundary first us n) → (steps first (take n us) ≡ b.before) × (steps first (drop n us) ≡ b.after)
  steps-parts us n b = subst (λ m. (steps first (take m us) ≡ b.before) × (steps first (drop m us) ≡ b.after)) b.taken (steps-apart e b.before b.after us b.apart)

  pub steps-take-drop : (us : List ℕ) (n : ℕ) → IsBoundary first us n → steps first us ≡ steps first (take n us) ++ steps first (drop n us)
  steps-take-drop us n b =
      let k = steps-parts us n b in b.apart ∙ ap (λ x. x ++ b.after) (sym k.0) ∙ ap (λ x. steps first (take n us) ++ x) (sym k.1)

  -- a position in what follows a position
  unfoldable pub boundary-after : (us : List ℕ) (n m : ℕ) → IsBoundary first us n → IsBoundary first (drop n us) m → IsBoundary first us (n + m)
  boundary-after us n m b c = record {
    before = b.before ++ c.before;
    after = c.after;
    apart = b.apart ∙ ap (λ x. b.before ++ x) (sym (steps-parts us n b).1 ∙ c.apart) ∙ sym (append_assoc b.before c.before c.after);
    taken = width_of-append b.before c.before ∙ ap (λ x. x + width_of c.before) b.taken ∙ ap (λ x. n + x) c.taken;
  }

  -- a position in what comes before one
  pub boundary-before : (us : List ℕ) (n m : ℕ) → IsBoundary first us n → IsBoundary first (take n us) m → IsBoundary first us m
  boundary-before us n m b c = record {
    before = c.before;
    after = c.after ++ b.after;
    apart = b.apart ∙ ap (λ x. x ++ b.after) (sym (steps-parts us n b).0 ∙ c.apart) ∙ append_assoc c.before c.after b.after;
    taken = c.taken;
  }

  -- a later position, counted in what follows an earlier one
  pub boundary-between : (us : List ℕ) (n m : ℕ) → IsBoundary first us n → IsBoundary first us m → n ≤ m → IsBoundary first (drop n us) (m - n)
  boundary-between us n m b c le =
      elim (cases_lt (length c.before) (length b.before)) [
        | inl fewer ↦
            let back = width_of-fewer c.before c.after b.before b.after (sym c.apart ∙ b.apart) (omega arith) in
            let bn = b.taken in
            let cm = c.taken in
            subst (IsBoundary first (drop n us)) (omega arith) (boundary-start (drop n us))
        | inr more ↦
            let k = longer_front b.before b.after c.before c.after (sym b.apart ∙ c.apart) more in
            let widths = ap width_of k.1 ∙ width_of-append b.before k.0 in
            let bn = b.taken in
            let cm = c.taken in
            record { before = k.0; after = c.after; apart = (steps-parts us n b).1 ∙ k.2; taken = omega arith }
      ]

  -- one step more
  unfoldable pub boundary-more : (us : List ℕ) (n : ℕ) (s : Step) → IsBoundary first us n → n < length us → s ≡ first (drop n us) → IsBoundary first us (n + s.width)
  boundary-more us n s b more is = boundary-after us n s.width b (boundary-first (drop n us) s (record { some = omega (arith, length-drop n us); is = is }))

  -- the parts of what is well-formed are
  pub well_formed-parts : (us : List ℕ) (n : ℕ) → IsBoundary first us n → IsWellFormed first us → IsWellFormed first (take n us) × IsWellFormed first (drop n us)
  well_formed-parts us n b w =
      let k = steps-parts us n b in
      let all : All IsRight (b.before ++ b.after) = All-same IsRight (b.before ++ b.after) (steps first us) (sym b.apart) w in (
        All-same IsRight (steps first (take n us)) (take (length b.before) (b.before ++ b.after)) (k.0 ∙ sym (take_at b.before b.after (length b.before) refl))
            (All-take IsRight (length b.before) (b.before ++ b.after) all),
        All-same IsRight (steps first (drop n us)) (drop (length b.before) (b.before ++ b.after)) (k.1 ∙ sym (drop_at b.before b.after (length b.before) refl))
            (All-drop IsRight (length b.before) (b.before ++ b.after) all),
      )

  -- the text of the two parts
  pub decoded-take-drop : (us : List ℕ) (n : ℕ) → IsBoundary first us n → decoded_text first us ≡ decoded_text first (take n us) ++ decoded_text first (drop n us)
  decoded-take-drop us n b = ap (map (λ s. s.character)) (steps-take-drop us n b) ∙ map-append (λ s. s.character) (steps first (take n us)) (steps first (drop n us))

  -- the text of the three parts at two positions
  pub decoded-between : (us : List ℕ) (n m : ℕ) → IsBoundary first us n → IsBoundary first us m → n ≤ m
      → decoded_text first us ≡ decoded_text first (take n us) ++ decoded_text first (slice_range us n m) ++ decoded_text first (drop m us)
  decoded-between us n m b c le =
      let front = decoded_text first (take n us) in
      let middle = decoded_text first (slice_range us n m) in
      let place : n + (m - n) ≡ m = omega arith in
      let behind : drop (m - n) (drop n us) ≡ drop m us = drop-drop (m - n) n us ∙ ap (λ i. drop i us) place in
      decoded-take-drop us n b
      ∙ ap (λ l. front ++ l) (decoded-take-drop (drop n us) (m - n) (boundary-between us n m b c le))
      ∙ ap (λ l. front ++ (middle ++ decoded_text first l)) behind
      ∙ sym (append_assoc front middle (decoded_text first (drop m us)))

  -- a step ends with well-formed units
  pub boundary-well_formed : (us : List ℕ) (n : ℕ) → n ≤ length us → IsWellFormed first (take n us) → IsBoundary first us n
  boundary-well_formed us n h w = record {
    before = steps first (take n us);
    after = steps first (drop n us);
    apart = ap (steps first) (sym (take-append-drop n us)) ∙ steps-append e (take n us) (drop n us) w;
    taken = width_of-steps (take n us) ∙ length-take-le n us h;
  }
