-- The first mismatch of units, of more units after them, and of all after normalized ones.
use Rattle.std.proofs.Common.{◌≡◌, ℕ, ◌+◌, ◌-◌, ◌<◌, ◌≤◌, ◌⊎◌, inl, inr, List, [], ◌∷◌, ◌++◌, length, take, drop, map, sym, ap, subst, ◌∙◌, arith, append_assoc, length-append, length-take}
use Rattle.std.specs.Prelude.{All}
use Rattle.std.proofs.Math.Seq.{drop-append-add, drop-append_seam, take-append-add, take-append_seam}
use Rattle.std.proofs.lemmas.Bool.{cases_Bool, cases_lt, true≢false}
use Rattle.std.proofs.lemmas.List.{append_cancel_left, append_cancel_right, drop-append-le, get_or-take, map-append, take-append-le, take-take}
use Rattle.std.proofs.lemmas.List.Elements.{All-append, All-cons, All-drop, All-head, All-nil, All-same, All-tail, All-take}
use Rattle.icu_normalizer.proofs.BackLemmas.{steps-at}
use Rattle.icu_normalizer.proofs.StepLemmas.{IsRight, decoded-append, decoded-some, steps-append}
use Rattle.icu_normalizer.specs.Checks.{HasOffenceWithin}
use Rattle.icu_normalizer.specs.DecodingSteps.{steps, IsWellFormed}
use Rattle.icu_normalizer.specs.Encodings.{Encoding, decoded_in, first_in, trails_in}
use Rattle.icu_normalizer.specs.Forms.{MadeForm}
use Rattle.icu_normalizer.specs.InputCut.{IsInputCut, IsInputNormalized, QualifiesForInputCut}
use Rattle.icu_normalizer.specs.InputOffence.{IsInputOffence}
use Rattle.icu_normalizer.specs.NormalForms.{normal_form}
use Rattle.icu_normalizer.specs.Step.{Step}
use Rattle.icu_normalizer.specs.TextOffence.{IsFirst}
use Rattle.normalizer_streams.specs.inner.Agreements.{BeginsPart, IsMismatchIn}
use Rattle.normalizer_streams.proofs.SettledLemmas.{leads, steps-divided}

All-front : (xs ys : List Step) → All IsRight (xs ++ ys) → All IsRight xs
All-front xs ys all = subst (All IsRight) (take-append_seam xs ys) (All-take IsRight (length xs) (xs ++ ys) all)

All-back : (xs ys : List Step) → All IsRight (xs ++ ys) → All IsRight ys
All-back xs ys all = subst (All IsRight) (drop-append_seam xs ys) (All-drop IsRight (length xs) (xs ++ ys) all)

cases_right : (ss : List Step) → All IsRight ss ⊎ (All IsRight ss → ⊥)
cases_right [] = inl (All-nil IsRight)
cases_right (s ∷ ss) = elim (cases_Bool s.is_error) [
  | inl error ↦ inr (λ all. true≢false (sym error ∙ All-head IsRight s ss all))
  | inr right ↦
      elim (cases_right ss) [
        | inl all ↦ inl (All-cons IsRight s ss right all)
        | inr some ↦ inr (λ all. some (All-tail IsRight s ss all))
      ]
]

module _ (e : Encoding) (m : MadeForm) where
  abbrev first : List ℕ → Step
  first = first_in e

  abbrev text : List ℕ → List ℕ
  text units = decoded_in e units

  abbrev form : List ℕ → List ℕ
  form x = normal_form m.reading m.form x

  abbrev normalized : List ℕ → Type 0
  normalized units = IsInputNormalized e m.reading m.form units

  -- ---- what comes before a new part

  text-joined : (front rest : List ℕ) → BeginsPart e m rest → text (front ++ rest) ≡ text front ++ text rest
  text-joined front rest b =
      ap (map (λ s. s.character)) (steps-divided e front rest b.some b.whole) ∙ map-append (λ s. s.character) (steps first front) (steps first rest)

  pub form-joined : (front rest : List ℕ) → BeginsPart e m rest → form (text (front ++ rest)) ≡ form (text front) ++ form (text rest)
  form-joined front rest b =
      let c = (first rest).character in
      let x = text (drop (first rest).width rest) in
      let begins : text rest ≡ c ∷ x = decoded-some e rest b.some in
      ap form (text-joined front rest b ∙ ap (λ z. text front ++ z) begins) ∙ b.apart (text front) x ∙ ap (λ z. form (text front) ++ form z) (sym begins)

  -- ---- units, and more after them

  module _ (units more : List ℕ) (b : BeginsPart e m more) where
    -- if more than the units are well-formed, so are they
    well_formed-past : (n : ℕ) → length units < n → n ≤ length (units ++ more) → IsWellFormed first (take n (units ++ more)) → IsWellFormed first units
    well_formed-past n past within right =
        let all = units ++ more in
        let front = take n all in
        let place = length units in
        let inside : place < length all = omega arith in
        let size : length front ≡ n = omega (arith, length-take n all, within) in
        let lead = leads e all place inside (ap (λ x. (first x).is_error) (drop-append_seam units more) ∙ b.whole) in
        let parts = steps-at e front place (omega (arith, size, past)) (λ _ _. ap (trails_in e) (get_or-take n all place 0 past) ∙ lead) in
        let same : take place front ≡ units = take-take place n all (omega (arith, past)) ∙ take-append_seam units more in
        subst (IsWellFormed first) same (All-front (steps first (take place front)) (steps first (drop place front)) (subst (All IsRight) parts right))

    module _ (place found wanted : ℕ) (o : IsInputOffence e m.reading m.form units place found wanted) where
      within : place ≤ length units
      within = o.cut.qualifies.within

      front-same : take place (units ++ more) ≡ take place units
      front-same = take-append-le place units more within

      rest-same : drop place (units ++ more) ≡ drop place units ++ more
      rest-same = drop-append-le place units more within

      qualifies-more : QualifiesForInputCut e m.reading m.form (units ++ more) place
      qualifies-more = record {
        within = omega (arith, within, length-append units more);
        well_formed = subst (IsWellFormed first) (sym front-same) o.cut.qualifies.well_formed;
        keeps = ap (λ x. text x ++ form (text (drop place (units ++ more)))) front-same ∙ ap (λ x. text (take place units) ++ form (text x)) rest-same
            ∙ ap (λ x. text (take place units) ++ x) (form-joined (drop place units) more b)
            ∙ sym (append_assoc (text (take place units)) (form (text (drop place units))) (form (text more)))
            ∙ ap (λ x. x ++ form (text more)) o.cut.qualifies.keeps ∙ sym (form-joined units more b);
      }

      found-more : IsFirst (text (drop place (units ++ more))) found
      found-more = (
        o.is_found.0 ++ text more,
        ap text rest-same ∙ text-joined (drop place units) more b ∙ ap (λ x. x ++ text more) o.is_found.1,
      )

      wanted-more : IsFirst (form (text (drop place (units ++ more)))) wanted
      wanted-more = (
        o.is_wanted.0 ++ form (text more),
        ap (λ x. form (text x)) rest-same ∙ form-joined (drop place units) more b ∙ ap (λ x. x ++ form (text more)) o.is_wanted.1,
      )

      -- the units are well-formed
      right-more : HasOffenceWithin m e (units ++ more) place → IsInputOffence e m.reading m.form (units ++ more) place found wanted
      right-more h =
          let no_later : h.0 ≤ place = h.4 in
          let no_sooner : place ≤ h.0 = h.3.cut.greatest place qualifies-more in
          let same : h.0 ≡ place = omega arith in
          record { differs = h.3.differs; cut = subst (IsInputCut e m.reading m.form (units ++ more)) same h.3.cut; is_found = found-more; is_wanted = wanted-more }

      -- or they aren't
      within-less : (n : ℕ) → n ≤ length units → QualifiesForInputCut e m.reading m.form (units ++ more) n → QualifiesForInputCut e m.reading m.form units n
      within-less n le q =
          let front = take-append-le n units more le in
          let rest = drop-append-le n units more le in
          record {
            within = le;
            well_formed = subst (IsWellFormed first) front q.well_formed;
            keeps = append_cancel_right _ _ (form (text more)) (
                append_assoc (text (take n units)) (form (text (drop n units))) (form (text more))
                ∙ ap (λ x. text (take n units) ++ x) (sym (form-joined (drop n units) more b))
                ∙ ap (λ x. text (take n units) ++ form (text x)) (sym rest) ∙ ap (λ x. text x ++ form (text (drop n (units ++ more)))) (sym front)
                ∙ q.keeps ∙ form-joined units more b);
          }

      wrong-more : (IsWellFormed first units → ⊥) → IsInputOffence e m.reading m.form (units ++ more) place found wanted
      wrong-more wrong = record {
        differs = λ own. wrong (All-front (steps first units) (steps first more) (subst (All IsRight) (steps-divided e units more b.some b.whole) own.well_formed));
        cut = record {
          qualifies = qualifies-more;
          greatest = λ n q. elim (cases_lt (length units) n) [
            | inl past ↦ absurd (wrong (well_formed-past n past q.within q.well_formed))
            | inr le ↦ o.cut.greatest n (within-less n le q)
          ];
        };
        is_found = found-more;
        is_wanted = wanted-more;
      }

    pub offence-more : (place found wanted : ℕ) → IsMismatchIn e m units place found wanted → IsInputOffence e m.reading m.form (units ++ more) place found wanted
    offence-more place found wanted x = elim (cases_right (steps first units)) [
      | inl right ↦ right-more place found wanted x.first (x.lasts right more)
      | inr wrong ↦ wrong-more place found wanted x.first wrong
    ]

  -- ---- units after normalized ones

  module _ (front rest : List ℕ) (own : normalized front) (form-parts : form (text (front ++ rest)) ≡ text front ++ form (text rest)) where
    parts : text (front ++ rest) ≡ text front ++ text rest
    parts = decoded-append e front rest own.well_formed

    steps-parts : (x : List ℕ) → steps first (front ++ x) ≡ steps first front ++ steps first x
    steps-parts x = steps-append e front x own.well_formed

    pub normalized-after : normalized rest → normalized (front ++ rest)
    normalized-after r = record {
      well_formed = All-same IsRight _ _ (steps-parts rest) (All-append IsRight _ _ own.well_formed r.well_formed);
      own = form-parts ∙ ap (λ x. text front ++ x) r.own ∙ sym parts;
    }

    differs-after : (normalized rest → ⊥) → normalized (front ++ rest) → ⊥
    differs-after differs all = differs (record {
      well_formed = All-back (steps first front) (steps first rest) (subst (All IsRight) (steps-parts rest) all.well_formed);
      own = append_cancel_left (text front) _ _ (sym form-parts ∙ all.own ∙ parts);
    })

    module _ (place found wanted : ℕ) (o : IsInputOffence e m.reading m.form rest place found wanted) where
      abbrev front-at : (n : ℕ) → take (length front + n) (front ++ rest) ≡ front ++ take n rest
      front-at n = take-append-add front rest n

      abbrev rest-at : (n : ℕ) → drop (length front + n) (front ++ rest) ≡ drop n rest
      rest-at n = drop-append-add front rest n

      qualifies-after : QualifiesForInputCut e m.reading m.form (front ++ rest) (length front + place)
      qualifies-after =
          let q = o.cut.qualifies in
          let fine = All-same IsRight _ _ (steps-parts (take place rest)) (All-append IsRight _ _ own.well_formed q.well_formed) in
          record {
            within = omega (arith, q.within, length-append front rest);
            well_formed = subst (IsWellFormed first) (sym (front-at place)) fine;
            keeps = ap (λ x. text x ++ form (text (drop (length front + place) (front ++ rest)))) (front-at place)
                ∙ ap (λ x. text (front ++ take place rest) ++ form (text x)) (rest-at place)
                ∙ ap (λ x. x ++ form (text (drop place rest))) (decoded-append e front (take place rest) own.well_formed)
                ∙ append_assoc (text front) (text (take place rest)) (form (text (drop place rest)))
                ∙ ap (λ x. text front ++ x) q.keeps ∙ sym form-parts;
          }

      less-after : (n : ℕ) → QualifiesForInputCut e m.reading m.form (front ++ rest) (length front + n) → QualifiesForInputCut e m.reading m.form rest n
      less-after n q =
          let right = subst (IsWellFormed first) (front-at n) q.well_formed in
          record {
            within = omega (arith, q.within, length-append front rest);
            well_formed = All-back (steps first front) (steps first (take n rest)) (subst (All IsRight) (steps-parts (take n rest)) right);
            keeps = append_cancel_left (text front) _ _ (
                sym (append_assoc (text front) (text (take n rest)) (form (text (drop n rest))))
                ∙ ap (λ x. x ++ form (text (drop n rest))) (sym (decoded-append e front (take n rest) own.well_formed))
                ∙ ap (λ x. text (front ++ take n rest) ++ form (text x)) (sym (rest-at n))
                ∙ ap (λ x. text x ++ form (text (drop (length front + n) (front ++ rest)))) (sym (front-at n))
                ∙ q.keeps ∙ form-parts);
          }

      pub offence-after : IsInputOffence e m.reading m.form (front ++ rest) (length front + place) found wanted
      offence-after = record {
        differs = differs-after o.differs;
        cut = record {
          qualifies = qualifies-after;
          greatest = λ n q. elim (cases_lt n (length front)) [
            | inl before ↦ omega (arith, before)
            | inr later ↦
                let sum : n ≡ length front + (n - length front) = omega (arith, later) in
                let less = o.cut.greatest (n - length front) (less-after (n - length front) (subst (QualifiesForInputCut e m.reading m.form (front ++ rest)) sum q)) in
                omega (arith, later, less)
          ];
        };
        is_found = subst (λ x. IsFirst (text x) found) (sym (rest-at place)) o.is_found;
        is_wanted = subst (λ x. IsFirst (form (text x)) wanted) (sym (rest-at place)) o.is_wanted;
      }
