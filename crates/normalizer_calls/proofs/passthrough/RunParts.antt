-- Characters that pass are normalized, and normalized apart from what comes after them, as segments are.
use Rattle.std.proofs.Common.{◌≡◌, ℕ, ◌-◌, ◌<◌, ◌≤◌, Bool, true, false, List, [], ◌∷◌, ◌++◌, length, take, drop, map, refl, sym, ap, subst, ◌∙◌}
use Rattle.std.proofs.Common.{append_assoc, append-nil, arith, length-drop, length-take-le, inl, inr}
use Rattle.std.specs.Char.{IsScalar}
use Rattle.std.specs.Prelude.{All, IfSome, ◌&&◌, ◌==◌, nat_le, not, Some, None, option_and_then}
use Rattle.std.proofs.lemmas.Bool.{and_parts, cases_lt, cases_Bool, cond-true, cond-false, eqb-true, leb-true}
use Rattle.std.proofs.lemmas.Option.{option_and_then_some}
use Rattle.std.proofs.lemmas.List.{append_cancel_left, drop_at, map-append, take-take}
use Rattle.std.proofs.lemmas.List.Elements.{All-nil, All-cons, All-head, All-tail, All-same, All-drop}
use Rattle.normal_forms.specs.Reading.{Reading}
use Rattle.normal_forms.specs.declared.Form.{Form}
use Rattle.normal_forms.specs.Forms.{IsNormalized}
use Rattle.normal_forms.specs.Order.{EndsUpTo}
use Rattle.normalizer_passing.specs.PassBytes.{byte_of, least_after}
use Rattle.normalizer_text.specs.declared.decoding_step.Step.{Step}
use Rattle.normalizer_text.specs.Encodings.{Encoding, first_in, decoded_in}
use Rattle.normalizer_text.specs.DecodingSteps.{steps, IsBoundary, IsLastStep}
use Rattle.normalizer_text.specs.Passing.{least_past, next_least, IsLastStarter, Passes}
use Rattle.normalizer_text.proofs.steps.StepBoundaries.{boundary-before, boundary-first, boundary-last, boundary-le, step-some, steps-parts, steps-take-drop}
use Rattle.normalizer_text.proofs.rules.EncodingRules.{IsDecoding-first}
use Rattle.normalizer_text.proofs.steps.StepLemmas.{decoded-IsText, decoded-some, steps-nil, steps-some}
use Rattle.normalizer_text.specs.InputCut.{IsInputNormalized}
use Rattle.normalizer_iterators.specs.Segment.{EndsFront}
use Rattle.normalizer_calls.specs.BoundaryBefore.{HasBoundaryBefore}
use Rattle.normalizer_calls.specs.declared.segment.Segment.{Segment}
use Rattle.normalizer_calls.specs.inner.PassthroughRuns.{AreBytesOf, BeginsAt, Divides, IsFrontSegment, IsPart, IsSegmentEnd}
use Rattle.normalizer_calls.proofs.passthrough.PassthroughLemmas.{Divides-after, Divides-end, Divides-next, EndsUpTo-more, EndsUpTo-none, IsNormalized-mark, IsNormalized-starter, normal_form-nil}

-- the last of a list
last_of : (P : ℕ → Type 0) (x : List ℕ) (c : ℕ) → All P (x ++ c ∷ []) → P c
last_of P x c all = All-head P c [] (All-same P _ _ (sym (drop_at x (c ∷ []) (length x) refl)) (All-drop P (length x) (x ++ c ∷ []) all))

-- ---- the places at which a text is divided

module _ (e : Encoding) (d : Reading) (form : Form) (units : List ℕ) where
  -- the character at a place is normalized apart, or none is there: so is what comes from that place on
  Divides-before : (end : ℕ) → (end < length units → IsScalar (first_in e (drop end units)).character → HasBoundaryBefore d form (first_in e (drop end units)).character)
      → (front : List ℕ) → Divides d form front (decoded_in e (drop end units))
  Divides-before end next front = elim (cases_lt end (length units)) [
    | inl more ↦
        let rest = drop end units in
        let some : 0 < length rest = omega (arith, length-drop end units) in
        let s = first_in e rest in
        subst (Divides d form front) (sym (decoded-some e rest some))
        (Divides-next d form s.character (next more ((IsDecoding-first e).scalar rest)) front (decoded_in e (drop s.width rest)))
    | inr none ↦
        let rest = drop end units in
        subst (Divides d form front) (sym (decoded-none e rest (omega (arith, length-drop end units)))) (Divides-end d form front)
  ]
    where
      decoded-none : (e : Encoding) (us : List ℕ) → length us ≡ 0 → decoded_in e us ≡ []
      decoded-none e [] h = ap (map (λ s. s.character)) (steps-nil e)
      decoded-none e (u ∷ us) h = absurd (omega arith)

  -- a segment
  pub IsPart-segment : (beginning : ℕ → Bool) → ((c : ℕ) → IsScalar c → beginning c ≡ true → HasBoundaryBefore d form c) → (end : ℕ) → IsSegmentEnd beginning e units end → IsPart e d form units end
  IsPart-segment beginning law end h = record {
    some = h.some;
    boundary = h.boundary;
    divides = λ front. Divides-before end (λ more scalar. law (first_in e (drop end units)).character scalar (h.next more)) (front ++ decoded_in e (take end units));
  }

-- ---- steps that pass

module _ (bytes : List ℕ) where
  -- the byte of the step isn't below the least
  pub record StepPasses (least next : ℕ) (s : Step) : Type 0 where
    pub right : s.is_error ≡ false
    pub least_is : least ≤ byte_of bytes s.character
    pub next_is : least_after (byte_of bytes s.character) ≡ next

  StepPasses-next : (least next : ℕ) (s : Step) → next_least bytes least s ≡ Some next → StepPasses least next s
  unfolding next_least
  StepPasses-next least next s is = elim (cases_Bool (not s.is_error && nat_le least (byte_of bytes s.character))) [
    | inl passes ↦
        let both = and_parts (not s.is_error) (nat_le least (byte_of bytes s.character)) passes in
        let same : Some (least_after (byte_of bytes s.character)) ≡ Some next = sym (cond-true _ (Some (least_after (byte_of bytes s.character))) None passes) ∙ is in
        record { right = is_not s.is_error both.0; least_is = leb-true least (byte_of bytes s.character) both.1; next_is = cc }
    | inr stops ↦ absurd (let none : None ≡ Some next = sym (cond-false _ (Some (least_after (byte_of bytes s.character))) None stops) ∙ is in cc)
  ]
    where
      is_not : (b : Bool) → not b ≡ true → b ≡ false
      is_not true h = absurd (cc)
      is_not false h = refl

  -- a front of steps that pass passes
  pub least_past-front : (a b : List Step) (least next : ℕ) → least_past bytes least (a ++ b) ≡ Some next → (k : ℕ) × (least_past bytes least a ≡ Some k)
  unfolding least_past
  least_past-front [] b least next is = (least, refl)
  least_past-front (s ∷ a) b least next is = option_and_then_some (λ k. least_past bytes k (a ++ b)) (next_least bytes least s) next is (λ k first rest.
      let more = least_past-front a b k next rest in
      (more.0, ap (option_and_then (λ i. least_past bytes i a)) first ∙ more.1))

-- the last of the steps up to a place is the first one from where it begins
last_is_next : (e : Encoding) (units : List ℕ) (end : ℕ) → (b : IsBoundary (first_in e) units end) → (s : Step) → IsLastStep (first_in e) (take end units) s
    → s ≡ first_in e (drop (end - s.width) units)
last_is_next e units end b s last =
    let n = length (take end units) - s.width in
    let place = boundary-before e units end n b (boundary-last e (take end units) s last) in
    let front : take n (take end units) ≡ take n units = take-take n end units (omega (arith, length-take-le end units (boundary-le e units end b))) in
    let is : n ≡ end - s.width = ap (λ k. k - s.width) (length-take-le end units (boundary-le e units end b)) in
    let rest : steps (first_in e) (drop n units) ≡ s ∷ steps (first_in e) (drop end units) =
    append_cancel_left (steps (first_in e) (take n units)) _ _ (
    sym (steps-take-drop e units n place) ∙ steps-take-drop e units end b ∙ ap (λ l. l ++ steps (first_in e) (drop end units)) last.last
    ∙ append_assoc (steps (first_in e) (take n (take end units))) (s ∷ []) (steps (first_in e) (drop end units))
    ∙ ap (λ l. steps (first_in e) l ++ s ∷ steps (first_in e) (drop end units)) front
    ) in
    subst (λ k. s ≡ first_in e (drop k units)) is (head_of (drop n units) (steps (first_in e) (drop end units)) rest)
  where
    head_of : (rest : List ℕ) (ss : List Step) → steps (first_in e) rest ≡ s ∷ ss → s ≡ first_in e rest
    head_of [] ss is = let none : [] ≡ s ∷ ss = sym (steps-nil e) ∙ is in absurd (cc)
    head_of (u ∷ us) ss is =
        let both : first_in e (u ∷ us) ∷ steps (first_in e) (drop (first_in e (u ∷ us)).width (u ∷ us)) ≡ s ∷ ss = sym (steps-some e (u ∷ us) (omega arith)) ∙ is in
        let same : first_in e (u ∷ us) ≡ s = cc in
        sym same

-- a text is normalized, and ends with a character of a class up to the least byte that passes after it
pub record OwnSoFar (d : Reading) (form : Form) (x : List ℕ) (least : ℕ) : Type 0 where
  pub own : IsNormalized d form x
  pub ends : EndsUpTo d least x
  pub some : 0 < least

pub OwnSoFar-none : (d : Reading) (form : Form) → OwnSoFar d form [] 1
OwnSoFar-none d form = record { own = normal_form-nil d form form; ends = EndsUpTo-none d 1; some = omega arith }

module _ (d : Reading) (form : Form) (held_back : Bool) (bytes : List ℕ) (law : AreBytesOf d form held_back bytes) where
  pub OwnSoFar-more : (x : List ℕ) (least c : ℕ) → OwnSoFar d form x least → IsScalar c → least ≤ byte_of bytes c → OwnSoFar d form (x ++ c ∷ []) (least_after (byte_of bytes c))
  unfolding least_after
  OwnSoFar-more x least c so_far scalar passes = elim (cases_Bool (byte_of bytes c == 255)) [
    | inl starter ↦
        let may = law.starters c scalar (eqb-true (byte_of bytes c) 255 starter) in
        subst (OwnSoFar d form (x ++ c ∷ [])) (sym (cond-true (byte_of bytes c == 255) 1 (byte_of bytes c) starter)) (record {
          own = IsNormalized-starter d form x so_far.own c 0 held_back may;
          ends = λ front last is. omega (arith, EndsUpTo-more d x c 0 may.starter front last is);
          some = omega arith;
        })
    | inr mark ↦
        subst (OwnSoFar d form (x ++ c ∷ [])) (sym (cond-false (byte_of bytes c == 255) 1 (byte_of bytes c) mark))
        (let may = law.marks c scalar (let k = so_far.some in omega arith) (λ is. (let no : true ≡ false = subst (λ n. (n == 255) ≡ false) is mark in cc)) in
        record {
          own = IsNormalized-mark d form x so_far.own c (byte_of bytes c) may least passes so_far.ends;
          ends = EndsUpTo-more d x c (byte_of bytes c) may.class;
          some = let k = so_far.some in omega arith;
        })
  ]

  abbrev text : List Step → List ℕ
  text ss = map (λ s. s.character) ss

  -- steps that pass
  own_after : (x : List ℕ) (ss : List Step) (least k : ℕ) → All IsScalar (text ss) → least_past bytes least ss ≡ Some k → OwnSoFar d form x least → OwnSoFar d form (x ++ text ss) k × All (λ s. s.is_error ≡ false) ss
  unfolding least_past
  own_after x [] least k scalars pass so_far =
      let same : least ≡ k = cc in
      (subst (λ l. OwnSoFar d form l k) (sym (append-nil x)) (subst (OwnSoFar d form x) same so_far), All-nil (λ s. s.is_error ≡ false))
  own_after x (s ∷ ss) least k scalars pass so_far = option_and_then_some (λ j. least_past bytes j ss) (next_least bytes least s) k pass (λ j next rest.
      let here = StepPasses-next bytes least j s next in
      let more = subst (OwnSoFar d form (x ++ s.character ∷ [])) here.next_is (OwnSoFar-more x least s.character so_far (All-head IsScalar s.character (text ss) scalars) here.least_is) in
      let all = own_after (x ++ s.character ∷ []) ss j k (All-tail IsScalar s.character (text ss) scalars) rest more in
      (subst (λ l. OwnSoFar d form l k) (append_assoc x (s.character ∷ []) (text ss)) all.0, All-cons (λ t. t.is_error ≡ false) s ss here.right all.1))

  module _ (e : Encoding) (units : List ℕ) where
    abbrev IsOwnPart : ℕ → Type 0
    IsOwnPart end = IsPart e d form units end × IsInputNormalized e d form (take end units)

    module _ (end : ℕ) (passed : Passes e bytes units end) where
      abbrev boundary : IsBoundary (first_in e) units end
      boundary = passed.to.boundary

      -- characters that pass are well-formed and normalized
      own_run : IsInputNormalized e d form (take end units)
      own_run =
          let all = own_after [] (steps (first_in e) (take end units)) 1 passed.least (decoded-IsText e (take end units))
          (ap (least_past bytes 1) (steps-parts e units end boundary).0 ∙ passed.to.pass) (OwnSoFar-none d form) in
          record { well_formed = all.1; own = all.0.own }

      -- and apart from what begins a new part
      own_part : 0 < end → (end < length units → IsScalar (first_in e (drop end units)).character → HasBoundaryBefore d form (first_in e (drop end units)).character) → IsOwnPart end
      own_part some next = (
        record { some = some; boundary = boundary; divides = λ front. Divides-before e d form units end next (front ++ decoded_in e (take end units)) },
        own_run,
      )

      pub passed_to_end : end ≡ length units → 0 < end → IsOwnPart end
      passed_to_end all some = own_part some (λ more. absurd (omega (arith, all)))

      pub passed_apart : (beginning : ℕ → Bool) → ((c : ℕ) → IsScalar c → beginning c ≡ true → HasBoundaryBefore d form c) → BeginsAt beginning e units end → 0 < end → IsOwnPart end
      passed_apart beginning begins next some = own_part some (λ more scalar. begins (first_in e (drop end units)).character scalar (next more))

      -- those before a place do
      Passes-before : (place : ℕ) → IsBoundary (first_in e) (take end units) place → Passes e bytes units place
      Passes-before place b =
          let front = least_past-front bytes b.before b.after 1 passed.least (ap (least_past bytes 1) (sym b.apart ∙ (steps-parts e units end boundary).0) ∙ passed.to.pass) in
          let there = boundary-before e units end place boundary b in
          let same : there.before ≡ b.before = sym (steps-parts e units place there).0
          ∙ ap (steps (first_in e)) (sym (take-take place end units (omega (arith, boundary-le e (take end units) place b, length-take-le end units (boundary-le e units end boundary)))))
          ∙ (steps-parts e (take end units) place b).0 in
          record { least = front.0; to = record { boundary = there; pass = ap (least_past bytes 1) same ∙ front.1 } }

    module _ (end start stop : ℕ) (passed : Passes e bytes units end) (last : IsLastStarter e bytes units end start stop) where
      up_to : Passes e bytes units stop
      up_to = Passes-before end passed stop last.boundary

      scalar_of : (s : Step) → IsLastStep (first_in e) (take stop units) s → (decoded_in e (take stop units) ≡ text (steps (first_in e) (take (length (take stop units) - s.width) (take stop units))) ++ s.character ∷ []) × IsScalar s.character
      scalar_of s is =
          let front = text (steps (first_in e) (take (length (take stop units) - s.width) (take stop units))) in
          let parts = ap text is.last ∙ map-append (λ t. t.character) (steps (first_in e) (take (length (take stop units) - s.width) (take stop units))) (s ∷ []) in
          (parts, last_of IsScalar front s.character (All-same IsScalar _ _ (sym parts) (decoded-IsText e (take stop units))))

      -- up to the last starter, of which nothing is held back
      pub passed_before_marks : held_back ≡ false → 0 < stop → IsOwnPart stop
      passed_before_marks free some =
          let k = last.starter some in
          let known = scalar_of k.0 k.1 in (
            record {
              some = some;
              boundary = up_to.to.boundary;
              divides = λ front. subst (λ l. Divides d form (front ++ l) (decoded_in e (drop stop units))) (sym known.0)
                  (Divides-after d form held_back free k.0.character (law.starters k.0.character known.1 k.2) front
                  (text (steps (first_in e) (take (length (take stop units) - k.0.width) (take stop units)))) (decoded_in e (drop stop units)));
            },
            own_run stop up_to,
          )

      -- without it
      pub passed_held : 0 < start → IsOwnPart start
      passed_held some = elim (cases_lt 0 stop) [
        | inl more ↦
            let k = last.starter more in
            let known = scalar_of k.0 k.1 in
            let width : length (take stop units) - k.0.width ≡ start = ap (λ n. n - k.0.width) (length-take-le stop units (boundary-le e units stop up_to.to.boundary)) ∙ sym k.3 in
            let place = subst (IsBoundary (first_in e) (take stop units)) width (boundary-last e (take stop units) k.0 k.1) in
            own_part start (Passes-before stop up_to start place) some (λ _ _.
            subst (λ s. HasBoundaryBefore d form s.character) (last_is_next e units stop up_to.to.boundary k.0 k.1 ∙ ap (λ n. first_in e (drop n units)) (sym k.3)) (law.starters k.0.character known.1 k.2).begins)
        | inr none ↦ absurd (let is = last.none (omega arith) in omega arith)
      ]

-- the first step is a front of the units
pub EndsFront-first : (e : Encoding) (units : List ℕ) (first : Step) → 0 < length units → first ≡ first_in e units → EndsFront e units first.width
EndsFront-first e units first some is = ((step-some e units 0 first some is).0, boundary-first e units first (record { some = some; is = is }))

-- ---- the ends of segments

module _ (e : Encoding) (units : List ℕ) (beginning : ℕ → Bool) (segment : Segment) (end : ℕ) (at : segment.end ≡ end) (front : EndsFront e units end) where
  -- before a character that begins a new part
  pub IsFrontSegment-before : (s : Step) → segment.next ≡ Some s → s ≡ first_in e (drop end units) → beginning s.character ≡ true → IsFrontSegment beginning e units segment
  IsFrontSegment-before s next is begins = record {
    end = subst (IsSegmentEnd beginning e units) (sym at)
        (record { some = front.0; boundary = front.1; next = λ _. ap (λ t. beginning t.character) (sym is) ∙ begins });
    next = subst (λ o. IfSome o (λ n. n ≡ first_in e (drop segment.end units))) (sym next) (is ∙ ap (λ n. first_in e (drop n units)) (sym at));
  }

  -- at the end of the units
  pub IsFrontSegment-last : segment.next ≡ None → length units ≤ end → IsFrontSegment beginning e units segment
  IsFrontSegment-last none all = record {
    end = subst (IsSegmentEnd beginning e units) (sym at)
        (record { some = front.0; boundary = front.1; next = λ more. absurd (omega (arith, more, all)) });
    next = subst (λ o. IfSome o (λ n. n ≡ first_in e (drop segment.end units))) (sym none) tt;
  }
