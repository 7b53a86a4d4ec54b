-- Characters that pass, by their bytes.
use Rattle.std.proofs.Common.{◌≡◌, ℕ, ◌+◌, ◌-◌, ◌<◌, ◌≤◌, true, false, not, ◌&&◌, leb, inl, inr, List, [], ◌∷◌, ◌++◌, length, length-drop, length-take-le, take, drop, map, append_assoc, Some, None, arith, refl, ap, sym, subst, ◌∙◌}
use Rattle.std.specs.Prelude.{All, ◌≢◌, option_and_then}
use Rattle.std.proofs.lemmas.Bool.{and_from, and_parts, cases_Bool, cond-false, cond-true, false_from_ne_true, le-leb, leb-true}
use Rattle.std.proofs.lemmas.Bool.Decides.{nat_tests}
use Rattle.std.proofs.lemmas.Option.{option_and_then_some}
use Rattle.std.proofs.lemmas.List.{append-nil, take-take}
use Rattle.std.proofs.lemmas.List.Elements.{All-nil, All-cons, All-head, All-tail}
use Rattle.normalizer_passing.specs.PassBytes.{byte_of, least_after, starter_byte}
use Rattle.normalizer_text.specs.declared.decoding_step.Step.{Step}
use Rattle.normalizer_text.specs.DecodingSteps.{steps, width_of, IsBoundary, IsLastStep}
use Rattle.normalizer_text.specs.Encodings.{Encoding, first_in}
use Rattle.normalizer_text.specs.Passing.{next_least, least_past, PassesTo, IsByteAt, IsLastStarter}
use Rattle.normalizer_text.specs.Scans.{EndsLowCharacters}
use Rattle.normalizer_text.proofs.steps.StepBoundaries.{boundary-before, boundary-between, boundary-le, steps-parts, width_of-append, width_of-steps}
use Rattle.normalizer_text.proofs.steps.StepLemmas.{All-steps, steps-some}
use Rattle.normalizer_text.proofs.rules.EncodingRules.{IsDecoding-first}

-- ---- steps that pass, one after another

next_least-passes : (bytes : List ℕ) (least : ℕ) (s : Step) → s.is_error ≡ false → least ≤ byte_of bytes s.character → next_least bytes least s ≡ Some (least_after (byte_of bytes s.character))
unfolding next_least
next_least-passes bytes least s right enough =
    cond-true (not s.is_error && leb least (byte_of bytes s.character)) _ None (and_from _ _ (ap not right) (le-leb least (byte_of bytes s.character) enough))

pub least_past-append : (bytes : List ℕ) (a b : List Step) (least next : ℕ) → least_past bytes least a ≡ Some next → least_past bytes least (a ++ b) ≡ least_past bytes next b
unfolding least_past
least_past-append bytes [] b least next is = ap (λ n. least_past bytes n b) (let same : least ≡ next = cc in same)
least_past-append bytes (s ∷ a) b least next is = option_and_then_some (λ n. least_past bytes n a) (next_least bytes least s) next is
    (λ n here rest. ap (option_and_then (λ i. least_past bytes i (a ++ b))) here ∙ least_past-append bytes a b n next rest)

least_after-some : (byte : ℕ) → 0 < byte → 0 < least_after byte
unfolding least_after
least_after-some byte some = grind (arith, nat_tests)

next_least-some : (bytes : List ℕ) (least : ℕ) (s : Step) (n : ℕ) → 0 < least → next_least bytes least s ≡ Some n → 0 < n
unfolding next_least
next_least-some bytes least s n some is = elim (cases_Bool (not s.is_error && leb least (byte_of bytes s.character))) [
  | inl passes ↦
      let same : Some (least_after (byte_of bytes s.character)) ≡ Some n = sym (cond-true (not s.is_error && leb least (byte_of bytes s.character)) _ None passes) ∙ is in
      let equal : least_after (byte_of bytes s.character) ≡ n = cc in
      let enough : least ≤ byte_of bytes s.character = leb-true least (byte_of bytes s.character) (and_parts (not s.is_error) (leb least (byte_of bytes s.character)) passes).1 in
      subst (λ k. 0 < k) equal (least_after-some (byte_of bytes s.character) (omega arith))
  | inr stops ↦ absurd (let none : None ≡ Some n = sym (cond-false (not s.is_error && leb least (byte_of bytes s.character)) (Some (least_after (byte_of bytes s.character))) None stops) ∙ is in cc)
]

least_past-some : (bytes : List ℕ) (ss : List Step) (least next : ℕ) → 0 < least → least_past bytes least ss ≡ Some next → 0 < next
unfolding least_past next_least
least_past-some bytes [] least next some is = let same : least ≡ next = cc in omega arith
least_past-some bytes (s ∷ ss) least next some is = option_and_then_some (λ n. least_past bytes n ss) (next_least bytes least s) next is
    (λ n here rest. least_past-some bytes ss n next (next_least-some bytes least s n some here) rest)

-- starters after any character, or no steps after a starter
least_past-starters : (bytes : List ℕ) (least : ℕ) (ss : List Step) → least ≤ 255 → (ss ≡ [] → least ≡ 1) → All (λ s. (s.is_error ≡ false) × (byte_of bytes s.character ≡ 255)) ss → least_past bytes least ss ≡ Some 1
unfolding least_past least_after
least_past-starters bytes least [] most none all = ap (λ n. Some n) (none refl)
least_past-starters bytes least (s ∷ ss) most none all =
    let here = All-head (λ t. (t.is_error ≡ false) × (byte_of bytes t.character ≡ 255)) s ss all in
    ap (option_and_then (λ n. least_past bytes n ss)) (next_least-passes bytes least s here.0 (omega (arith, here.1)) ∙ ap (λ b. Some (least_after b)) here.1)
    ∙ least_past-starters bytes 1 ss (omega arith) (λ _. refl) (All-tail (λ t. (t.is_error ≡ false) × (byte_of bytes t.character ≡ 255)) s ss all)

module _ (e : Encoding) (bytes units : List ℕ) where
  pub PassesTo-start : PassesTo e bytes units 0 1
  unfolding least_past
  PassesTo-start = record {
    boundary = record { before = []; after = steps (first_in e) units; apart = refl; taken = refl };
    pass = refl;
  }

  -- the least byte is one
  pub PassesTo-least : (end least : ℕ) → PassesTo e bytes units end least → 0 < least
  PassesTo-least end least to = least_past-some bytes to.boundary.before 1 least (omega arith) to.pass

  -- some steps more
  PassesTo-steps : (end least next new : ℕ) (to : PassesTo e bytes units end least) (more after : List Step) → to.boundary.after ≡ more ++ after → least_past bytes least more ≡ Some new
      → end + width_of more ≡ next → PassesTo e bytes units next new
  PassesTo-steps end least next new to more after parts pass width = record {
    boundary = record {
      before = to.boundary.before ++ more;
      after = after;
      apart = to.boundary.apart ∙ ap (λ l. to.boundary.before ++ l) parts ∙ sym (append_assoc to.boundary.before more after);
      taken = (let k = to.boundary.taken in omega (arith, width_of-append to.boundary.before more));
    };
    pass = least_past-append bytes to.boundary.before more 1 least to.pass ∙ pass;
  }

  -- one step more
  pub PassesTo-more : (end least byte width : ℕ) → PassesTo e bytes units end least → end < length units → least ≤ byte → IsByteAt e bytes units end byte width
      → PassesTo e bytes units (end + width) (least_after byte)
  unfolding least_past
  PassesTo-more end least byte width to more enough is =
      let s = first_in e (drop end units) in
      let by = is (omega (arith, PassesTo-least end least to)) in
      PassesTo-steps end least (end + width) (least_after byte) to (s ∷ []) (steps (first_in e) (drop s.width (drop end units)))
      (sym (steps-parts e units end to.boundary).1 ∙ steps-some e (drop end units) (omega (arith, length-drop end units)))
      (ap (option_and_then (λ n. Some n)) (next_least-passes bytes least s by.0 (omega (arith, by.2)) ∙ ap (λ b. Some (least_after b)) by.2))
      (omega (arith, by.1))

  -- low characters
  pub PassesTo-low : (end least bound next : ℕ) → PassesTo e bytes units end least → bound ≤ 0xD800 → ((n : ℕ) → n < bound → byte_of bytes n ≡ 255) → EndsLowCharacters e units end bound next
      → end < next → least ≤ 255 → PassesTo e bytes units next 1
  PassesTo-low end least bound next to few low ends further most =
      let rest = drop end units in
      let b = boundary-between e units end next to.boundary ends.boundary ends.behind in
      let front = steps (first_in e) (take (next - end) rest) in
      let width = sym (width_of-steps e (take (next - end) rest)) in
      PassesTo-steps end least next 1 to b.before b.after (sym (steps-parts e units end to.boundary).1 ∙ b.apart)
      (ap (least_past bytes least) (sym (steps-parts e rest (next - end) b).0)
      ∙ least_past-starters bytes least front most (λ none. absurd (omega (arith, ap width_of (sym (steps-parts e rest (next - end) b).0 ∙ none), b.taken)))
      (starters front (All-steps e (λ s. s.is_error ≡ true → s.character ≡ 0xFFFD) (λ us. (IsDecoding-first e).error us) (take (next - end) rest)) ends.low))
      (omega (arith, b.taken))
    where
      starters : (ss : List Step) → All (λ s. s.is_error ≡ true → s.character ≡ 0xFFFD) ss → All (λ c. c < bound) (map (λ s. s.character) ss)
          → All (λ s. (s.is_error ≡ false) × (byte_of bytes s.character ≡ 255)) ss
      starters [] errors small = All-nil (λ s. (s.is_error ≡ false) × (byte_of bytes s.character ≡ 255))
      starters (s ∷ ss) errors small =
          let here = All-head (λ c. c < bound) s.character (map (λ t. t.character) ss) small in
          let error = All-head (λ t. t.is_error ≡ true → t.character ≡ 0xFFFD) s ss errors in
          All-cons (λ t. (t.is_error ≡ false) × (byte_of bytes t.character ≡ 255)) s ss
          (false_from_ne_true s.is_error (λ t. absurd (omega (arith, error t))), low s.character here)
          (starters ss (All-tail (λ t. t.is_error ≡ true → t.character ≡ 0xFFFD) s ss errors) (All-tail (λ c. c < bound) s.character (map (λ t. t.character) ss) small))

  -- ---- marks before an end

  pub record MarksFrom (end stop : ℕ) : Type 0 where
    pub boundary : IsBoundary (first_in e) (take end units) stop
    pub marks : All (λ s. byte_of bytes s.character ≢ starter_byte) boundary.after

  module _ (end : ℕ) (here : IsBoundary (first_in e) units end) where
    pub MarksFrom-end : MarksFrom end end
    MarksFrom-end = record {
      boundary = record {
        before = steps (first_in e) (take end units);
        after = [];
        apart = sym (append-nil (steps (first_in e) (take end units)));
        taken = width_of-steps e (take end units) ∙ length-take-le end units (boundary-le e units end here);
      };
      marks = All-nil (λ s. byte_of bytes s.character ≢ starter_byte);
    }

    -- a step ends where the marks begin
    pub MarksFrom-boundary : (stop : ℕ) → MarksFrom end stop → IsBoundary (first_in e) units stop
    MarksFrom-boundary stop from = boundary-before e units end stop here from.boundary

    module _ (stop : ℕ) (from : MarksFrom end stop) where
      -- the units before
      same : take stop (take end units) ≡ take stop units
      same = take-take stop end units (omega (arith, boundary-le e (take end units) stop from.boundary, length-take-le end units (boundary-le e units end here)))

      long : length (take stop units) ≡ stop
      long = length-take-le stop units (boundary-le e units stop (MarksFrom-boundary stop from))

      pub MarksFrom-more : (s : Step) → IsLastStep (first_in e) (take stop units) s → byte_of bytes s.character ≢ starter_byte → MarksFrom end (stop - s.width)
      MarksFrom-more s last mark =
          let b = from.boundary in
          let front = take (length (take stop units) - s.width) (take stop units) in
          record {
            boundary = record {
              before = steps (first_in e) front;
              after = s ∷ b.after;
              apart = b.apart
                  ∙ ap (λ l. l ++ b.after) (sym (steps-parts e (take end units) stop b).0 ∙ ap (steps (first_in e)) same ∙ last.last)
                  ∙ append_assoc (steps (first_in e) front) (s ∷ []) b.after;
              taken = width_of-steps e front ∙ length-take-le (length (take stop units) - s.width) (take stop units) (omega arith) ∙ ap (λ n. n - s.width) long;
            };
            marks = All-cons (λ t. byte_of bytes t.character ≢ starter_byte) s b.after mark from.marks;
          }

      pub IsLastStarter-found : (s : Step) → IsLastStep (first_in e) (take stop units) s → byte_of bytes s.character ≡ starter_byte → IsLastStarter e bytes units end (stop - s.width) stop
      IsLastStarter-found s last is = record { boundary = from.boundary; marks = from.marks; starter = λ _. (s, last, is, refl); none = λ none. omega arith }

      pub IsLastStarter-none : take stop units ≡ [] → IsLastStarter e bytes units end 0 0
      IsLastStarter-none none =
          let at : stop ≡ 0 = sym long ∙ ap length none in
          let start = subst (MarksFrom end) at from in
          record { boundary = start.boundary; marks = start.marks; starter = λ some. absurd (omega arith); none = λ _. refl }
