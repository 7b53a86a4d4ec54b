-- Bytes that were passed, apart from whatever may come after them.
use Rattle.std.proofs.Common.{◌≡◌, ℕ, ◌<◌, false, List, [], ◌∷◌, ◌++◌, length, take, drop, refl, sym, ap, subst, ◌∙◌, arith, append_assoc, length-append, length-take, take-append-drop}
use Rattle.std.proofs.Math.Seq.{drop-append_seam}
use Rattle.std.proofs.lemmas.Bool.{true≢false}
use Rattle.std.proofs.lemmas.List.Elements.{All-append, All-same}
use Rattle.icu_normalizer.specs.Encodings.{Encoding}
use Rattle.icu_normalizer.specs.Step.{Step}
use Rattle.icu_normalizer.proofs.Utf8Lemmas.{IsDecoding-utf8}
use Rattle.icu_normalizer.proofs.StepLemmas.{IsRight, first-right, steps-append, steps-nil, steps-some}
use Rattle.normalizer_streams.specs.IllFormed.{first_of, steps_of, IsFirstIllFormed, IsWellFormedBy}
use Rattle.normalizer_streams.specs.inner.Moves.{BeginsAs, BeginsWhole, IsPassed, IsSettled, MayFollow}
use Rattle.normalizer_streams.specs.inner.Watches.{Joins}

pub steps_of-nil : steps_of [] ≡ []
steps_of-nil = steps-nil Encoding.Utf8

pub first-extends : (bytes next : List ℕ) → 0 < length bytes → (first_of bytes).is_error ≡ false → first_of (bytes ++ next) ≡ first_of bytes
first-extends bytes next some right = IsDecoding-utf8.extends bytes next some right

cancel : (front a b : List Step) → front ++ a ≡ front ++ b → a ≡ b
cancel front a b same = sym (drop-append_seam front a) ∙ ap (drop (length front)) same ∙ drop-append_seam front b

module _ where
  steps_of-some : (bytes : List ℕ) → 0 < length bytes → (rest : List Step) × (steps_of bytes ≡ first_of bytes ∷ rest)
  steps_of-some bytes some = (_, steps-some Encoding.Utf8 bytes some)

  -- the first step of bytes that decode apart from those after them
  pub first_of-apart : (a b : List ℕ) → 0 < length a → steps_of (a ++ b) ≡ steps_of a ++ steps_of b → first_of (a ++ b) ≡ first_of a
  first_of-apart a b some apart =
      let one = steps_of-some a some in
      let both = steps_of-some (a ++ b) (omega (arith, some, length-append a b)) in
      let same : first_of (a ++ b) ∷ both.0 ≡ first_of a ∷ (one.0 ++ steps_of b) = sym both.1 ∙ apart ∙ ap (λ x. x ++ steps_of b) one.1 in cc

  -- well-formed whole units decode apart from those after them
  pub steps_of-append : (front rest : List ℕ) → IsWellFormedBy front
      → steps_of (front ++ rest) ≡ steps_of front ++ steps_of rest
  steps_of-append front rest w = steps-append Encoding.Utf8 front rest w

  pub well_formed-joined : (front rest : List ℕ) → steps_of (front ++ rest) ≡ steps_of front ++ steps_of rest
      → IsWellFormedBy front → IsWellFormedBy rest → IsWellFormedBy (front ++ rest)
  well_formed-joined front rest apart a b = All-same IsRight _ _ apart (All-append IsRight _ _ a b)

  -- ---- the first ill-formed sequence, with what is around it

  -- an ill-formed sequence stays one
  error-stays : (front rest more : List ℕ) → IsWellFormedBy front → 0 < length rest
      → steps_of ((front ++ rest) ++ more) ≡ steps_of (front ++ rest) ++ steps_of more → first_of (rest ++ more) ≡ first_of rest
  error-stays front rest more w some apart =
      first_of-apart rest more some (cancel (steps_of front) _ _ (
      sym (steps_of-append front (rest ++ more) w) ∙ ap steps_of (sym (append_assoc front rest more)) ∙ apart
      ∙ ap (λ x. x ++ steps_of more) (steps_of-append front rest w)
      ∙ append_assoc (steps_of front) (steps_of rest) (steps_of more)))

  pub IsFirstIllFormed-more : (piece front more : List ℕ) → IsFirstIllFormed piece front → steps_of (piece ++ more) ≡ steps_of piece ++ steps_of more
      → IsFirstIllFormed (piece ++ more) front
  IsFirstIllFormed-more piece front more f apart = record {
    rest = f.rest ++ more;
    parts = ap (λ x. x ++ more) f.parts ∙ append_assoc front f.rest more;
    well_formed = f.well_formed;
    some = omega (arith, f.some, length-append f.rest more);
    error = ap (λ s. s.is_error)
        (error-stays front f.rest more f.well_formed f.some (subst (λ x. steps_of (x ++ more) ≡ steps_of x ++ steps_of more) f.parts apart))
        ∙ f.error;
  }

  pub IsFirstIllFormed-after : (passed bytes front : List ℕ) → IsWellFormedBy passed → IsFirstIllFormed bytes front
      → IsFirstIllFormed (passed ++ bytes) (passed ++ front)
  IsFirstIllFormed-after passed bytes front w f = record {
    rest = f.rest;
    parts = ap (λ x. passed ++ x) f.parts ∙ sym (append_assoc passed front f.rest);
    well_formed = well_formed-joined passed front (steps_of-append passed front w) w f.well_formed;
    some = f.some;
    error = f.error;
  }

  -- what comes before it begins as the bytes do
  pub BeginsAs-front : (bytes front : List ℕ) → BeginsWhole bytes → IsFirstIllFormed bytes front → BeginsAs bytes front
  BeginsAs-front bytes [] b f = absurd (true≢false (sym f.error ∙ ap (λ x. (first_of x).is_error) (sym f.parts) ∙ b.whole))
  BeginsAs-front bytes (x ∷ xs) b f =
      let front = x ∷ xs in
      let some : 0 < length front = omega arith in
      let right = first-right Encoding.Utf8 front some f.well_formed in
      record { some = some; same = sym (first-extends front f.rest some right) ∙ ap first_of (sym f.parts) }

  -- ---- what bytes begin with

  pub BeginsWhole-more : (bytes next : List ℕ) → BeginsWhole bytes → BeginsWhole (bytes ++ next)
  BeginsWhole-more bytes next b = record {
    some = omega (arith, b.some, length-append bytes next);
    whole = ap (λ s. s.is_error) (first-extends bytes next b.some b.whole) ∙ b.whole;
  }

  pub BeginsAs-self : (bytes : List ℕ) → BeginsWhole bytes → BeginsAs bytes bytes
  BeginsAs-self bytes b = record { some = b.some; same = refl }

  pub BeginsAs-more : (bytes next : List ℕ) → BeginsWhole bytes → BeginsAs bytes (bytes ++ next)
  BeginsAs-more bytes next b = record { some = omega (arith, b.some, length-append bytes next); same = first-extends bytes next b.some b.whole }

  pub BeginsAs-less : (bytes next rest : List ℕ) → BeginsWhole bytes → BeginsAs (bytes ++ next) rest → BeginsAs bytes rest
  BeginsAs-less bytes next rest b alike = record { some = alike.some; same = alike.same ∙ first-extends bytes next b.some b.whole }

  module _ (form : List ℕ → List ℕ) where
    -- nothing was passed
    pub IsPassed-none : (carried : List ℕ) → IsPassed form [] [] carried
    IsPassed-none carried = record {
      begins = λ some. absurd (omega arith);
      apart = λ rest follows. refl;
      steps_apart = λ rest follows. sym (ap (λ x. x ++ steps_of rest) (steps_of-nil));
    }

    -- more is carried
    pub IsPassed-more : (passed written carried more : List ℕ) → IsPassed form passed written carried → IsPassed form passed written (carried ++ more)
    IsPassed-more passed written carried more p = record {
      begins = λ some. BeginsWhole-more carried more (p.begins some);
      apart = λ rest follows. p.apart rest (λ some. BeginsAs-less carried more rest (p.begins some) (follows some));
      steps_apart = λ rest follows. p.steps_apart rest (λ some. BeginsAs-less carried more rest (p.begins some) (follows some));
    }

    -- what is carried may follow, and what comes after it
    pub MayFollow-more : (passed written carried next : List ℕ) → IsPassed form passed written carried → MayFollow passed carried (carried ++ next)
    MayFollow-more passed written carried next p = λ some. BeginsAs-more carried next (p.begins some)

    pub MayFollow-self : (passed written carried : List ℕ) → IsPassed form passed written carried → MayFollow passed carried carried
    MayFollow-self passed written carried p = λ some. BeginsAs-self carried (p.begins some)

    module _ (passed written carried : List ℕ) (place : ℕ) (p : IsPassed form passed written carried) (s : IsSettled form carried place) where
      abbrev front : List ℕ
      front = take place carried

      abbrev after : List ℕ
      after = drop place carried

      some-front : 0 < length front
      some-front = omega (arith, s.positive, s.within, length-take place carried)

      -- it begins with the same step with anything that may come after it
      begins-front : (rest : List ℕ) → BeginsAs after rest → first_of (front ++ rest) ≡ first_of front
      begins-front rest alike = first_of-apart front rest some-front (s.divided.steps_apart rest alike)

      begins-carried : first_of front ≡ first_of carried
      begins-carried = sym (begins-front after (BeginsAs-self after s.divided.begins)) ∙ ap first_of (take-append-drop place carried)

      pub MayFollow-front : MayFollow passed carried front
      MayFollow-front = λ some. record { some = some-front; same = begins-carried }

      pub Joins-front : Joins passed front
      Joins-front = p.steps_apart front MayFollow-front

      follows-front : (rest : List ℕ) → BeginsAs after rest → MayFollow passed carried (front ++ rest)
      follows-front rest alike = λ some. record { some = omega (arith, some-front, length-append front rest); same = begins-front rest alike ∙ begins-carried }

      pub front-apart : (next : List ℕ) → steps_of (front ++ (after ++ next)) ≡ steps_of front ++ steps_of (after ++ next)
      front-apart next = s.divided.steps_apart (after ++ next) (BeginsAs-more after next s.divided.begins)

      -- the piece is passed too
      pub IsPassed-settled : IsPassed form (passed ++ front) (written ++ form front) after
      IsPassed-settled =
          let begun : 0 < length (passed ++ front) = omega (arith, some-front, length-append passed front) in record {
            begins = λ some. s.divided.begins;
            apart = λ rest follows.
                ap form (append_assoc passed front rest) ∙ p.apart (front ++ rest) (follows-front rest (follows begun))
                ∙ ap (λ x. written ++ x) (s.divided.apart rest (follows begun)) ∙ sym (append_assoc written (form front) (form rest));
            steps_apart = λ rest follows.
                ap steps_of (append_assoc passed front rest) ∙ p.steps_apart (front ++ rest) (follows-front rest (follows begun))
                ∙ ap (λ x. steps_of passed ++ x) (s.divided.steps_apart rest (follows begun))
                ∙ sym (append_assoc (steps_of passed) (steps_of front) (steps_of rest))
                ∙ ap (λ x. x ++ steps_of rest) (sym (p.steps_apart front MayFollow-front));
          }

    pub Joins-carried : (passed written carried : List ℕ) → IsPassed form passed written carried → Joins passed carried
    Joins-carried passed written carried p = p.steps_apart carried (MayFollow-self passed written carried p)
