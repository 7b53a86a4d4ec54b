-- Boundaries at or before the first error: their places, and what comes before and after them.
use Rattle.std.proofs.Common.{◌≡◌, ℕ, ◌+◌, ◌-◌, ◌≤◌, ◌⊎◌, false, List, []}
use Rattle.std.proofs.Common.{◌++◌, get_or, length, take, drop, inl, inr, sym, ap, subst, ◌∙◌, arith, take-append-drop}
use Rattle.std.specs.Prelude.{All}
use Rattle.std.proofs.lemmas.Bool.{true≢false, cases_Bool}
use Rattle.std.proofs.lemmas.List.{length-map, drop-take, take-take}
use Rattle.std.specs.List.{list_any, slice_range}
use Rattle.std.proofs.lemmas.List.Folds.{list_any_at, list_any_none}
use Rattle.std.proofs.lemmas.List.Elements.{All-nil, All-drop, All-same, All-append}
use Rattle.std.proofs.Math.Seq.{drop-append_seam}
use Rattle.normalizer_text.specs.declared.decoding_step.Step.{Step}
use Rattle.normalizer_text.specs.DecodingSteps.{steps, IsWellFormed}
use Rattle.normalizer_text.specs.Encodings.{Encoding, first_in, decoded_in}
use Rattle.normalizer_text.proofs.steps.StepLemmas.{steps-nil, steps-append, decoded-append}
use Rattle.normalizer_text.proofs.steps.StepBoundaries.{boundary-le, boundary-well_formed, steps-parts}
use Rattle.normalizer_text.specs.InputCut.{IsErrorFreeBoundary}

-- ---- lists of steps

abbrev pub AreErrorFree : List Step → Type 0
AreErrorFree ss = All (λ s. s.is_error ≡ false) ss

pub cases_error_free : (ss : List Step) → AreErrorFree ss ⊎ (AreErrorFree ss → ⊥)
cases_error_free ss =
    elim (cases_Bool (list_any (λ s. s.is_error) ss)) [
      | inl some ↦ inr (λ free. true≢false (sym some ∙ list_any_none (λ s. s.is_error) ss free))
      | inr none ↦
          inl (λ k d inside.
          elim (cases_Bool (get_or ss k d).is_error) [ inl error ↦ absurd (true≢false (sym (list_any_at (λ s. s.is_error) ss k d inside error) ∙ none)) | inr fine ↦ fine ])
    ]

slice-of_take : (units : List ℕ) (n m : ℕ) → n ≤ m → slice_range units n m ≡ drop n (take m units)
slice-of_take units n m le =
    let place : n + (m - n) ≡ m = omega arith in
    sym (drop-take n (m - n) units) ∙ ap (λ i. drop n (take i units)) place

module _ (e : Encoding) where
  pub length-decoded : (us : List ℕ) → length (decoded_in e us) ≡ length (steps (first_in e) us)
  length-decoded us = length-map (steps (first_in e) us) (λ s. s.character)

  pub IsWellFormed-nil : IsWellFormed (first_in e) []
  IsWellFormed-nil = All-same (λ s. s.is_error ≡ false) _ _ (steps-nil e) (All-nil (λ s. s.is_error ≡ false))

  -- ---- a well-formed front and the rest

  pub IsWellFormed-append : (front rest : List ℕ) → IsWellFormed (first_in e) front → IsWellFormed (first_in e) rest → IsWellFormed (first_in e) (front ++ rest)
  IsWellFormed-append front rest a b =
      All-same (λ s. s.is_error ≡ false) _ _ (steps-append e front rest a) (All-append (λ s. s.is_error ≡ false) _ _ a b)

  pub IsWellFormed-rest : (front rest : List ℕ) → IsWellFormed (first_in e) front → IsWellFormed (first_in e) (front ++ rest) → IsWellFormed (first_in e) rest
  IsWellFormed-rest front rest a all =
      let right = λ (s : Step). s.is_error ≡ false in
      let whole = All-same right _ _ (sym (steps-append e front rest a)) all in
      All-same right _ _ (sym (drop-append_seam (steps (first_in e) front) (steps (first_in e) rest))) (All-drop right (length (steps (first_in e) front)) _ whole)

  pub decoded-parts : (units : List ℕ) (n : ℕ) → IsWellFormed (first_in e) (take n units) → decoded_in e units ≡ decoded_in e (take n units) ++ decoded_in e (drop n units)
  decoded-parts units n w =
      ap (decoded_in e) (sym (take-append-drop n units)) ∙ decoded-append e (take n units) (drop n units) w

  -- ---- the places of boundaries

  pub boundary_of_front : (units : List ℕ) (n : ℕ) → n ≤ length units → IsWellFormed (first_in e) (take n units) → IsErrorFreeBoundary e units n
  boundary_of_front units n within w =
      let b = boundary-well_formed e units n within w in
      record { boundary = b; error_free = All-same (λ s. s.is_error ≡ false) _ _ (sym (steps-parts e units n b).0) w }

  pub front_of_boundary : (units : List ℕ) (n : ℕ) → IsErrorFreeBoundary e units n → (n ≤ length units) × IsWellFormed (first_in e) (take n units)
  front_of_boundary units n b = (
    boundary-le e units n b.boundary,
    All-same (λ s. s.is_error ≡ false) _ _ (steps-parts e units n b.boundary).0 b.error_free,
  )

  -- what is between two boundaries at or before the first error is well-formed
  pub well_formed-between : (units : List ℕ) (n m : ℕ) → IsErrorFreeBoundary e units n → IsErrorFreeBoundary e units m → n ≤ m → IsWellFormed (first_in e) (slice_range units n m)
  well_formed-between units n m a b le =
      let front = front_of_boundary units m b in
      let first_part = (front_of_boundary units n a).1 in
      let apart : take n units ++ slice_range units n m ≡ take m units =
      ap (λ l. l ++ slice_range units n m) (sym (take-take n m units le)) ∙ ap (λ l. take n (take m units) ++ l) (slice-of_take units n m le) ∙ take-append-drop n (take m units) in
      IsWellFormed-rest (take n units) (slice_range units n m) first_part (subst (IsWellFormed (first_in e)) (sym apart) front.1)
