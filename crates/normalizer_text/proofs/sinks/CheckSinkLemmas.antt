-- A piece that is at a position of units.
use Rattle.std.proofs.Common.{◌≡◌, ℕ, ◌+◌, ◌≤◌, List, ◌++◌, length, take, drop, sym, ap, ◌∙◌, arith, length-append, length-drop, length-take-le, take-append-drop, append_assoc}
use Rattle.std.proofs.lemmas.List.{drop-drop}
use Rattle.std.proofs.Math.Seq.{drop-append_seam}
use Rattle.std.proofs.lemmas.List.{take_all, take_at}
use Rattle.std.specs.Prelude.{Ok, Bool, ◌-◌, Decides}
use Rattle.std.specs.List.{starts_with}
use Rattle.std.proofs.lemmas.Slice.Eq.{starts_is}
use Rattle.normal_forms.specs.Cut.{IsFront}
use Rattle.normalizer_text.specs.CheckSinks.{ChangesNothing, ExpectsTheSame, IsUnexpected, StandsAt}
use Rattle.normalizer_text.specs.Outputs.{AnswersUnits}

-- a slice starts with a piece from a position on exactly if the piece is at that position
pub starts_at : {A : Type 0} {E : A → A → Bool} → ((a b : A) → Decides (E a b) (a ≡ b)) → (units : List A) (position : ℕ) (piece : List A) (r : Bool)
    → r ≡ starts_with E (take (length units - position) (drop position units)) piece → Decides r (StandsAt units position piece)
starts_at {E = E} decides units position piece r is =
    let all = take_all (length units - position) (drop position units) (omega (arith, length-drop position units)) in
    let h = starts_is decides (drop position units) piece r (is ∙ ap (λ l. starts_with E l piece) all) in
    (λ yes. (drop (length piece) (drop position units), h.0 yes), λ stands. h.1 stands.0 stands.1)

module _ (units : List ℕ) (position : ℕ) (piece : List ℕ) (front : IsFront piece (drop position units)) where
  -- what is up to its end
  pub take-end : position ≤ length units → take (position + length piece) units ≡ take position units ++ piece
  take-end within =
      let parts : units ≡ (take position units ++ piece) ++ front.0 =
      sym (take-append-drop position units) ∙ ap (λ l. take position units ++ l) front.1 ∙ sym (append_assoc (take position units) piece front.0) in
      let size : length (take position units ++ piece) ≡ position + length piece = omega (arith, length-append (take position units) piece, length-take-le position units within) in
      ap (take (position + length piece)) parts ∙ take_at (take position units ++ piece) front.0 (position + length piece) size

  pub end_is_within : position ≤ length units → position + length piece ≤ length units
  end_is_within within = omega (arith, ap length front.1, length-drop position units, length-append piece front.0)

  -- it was taken, as expected
  pub AnswersUnits-expected : position ≤ length units →
      AnswersUnits (λ s. s.came) ExpectsTheSame ChangesNothing IsUnexpected (record { came = take position units; remaining = drop position units }) piece (Ok tt)
      (record { came = take (position + length piece) units; remaining = drop (position + length piece) units })
  AnswersUnits-expected within = record {
    written = record {
      appends = take-end within;
      ahead = λ later h. h ∙ take-append-drop (position + length piece) units ∙ sym (take-append-drop position units);
      fault = tt;
      leaves = tt;
    };
    known = tt;
  }
