-- What is passed on at the front.
use Rattle.std.proofs.Common.{ℕ, ◌<◌, ◌≤◌, List, length, take, sym, subst, inl, inr}
use Rattle.std.proofs.Math.Nat.{eq-zero-or-pos}
use Rattle.normal_forms.specs.Reading.{Reading}
use Rattle.normal_forms.specs.declared.Form.{Form}
use Rattle.normalizer_text.specs.Encodings.{Encoding, first_in}
use Rattle.normalizer_text.specs.DecodingSteps.{IsBoundary}
use Rattle.normalizer_text.specs.InputCut.{IsInputNormalized}
use Rattle.normalizer_text.proofs.steps.StepBoundaries.{boundary-le, boundary-start}
use Rattle.normalizer_calls.specs.inner.PassthroughRuns.{IsKeptTo, IsPart}

module _ (e : Encoding) (d : Reading) (form : Form) (units : List ℕ) where
  abbrev IsOwnPart : List ℕ → ℕ → Type 0
  IsOwnPart us end = IsPart e d form us end × IsInputNormalized e d form (take end us)

  pub IsKeptTo-first : (end : ℕ) → (0 < end → IsOwnPart units end) → IsKeptTo e d form units end
  IsKeptTo-first end part = record {
    boundary = elim (eq-zero-or-pos end) [
      | inl none ↦ subst (IsBoundary (first_in e) units) (sym none) (boundary-start e units)
      | inr some ↦ (part some).0.boundary
    ];
    part = part;
  }

  pub IsKeptTo-le : (end : ℕ) → IsKeptTo e d form units end → end ≤ length units
  IsKeptTo-le end so_far = boundary-le e units end so_far.boundary
