-- Runs of iterators whose calls may fail.
use Rattle.std.proofs.Common.{◌≡◌, ℕ, Bool, List, [], ◌∷◌, ◌++◌, map, Option, Some, Result, Ok, Err, refl, sym, subst, MatchResult, IsOkUnless, ◌⊎◌, inl, inr}
use Rattle.std.specs.Iterator.{Yields, YieldsThen}
use Rattle.normal_forms.specs.Reading.{Reading}
use Rattle.normalizer_iterators.specs.Items.{YieldsFormOfRun}
use Rattle.normalizer_iterators.specs.declared.error.NormalizeError.{NormalizeError}
use Rattle.normalizer_iterators.specs.declared.error.NormalizeError.TheVariants.{Memory}

module _ {S : Type 0} (gives : S → Option (Result ℕ NormalizeError) → S → Type 0) where
  -- one more character came
  pub Yields-more : (s : S) (out : List ℕ) (t : S) (c : ℕ) (u : S) → Yields gives s (map Ok out) t → gives t (Some (Ok c)) u → Yields gives s (map Ok (out ++ c ∷ [])) u
  Yields-more s [] t c u run step = (u, subst (λ v. gives v (Some (Ok c)) u) (sym run) step, refl)
  Yields-more s (b ∷ out) t c u run step = (run.0, run.1, Yields-more run.0 out t c u run.2 step)
