-- Runs that aren't short, from one step of a decomposition to the one before.
use Rattle.std.proofs.Common.{◌≡◌, ℕ, Bool, List, [], ◌∷◌, ◌++◌, Option, Some, None, Result, Ok, Err, option_to_list, refl, sym, subst, arith}
use Rattle.normal_forms.specs.Forms.{nfd}
use Rattle.normal_forms.specs.Reading.{Reading}
use Rattle.normal_forms.specs.ShortRuns.{leading_length, HasShortChunks, HasShortRuns}
use Rattle.normalizer_tables.specs.Characters.{has_class_form}
use Rattle.normalizer_iterators.specs.declared.decomposition.Decomposition.{Decomposition}
use Rattle.normalizer_iterators.specs.declared.error.NormalizeError.{NormalizeError}
use Rattle.normalizer_iterators.specs.DecompositionItems.{DecompositionSteps, IsEnded, IsLong, WillYield, pending_of, reading_of}
use Rattle.normalizer_iterators.specs.Delegate.{ComesAfter, MayYield, Source}
use Rattle.normalizer_iterators.specs.Delegate.Extent.{so_far}
use Rattle.normalizer_iterators.specs.NextItem.{ComesOfLong}
use Rattle.normalizer_iterators.specs.WaitingList.{ordered_text}

HasShortRuns-nil : (f : ℕ → Bool) (d : Reading) → HasShortRuns f d []
unfolding leading_length HasShortChunks
HasShortRuns-nil f d = record { leading = omega arith; chunks = tt }

module _ {I : Type 0} (from : Source I) where
  nothing_behind : (o : Option ℕ) (u : I) (x : List ℕ) → o ≡ None → ComesAfter (MayYield from.next_gives so_far) o u x → option_to_list o ++ x ≡ []
  nothing_behind None u x none source = source
  nothing_behind (Some c) u x none source = cc none

  behind_may_come : (pending : Option ℕ) (u : I) → ComesAfter (MayYield from.next_gives so_far) pending u []
  behind_may_come None u = refl
  behind_may_come (Some c) u = (u, refl)

  -- something may come
  pub some_decomposed : (s : Decomposition I) → (out : List ℕ) × WillYield (MayYield from.next_gives so_far) s out
  some_decomposed s = (
    ordered_text s.waiting ++ nfd (reading_of s) (option_to_list (pending_of s) ++ []),
    record { unread = []; source = behind_may_come (pending_of s) s.delegate; text = refl },
  )

  -- after the character that came
  pub IsLong-next : (now : Decomposition I) (c : ℕ) (next : Decomposition I) → DecompositionSteps from now (Some (Ok c)) next → IsLong from.next_gives next → IsLong from.next_gives now
  IsLong-next now c next step h =
      let before = step.long h.out h.comes in
      record { out = c ∷ h.out; comes = before.0; long = λ short. h.long (before.1 short) }

  -- nothing is long
  pub IsLong-ended : (now : Decomposition I) → IsEnded now → IsLong from.next_gives now → ⊥
  IsLong-ended now ended h =
      h.long (subst (HasShortRuns (has_class_form now.characters) (reading_of now)) (sym (nothing_behind (pending_of now) now.delegate h.comes.unread ended.0 h.comes.source))
      (HasShortRuns-nil (has_class_form now.characters) (reading_of now)))

  pub ComesOfLong-decomposition : (s : Decomposition I) (r : Option (Result ℕ NormalizeError)) (t : Decomposition I) → DecompositionSteps from s r t → ComesOfLong (IsLong from.next_gives) s r t
  ComesOfLong-decomposition s None t step = tt
  ComesOfLong-decomposition s (Some (Ok c)) t step = IsLong-next s c t step
  ComesOfLong-decomposition s (Some (Err e)) t step = step.long
