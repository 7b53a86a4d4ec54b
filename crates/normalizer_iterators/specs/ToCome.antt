-- What is still to come of an iterator of normalized text, over its parts.
use Rattle.std.specs.Prelude.{◌≡◌, ℕ, ◌+◌, Bool, List, ◌++◌, Option, Some, None, option_to_list}
use Rattle.normal_forms.specs.Reading.{Reading}
use Rattle.normal_forms.specs.ShortRuns.{HasShortRuns}
use Rattle.normalizer_iterators.specs.Delegate.{ComesAfter, SpellsAfter}

-- what is buffered first, and then the form of the character that was read last and of what the delegate yields
pub record IsToCome {I : Type 0} (Comes : I → List ℕ → Type 0) (form : List ℕ → List ℕ) (pending : Option ℕ)
    (delegate : I) (front out : List ℕ) : Type 0 where
  pub unread : List ℕ
  pub source : ComesAfter Comes pending delegate unread
  pub text : out ≡ front ++ form (option_to_list pending ++ unread)

-- the runs that are still to come are short
pub record AreShortToCome {I : Type 0} (gives : I → Option ℕ → I → Type 0) (has_class_form : ℕ → Bool) (d : Reading)
    (pending : Option ℕ) (delegate : I) : Type 0 where
  pub unread : List ℕ
  pub source : SpellsAfter gives pending delegate unread
  pub short : HasShortRuns has_class_form d (option_to_list pending ++ unread)

-- the lists of how many characters may still come, if the delegate yields at most n
abbrev pub reads_left : Option ℕ → ℕ → ℕ
reads_left None n = 0
reads_left (Some c) n = n + 1
