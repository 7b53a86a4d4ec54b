-- What an iterator yields whose calls may fail: the characters of a text, a fault, the end.
use Rattle.std.specs.Prelude.{◌≡◌, ℕ, Bool, List, [], ◌∷◌, map, Option, Some, None, Result, Ok, Err, All, MatchOption}
use Rattle.std.specs.Prelude.{MatchResult, IfOk, IfErr, IsOkAnd}
use Rattle.std.specs.Iterator.{Drains, Yields, YieldsThen}
use Rattle.normal_forms.specs.Cut.{IsFront}
use Rattle.normal_forms.specs.Reading.{Reading}
use Rattle.normal_forms.specs.ShortRuns.{HasShortRuns}
use Rattle.normalizer_text.specs.DecodingSteps.{Spells}
use Rattle.normalizer_iterators.specs.Delegate.{HasYieldedLong}
use Rattle.normalizer_iterators.specs.declared.error.NormalizeError.{NormalizeError}
use Rattle.normalizer_iterators.specs.declared.error.NormalizeError.TheVariants.{Memory}

module _ {S E : Type 0} (gives : S → Option (Result ℕ E) → S → Type 0) where
  -- calls from s returned these items, one after another, and left t
  abbrev pub Answers : S → List (Option (Result ℕ E)) → S → Type 0
  Answers s [] t = s ≡ t
  Answers s (r ∷ rs) t = (u : S) × gives s r u × Answers u rs t

  -- each call from s on returns `None`, forever
  pub record HasEnded (s : S) : Type 0 where
    pub at : (rs : List (Option (Result ℕ E))) (t : S) → Answers s rs t → All (λ r. r ≡ None) rs

  -- calls from s return these characters in turn, each `Ok`, and then `None` forever
  abbrev pub SpellsOk : S → List ℕ → Type 0
  SpellsOk s [] = HasEnded s
  SpellsOk s (c ∷ x) = (r : Option (Result ℕ E)) (t : S) → gives s r t → (r ≡ Some (Ok c)) × SpellsOk t x

  -- the same, unless a call returns the fault in place of the next character or `None`; then comes `None` forever
  abbrev pub SpellsUnless : E → S → List ℕ → Type 0
  SpellsUnless fault s [] =
      (r : Option (Result ℕ E)) (t : S) → gives s r t
      → MatchOption r (HasEnded t) (λ item. MatchResult item (λ c. ⊥) (λ e. (e ≡ fault) × HasEnded t))
  SpellsUnless fault s (c ∷ x) =
      (r : Option (Result ℕ E)) (t : S) → gives s r t
      → MatchOption r ⊥ (λ item. MatchResult item (λ d. (d ≡ c) × SpellsUnless fault t x)
      (λ e. (e ≡ fault) × HasEnded t))

-- An iterator was made over a source: of each text that this spells it yields the form, unless memory ran out. If
-- the text has short runs nothing is refused, when the iterator is made or later. Whatever the source yields, a run of
-- the iterator yields the form of that.
module _ {I S : Type 0} (source_gives : I → Option ℕ → I → Type 0)
    (gives : S → Option (Result ℕ NormalizeError) → S → Type 0) where
  -- characters that came up to the first `None` are the form of what the source yielded up to its own; other
  -- characters, as those before a fault, are the front of the form of what it yielded so far. A fault is `Memory`, and
  -- then comes `None` forever; what the source yielded so far has no short runs.
  pub record YieldsFormOfRun (has_class_form : ℕ → Bool) (d : Reading) (form : List ℕ → List ℕ) (source : I) (it : S)
      : Type 0 where
    pub whole : (out : List ℕ) → Drains gives it (map Ok out) → (x : List ℕ)
        × Drains source_gives source x × (out ≡ form x)
    pub front : (out : List ℕ) (now : S) → Yields gives it (map Ok out) now → (x : List ℕ)
        × (source_now : I) × Yields source_gives source x source_now × IsFront out (form x)
    pub fault : (out : List ℕ) (e : NormalizeError) (now : S) → YieldsThen gives it (map Ok out) (Some (Err e)) now
        → (e ≡ Memory) × HasEnded gives now × HasYieldedLong source_gives has_class_form d source

  -- The form of each text that the source spells, unless memory ran out, which it never is over short runs. If it is
  -- refused when the iterator is made, what the source yielded then has no short runs.
  pub record YieldsForm (has_class_form : ℕ → Bool) (d : Reading) (form : Reading → List ℕ → List ℕ) (source : I)
      (made : Result S NormalizeError) : Type 0 where
    pub text : IfOk made (λ it. (x : List ℕ) → Spells source_gives source x → SpellsUnless gives Memory it (form d x))
    pub short : (x : List ℕ) → Spells source_gives source x → HasShortRuns has_class_form d x
        → IsOkAnd made (λ it. SpellsOk gives it (form d x))
    pub run : IfOk made (YieldsFormOfRun has_class_form d (form d) source)
    pub refused : IfErr made (λ e. (e ≡ Memory) × HasYieldedLong source_gives has_class_form d source)
