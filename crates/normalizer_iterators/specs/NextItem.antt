-- What a call of `next` of an iterator of normalized text yields, by what it has still to yield.
use Rattle.std.specs.Prelude.{◌≡◌, ℕ, List, [], ◌∷◌, Option, None, Result, MatchOption, MatchResult, IfSome, IfErr}
use Rattle.std.specs.Prelude.{IfOk, IsOk, OnErr, ⊤}
use Rattle.normalizer_iterators.specs.declared.error.NormalizeError.{NormalizeError}
use Rattle.normalizer_iterators.specs.declared.error.NormalizeError.TheVariants.{Memory}
use Rattle.normalizer_iterators.specs.Delegate.{Extent, MayYield}

-- what may come is the form of what the source may yield
abbrev pub IsFormOfSource : {I S : Type 0} → (I → Option ℕ → I → Type 0) → (Extent → S → List ℕ → Type 0)
    → (List ℕ → List ℕ) → I → S → Type 0
IsFormOfSource gives MayCome form source s =
    (e : Extent) (out : List ℕ) → MayCome e s out → (x : List ℕ) × MayYield gives e source x × (out ≡ form x)

-- the first of out came, and the rest is to come
abbrev pub YieldedFirst : {S : Type 0} → (S → List ℕ → Type 0) → List ℕ → S → ℕ → Type 0
YieldedFirst WillYield out t c = (rest : List ℕ) × (out ≡ c ∷ rest) × WillYield t rest

-- A call from s returned r and left t: what may come from t may come from s after the character that was yielded, and
-- nothing if that was None.
abbrev pub CameFirst : {S : Type 0} → (S → List ℕ → Type 0) → S → Option (Result ℕ NormalizeError) → S → Type 0
CameFirst MayCome s r t =
    MatchOption r (MayCome s []) (λ item. IfOk item (λ c. (out : List ℕ) → MayCome t out → MayCome s (c ∷ out)))

-- A call from s returned r and left t: if runs that aren't short may come from t, they may come from s, and so if there
-- was a fault.
abbrev pub ComesOfLong : {S : Type 0} → (S → Type 0) → S → Option (Result ℕ NormalizeError) → S → Type 0
ComesOfLong IsLong s r t =
    MatchOption r ⊤ (λ item. MatchResult item (λ _. IsLong t → IsLong s) (λ _. IsLong s))

-- A call from s returned r and left t: the first character of what was to come, or None if nothing was; or the fault
-- `Memory`. After a fault and after None nothing is to come, and None comes forever. If all runs that are to come are
-- short, there is no fault.
pub record YieldsNext {S : Type 0} (WillYield : S → List ℕ → Type 0) (StaysShort IsEnded : S → Type 0) (s : S)
    (r : Option (Result ℕ NormalizeError)) (t : S) : Type 0 where
  pub first : (out : List ℕ) → WillYield s out → MatchOption r ((out ≡ []) × WillYield t [])
      (λ item. MatchResult item (YieldedFirst WillYield out t) (λ _. WillYield t []))
  pub fault : IfSome r (λ item. IfErr item (λ e. e ≡ Memory))
  pub room : StaysShort s → IfSome r IsOk × StaysShort t
  pub ends : MatchOption r (IsEnded t) (λ item. OnErr item (IsEnded t))
  pub stays : IsEnded s → r ≡ None
