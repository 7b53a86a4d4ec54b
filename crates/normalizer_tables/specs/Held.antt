-- The result of a constructor, by what its provider holds for its loads.
use Rattle.std.specs.Prelude.{◌≡◌, ◌⊎◌, Option, Some, None, Result, Ok, Err, IfOk, IfErr, IsErrOf}
use Rattle.normalizer_tables.specs.declared.provider.DataError.{DataError}
use Rattle.normalizer_tables.specs.declared.provider.DataError.TheVariants.{Provider, Memory}
use Rattle.normalizer_tables.specs.declared.provider.DataMarkerInfo.{DataMarkerInfo}

module _ {H : Type 0} where
  -- what a load holds, or its marker if it holds nothing
  abbrev pub held_or : DataMarkerInfo → Option H → Result H DataMarkerInfo
  held_or kind None = Err kind
  held_or kind (Some held) = Ok held

  -- all is held that was to be loaded, it suits, and h is that
  abbrev pub AcceptsHeld : (H → Type 0) → Result H DataMarkerInfo → H → Type 0
  AcceptsHeld Suits (Ok held) h = (h ≡ held) × Suits held
  AcceptsHeld Suits (Err missing) h = ⊥

  -- the first load for which nothing is held is named, or what is held is refused
  abbrev pub RefusesHeld : (H → DataError → Type 0) → Result H DataMarkerInfo → DataError → Type 0
  RefusesHeld Refuses (Ok held) e = Refuses held e
  RefusesHeld Refuses (Err missing) e = e ≡ Provider missing

  -- A constructor's result by what is held, if `first` is loaded first: data that suit, or the refusal of what is held,
  -- or `Memory`. If the first load holds nothing, exactly that is returned.
  abbrev pub AnswersHeld : {A : Type 0} → (H → Type 0) → (DataMarkerInfo → H → DataError → Type 0)
      → DataMarkerInfo → (A → H)
      → Result H DataMarkerInfo → Result A DataError → Type 0
  AnswersHeld Suits Refuses first data_of held result =
      IfOk result (λ n. AcceptsHeld Suits held (data_of n))
      × IfErr result (λ e. (e ≡ Memory) ⊎ RefusesHeld (Refuses first) held e)
      × (held ≡ Err first → IsErrOf result (Provider first))
