-- What is still to come of a composition.
use Rattle.std.specs.Prelude.{◌≡◌, ℕ, ◌≤◌, List, [], ◌∷◌, ◌++◌, All, Option, None, Result, MatchResult}
use Rattle.std.specs.Prelude.{◌<◌, IfErr, IfOk, IfSome, IsOk, OnErr, OnSome}
use Rattle.std.specs.Iterator.{Count}
use Rattle.normal_forms.specs.Reading.{Reading}
use Rattle.normal_forms.specs.CompositionByStarters.{compose_after}
use Rattle.normal_forms.specs.Order.{order}
use Rattle.normalizer_tables.specs.Characters.{Characters, list_of}
use Rattle.normalizer_tables.specs.Ignored.{ignored_list}
use Rattle.normalizer_tables.specs.conditions.PairConditions.{HasOrderedLists}
use Rattle.normalizer_tables.specs.Pairs.{Pair}
use Rattle.normalizer_tables.specs.Readings.{reading_by}
use Rattle.normalizer_tables.specs.declared.characters.IgnoredCharacters.{IgnoredCharacters}
use Rattle.normalizer_tables.specs.declared.characters.IgnoredCharacters.TheVariants.{Dropped}
use Rattle.normalizer_text.specs.DecodingSteps.{Spells}
use Rattle.normalizer_iterators.specs.declared.composition.Composition.{Composition}
use Rattle.normalizer_iterators.specs.declared.decomposition.Decomposition.{Decomposition}
use Rattle.normalizer_iterators.specs.declared.error.NormalizeError.{NormalizeError}
use Rattle.normalizer_iterators.specs.declared.error.NormalizeError.TheVariants.{Memory}
use Rattle.normalizer_iterators.specs.Composing.{WillYieldAfter, ahead_left}
use Rattle.normalizer_iterators.specs.DecompositionItems as decomposition
use Rattle.normalizer_iterators.specs.Delegate.{Extent, MayYield, Source}
use Rattle.normalizer_iterators.specs.NextItem.{CameFirst, ComesOfLong, YieldedFirst, YieldsNext}

-- if the data meet condition 14, the list of what a and c compose to is the lists of both, in canonical order
abbrev pub HasListsOfBoth : Characters → List Pair → ℕ → ℕ → Option ℕ → Type 0
HasListsOfBoth s pairs a c result =
    (ignored : IgnoredCharacters) → All (HasOrderedLists s (ignored_list ignored)) pairs
    → IfSome result (λ r. list_of s (ignored_list ignored) r
    ≡ order (reading_by s Dropped []) (list_of s (ignored_list ignored) a ++ list_of s (ignored_list ignored) c))

module _ {I : Type 0} where
  -- the data and the pairs by which it composes
  abbrev pub data_of_composition : Composition I → Characters
  data_of_composition s = s.decomposed.characters

  -- the pairs by which it composes
  abbrev pub pairs_of_composition : Composition I → List Pair
  pairs_of_composition s = s.pairs.now

  -- the reading by which it composes
  abbrev pub pairing_by : Composition I → Reading
  pairing_by s = reading_by (data_of_composition s) Dropped (pairs_of_composition s)

  -- these characters, by what the delegate yields, if memory suffices
  abbrev pub WillYield : (I → List ℕ → Type 0) → Composition I → List ℕ → Type 0
  WillYield Comes s out = WillYieldAfter Comes (pairing_by s) s.ahead s.decomposed out

  -- the runs that are still to come are short
  abbrev pub StaysShort : (I → Option ℕ → I → Type 0) → Composition I → Type 0
  StaysShort gives s = decomposition.StaysShort gives s.decomposed

  -- the delegate may go on so that runs come that aren't short
  abbrev pub IsLong : (I → Option ℕ → I → Type 0) → Composition I → Type 0
  IsLong gives s = decomposition.IsLong gives s.decomposed

  -- nothing is to come
  abbrev pub IsEnded : Composition I → Type 0
  IsEnded s = (s.ahead ≡ None) × decomposition.IsEnded s.decomposed

  -- the delegate may be called, and ends
  abbrev pub CanCompose : (I → Type 0) → (I → Count) → Composition I → Type 0
  CanCompose can left s = decomposition.CanDecompose can left s.decomposed

  -- no more characters than this come
  abbrev pub items_left : (I → Count) → Composition I → ℕ
  items_left left s = ahead_left s.ahead (decomposition.items_left left s.decomposed)

  -- a starter was composed with what was decomposed after it, and yielded, or a fault came
  pub record ComposesOn (from : Source I) (starter : ℕ) (old : Decomposition I) (pairs : List Pair)
      (r : Result ℕ NormalizeError) (t : Composition I) : Type 0 where
    pub first : (y : List ℕ) → decomposition.WillYield (Spells from.next_gives) old y → MatchResult r
        (YieldedFirst (WillYield (Spells from.next_gives))
        (compose_after (reading_by old.characters Dropped pairs) starter [] y) t)
        (λ _. WillYield (Spells from.next_gives) t [])
    pub came : (e : Extent) → IfOk r (λ c. (rest : List ℕ) → WillYield (MayYield from.next_gives e) t rest →
        (y : List ℕ) × decomposition.WillYield (MayYield from.next_gives e) old y
        × (compose_after (reading_by old.characters Dropped pairs) starter [] y ≡ c ∷ rest))
    pub fault : IfErr r (λ e. e ≡ Memory)
    pub room : decomposition.StaysShort from.next_gives old → IsOk r × StaysShort from.next_gives t
    pub long : MatchResult r (λ _. IsLong from.next_gives t → decomposition.IsLong from.next_gives old)
        (λ _. decomposition.IsLong from.next_gives old)
    pub ends : OnErr r (IsEnded t)
    pub ready : CanCompose from.can_next from.remaining t
    pub fewer : items_left from.remaining t ≤ decomposition.items_left from.remaining old
    pub kept : (t.decomposed.characters ≡ old.characters) × (t.pairs.now ≡ pairs)

  -- what a call of `next` returned and left
  pub record CompositionSteps (from : Source I) (s : Composition I) (r : Option (Result ℕ NormalizeError))
      (t : Composition I) : Type 0 where
    pub item : YieldsNext (WillYield (Spells from.next_gives)) (StaysShort from.next_gives) IsEnded s r t
    pub came : (e : Extent) → CameFirst (WillYield (MayYield from.next_gives e)) s r t
    pub long : ComesOfLong (IsLong from.next_gives) s r t
    pub ready : CanCompose from.can_next from.remaining s → CanCompose from.can_next from.remaining t
    pub kept : (t.decomposed.characters ≡ s.decomposed.characters) × (t.pairs.now ≡ s.pairs.now)
    pub fewer : OnSome r (items_left from.remaining t < items_left from.remaining s)
