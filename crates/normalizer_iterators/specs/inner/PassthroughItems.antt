-- Passing characters of a text that is decomposed.
use Rattle.std.specs.Prelude.{◌≡◌, ℕ, ◌<◌, List, [], ◌∷◌, ◌++◌, Option, Some, None, Result, Ok, Err, IfSome}
use Rattle.std.specs.Prelude.{MatchOption}
use Rattle.std.specs.Option.{ForSome}
use Rattle.normal_forms.specs.Reading.{IsStarter}
use Rattle.normal_forms.specs.CompositionByStarters.{compose_by_starters}
use Rattle.normalizer_tables.specs.declared.condition.Bounds.{Bounds}
use Rattle.normalizer_tables.specs.Characters.{Characters}
use Rattle.normalizer_tables.specs.Pairs.{Pair}
use Rattle.normalizer_tables.specs.Readings.{reading_by}
use Rattle.normalizer_tables.specs.declared.characters.IgnoredCharacters.TheVariants.{Dropped}
use Rattle.normalizer_text.specs.DecodingSteps.{Spells}
use Rattle.normalizer_iterators.specs.declared.decomposition.Decomposition.{Decomposition}
use Rattle.normalizer_iterators.specs.declared.composition.passing.Given.{Given}
use Rattle.normalizer_iterators.specs.declared.composition.passing.Given.TheVariants.{Itself, FirstMember}
use Rattle.normalizer_iterators.specs.declared.error.NormalizeError.{NormalizeError}
use Rattle.normalizer_iterators.specs.DecompositionItems.{CanDecompose, DecompositionSteps, IsLong, StaysShort}
use Rattle.normalizer_iterators.specs.DecompositionItems.{WillYield, items_left, pending_of}
use Rattle.normalizer_iterators.specs.Delegate.{Extent, MayYield, Source}
use Rattle.normalizer_iterators.specs.LazyComposing.{IsComposingPassthrough, IsNormalizedApartIn, SuitsLazyComposing}
use Rattle.normalizer_iterators.specs.WaitingList.{ordered_text}

-- a composing loop passes the character, if there is one
abbrev pub IfComposingPassthrough : Characters → Bounds → Option ℕ → Type 0
IfComposingPassthrough s b c = IfSome c (IsComposingPassthrough s b)

module _ {I : Type 0} where
  -- nothing is buffered, and a composing loop passes the character that is read next
  abbrev pub PassthroughIsNext : Bounds → Decomposition I → Type 0
  PassthroughIsNext b s =
      (ordered_text s.waiting ≡ []) × MatchOption (pending_of s) ⊥ (IsComposingPassthrough s.characters b)

  -- nothing is buffered, and the character that is read next, if there is one, is normalized apart
  pub record IsAtPassthrough (pairs : List Pair) (s : Decomposition I) : Type 0 where
    pub waiting : ordered_text s.waiting ≡ []
    pub apart : ForSome (pending_of s) (IsNormalizedApartIn s.characters pairs s.ignored)

  -- c was yielded as it is: what was to come for it composes to c alone, apart from the rest
  pub record YieldsItself (from : Source I) (pairs : List Pair) (s : Decomposition I) (c : ℕ) (t : Decomposition I)
      : Type 0 where
    pub text : (y : List ℕ) → WillYield (Spells from.next_gives) s y → (own : List ℕ) × (rest : List ℕ)
        × (y ≡ own ++ rest) × (compose_by_starters (reading_by s.characters Dropped pairs) y
        ≡ c ∷ compose_by_starters (reading_by s.characters Dropped pairs) rest)
        × WillYield (Spells from.next_gives) t rest
    pub came : (e : Extent) (rest : List ℕ) → WillYield (MayYield from.next_gives e) t rest → (y : List ℕ)
        × WillYield (MayYield from.next_gives e) s y × (compose_by_starters (reading_by s.characters Dropped pairs) y
        ≡ c ∷ compose_by_starters (reading_by s.characters Dropped pairs) rest)
    pub short : StaysShort from.next_gives s → StaysShort from.next_gives t
    pub long : IsLong from.next_gives t → IsLong from.next_gives s
    pub ready : CanDecompose from.can_next from.remaining t
    pub at_passed : IsAtPassthrough pairs t
    pub kept : t.characters ≡ s.characters
    pub fewer : items_left from.remaining t < items_left from.remaining s

  -- the first member of a list was yielded, a starter
  pub record YieldsStarter (from : Source I) (s : Decomposition I) (c : ℕ) (t : Decomposition I) : Type 0 where
    pub steps : DecompositionSteps from s (Some (Ok c)) t
    pub starter : (pairs : List Pair) → IsStarter (reading_by s.characters Dropped pairs) c

  abbrev pub YieldsPassthrough : Source I → List Pair → Decomposition I → Option (Result Given NormalizeError)
      → Decomposition I → Type 0
  YieldsPassthrough from pairs s None t = DecompositionSteps from s None t
  YieldsPassthrough from pairs s (Some (Err e)) t = DecompositionSteps from s (Some (Err e)) t
  YieldsPassthrough from pairs s (Some (Ok (Itself c))) t = YieldsItself from pairs s c t
  YieldsPassthrough from pairs s (Some (Ok (FirstMember c))) t = YieldsStarter from s c t

  -- the same by all pairs that may be composed lazily
  abbrev pub YieldsPassthroughBy : Source I → Bounds → Decomposition I → Option (Result Given NormalizeError)
      → Decomposition I → Type 0
  YieldsPassthroughBy from b s r t = (pairs : List Pair) → SuitsLazyComposing s.characters b pairs
      → IsAtPassthrough pairs s → YieldsPassthrough from pairs s r t
