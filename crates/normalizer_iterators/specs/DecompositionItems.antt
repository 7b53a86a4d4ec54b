-- What is still to come of a decomposition.
use Rattle.std.specs.Prelude.{◌≡◌, ℕ, ◌+◌, ◌*◌, ◌<◌, List, [], ◌∷◌, ◌++◌, length, Option, Some, None, OnSome}
use Rattle.std.specs.Prelude.{Result, Ok, Err, MatchOption, MatchResult, ⊤, option_to_list}
use Rattle.std.specs.Iterator.{Count, size}
use Rattle.normal_forms.specs.Reading.{Reading}
use Rattle.normal_forms.specs.Forms.{nfd}
use Rattle.normal_forms.specs.ShortRuns.{HasShortRuns}
use Rattle.normalizer_tables.specs.Characters.{has_class_form}
use Rattle.normalizer_tables.specs.Readings.{reading_by}
use Rattle.normalizer_text.specs.DecodingSteps.{Spells}
use Rattle.normalizer_iterators.specs.declared.decomposition.Decomposition.{Decomposition}
use Rattle.normalizer_iterators.specs.declared.error.NormalizeError.{NormalizeError}
use Rattle.normalizer_iterators.specs.declared.waiting.ClassedChar.{ClassedChar}
use Rattle.normalizer_iterators.specs.Delegate.{Extent, IsReadyAfter, MayYield, Source}
use Rattle.normalizer_iterators.specs.Delegate.Extent.{so_far}
use Rattle.normalizer_iterators.specs.LazyReading.{longest_list}
use Rattle.normalizer_iterators.specs.NextItem.{CameFirst, YieldsNext}
use Rattle.normalizer_iterators.specs.Reads.{character_of}
use Rattle.normalizer_iterators.specs.ToCome.{IsToCome, AreShortToCome, reads_left}
use Rattle.normalizer_iterators.specs.WaitingList.{ordered_text}

-- an item without its class
abbrev pub item_of : Option (Result ClassedChar NormalizeError) → Option (Result ℕ NormalizeError)
item_of None = None
item_of (Some (Ok given)) = Some (Ok given.character)
item_of (Some (Err e)) = Some (Err e)

module _ {I : Type 0} where
  -- the character that was read last, if one is left
  abbrev pub pending_of : Decomposition I → Option ℕ
  pending_of s = character_of s.pending

  -- the reading by which it decomposes
  abbrev pub reading_of : Decomposition I → Reading
  reading_of s = reading_by s.characters s.ignored []

  -- these characters, by what the delegate yields, if memory suffices
  abbrev pub WillYield : (I → List ℕ → Type 0) → Decomposition I → List ℕ → Type 0
  WillYield Comes s out = IsToCome Comes (nfd (reading_of s)) (pending_of s) s.delegate (ordered_text s.waiting) out

  -- the runs that are still to come are short
  abbrev pub StaysShort : (I → Option ℕ → I → Type 0) → Decomposition I → Type 0
  StaysShort gives s = AreShortToCome gives (has_class_form s.characters) (reading_of s) (pending_of s) s.delegate

  -- the delegate may go on so that these characters come, and the runs that are to come are short
  abbrev pub AreShort : (gives : I → Option ℕ → I → Type 0) (s : Decomposition I) (out : List ℕ)
      → WillYield (MayYield gives so_far) s out → Type 0
  AreShort gives s out comes =
      HasShortRuns (has_class_form s.characters) (reading_of s) (option_to_list (pending_of s) ++ comes.unread)

  -- the delegate may go on so that runs come that aren't short
  pub record IsLong (gives : I → Option ℕ → I → Type 0) (s : Decomposition I) : Type 0 where
    pub out : List ℕ
    pub comes : WillYield (MayYield gives so_far) s out
    pub long : AreShort gives s out comes → ⊥

  -- what may come from t may come from s after c, and its runs are short if those from s are
  abbrev pub ComesShortBefore : (I → Option ℕ → I → Type 0) → Decomposition I → ℕ → Decomposition I → Type 0
  ComesShortBefore gives s c t = (out : List ℕ) (later : WillYield (MayYield gives so_far) t out)
      → (comes : WillYield (MayYield gives so_far) s (c ∷ out)) × (AreShort gives s (c ∷ out) comes
      → AreShort gives t out later)

  -- nothing is to come
  abbrev pub IsEnded : Decomposition I → Type 0
  IsEnded s = (pending_of s ≡ None) × (ordered_text s.waiting ≡ [])

  -- the delegate may be called, and ends
  abbrev pub CanDecompose : (I → Type 0) → (I → Count) → Decomposition I → Type 0
  CanDecompose can left s = IsReadyAfter can left (pending_of s) s.delegate

  -- no more characters than this come
  abbrev pub items_left : (I → Count) → Decomposition I → ℕ
  items_left left s =
      length (ordered_text s.waiting) + longest_list * reads_left (pending_of s) (size (left s.delegate))

  -- what a call of `next` returned and left
  pub record DecompositionSteps (from : Source I) (s : Decomposition I) (r : Option (Result ℕ NormalizeError))
      (t : Decomposition I) : Type 0 where
    pub item : YieldsNext (WillYield (Spells from.next_gives)) (StaysShort from.next_gives) IsEnded s r t
    pub came : (e : Extent) → CameFirst (WillYield (MayYield from.next_gives e)) s r t
    pub long : MatchOption r ⊤ (λ item. MatchResult item (λ c. ComesShortBefore from.next_gives s c t)
        (λ _. IsLong from.next_gives s))
    pub ready : CanDecompose from.can_next from.remaining s → CanDecompose from.can_next from.remaining t
    pub kept : (t.characters ≡ s.characters) × (t.ignored ≡ s.ignored)
    pub fewer : OnSome r (items_left from.remaining t < items_left from.remaining s)
