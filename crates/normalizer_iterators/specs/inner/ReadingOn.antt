-- Reading on, up to a boundary.
use Rattle.std.specs.Prelude.{◌≡◌, ℕ, ◌+◌, ◌-◌, ◌<◌, ◌≤◌, Bool, false, List, [], ◌∷◌, ◌++◌, length, Option, MatchOption}
use Rattle.std.specs.Prelude.{IfSome}
use Rattle.std.specs.Iterator.{Count, size, Yields, YieldsThen}
use Rattle.std.specs.List.{AllPass}
use Rattle.normal_forms.specs.Reading.{Reading}
use Rattle.normal_forms.specs.Decomposition.{expand}
use Rattle.normal_forms.specs.Order.{order}
use Rattle.normal_forms.specs.ShortRuns.{buffer_limit, continues, HasShortRuns}
use Rattle.normalizer_tables.specs.declared.characters.IgnoredCharacters.{IgnoredCharacters}
use Rattle.normalizer_tables.specs.Characters.{Characters, has_class_form}
use Rattle.normalizer_tables.specs.Readings.{reading_by}
use Rattle.normalizer_text.specs.DecodingSteps.{Spells}
use Rattle.normalizer_iterators.specs.declared.waiting.WaitingList.{WaitingList}
use Rattle.normalizer_iterators.specs.WaitingList.{ordered_text, unordered_text, item_count, reordered_text, AgreesWith}
use Rattle.normalizer_iterators.specs.Delegate.{HasRead, HasYieldedLong, IsReadyAfter, Source}
use Rattle.normalizer_iterators.specs.LazyReading.{HasClassesFrom}
use Rattle.normalizer_iterators.specs.Reads.{character_of, HasOwnWords}
use Rattle.normalizer_iterators.specs.declared.pending.PendingChar.{PendingChar}

-- by each reading that has the classes of the data: these characters were added, and classes are still right
abbrev pub Adds : Characters → List ℕ → WaitingList → WaitingList → Type 0
Adds s x old new = (d : Reading) → HasClassesFrom s d → AgreesWith d old → (rest : List ℕ)
    → reordered_text d old (x ++ rest) ≡ reordered_text d new rest

abbrev pub KeepsClasses : Characters → WaitingList → WaitingList → Type 0
KeepsClasses s old new = (d : Reading) → HasClassesFrom s d → AgreesWith d old → AgreesWith d new

-- if an iterator spells a text whose runs are short, this holds
abbrev pub IfShortRuns : {I : Type 0} → (I → Option ℕ → I → Type 0) → Characters → IgnoredCharacters → I → Type 0
    → Type 0
IfShortRuns gives s ignored it P =
    (x : List ℕ) → Spells gives it x → HasShortRuns (has_class_form s) (reading_by s ignored []) x → P

-- what an iterator may have yielded so far has no short runs
abbrev pub HasYieldedLongBy : {I : Type 0} → (I → Option ℕ → I → Type 0) → Characters → IgnoredCharacters → I → Type 0
HasYieldedLongBy gives s ignored it = HasYieldedLong gives (has_class_form s) (reading_by s ignored []) it

-- characters that continue were read from a delegate, and are buffered in order; then one after a boundary, or None
pub record ReadsOn {I : Type 0} (from : Source I)
    (has_class_form : ℕ → Bool) (d : Reading) (delegate : I) (waiting : WaitingList) (pending : Option ℕ)
    (delegate_after : I) (waiting_after : WaitingList) : Type 0 where
  pub read : List ℕ
  pub run : YieldsThen from.next_gives delegate read pending delegate_after
  pub continuing : AllPass (continues has_class_form d) read
  pub at_boundary : IfSome pending (λ c. continues has_class_form d c ≡ false)
  pub text : ordered_text waiting_after ≡ reordered_text d waiting (expand d read)
  pub settled : unordered_text waiting_after ≡ []
  pub ready : IsReadyAfter from.can_next from.remaining pending delegate_after
  pub fewer : MatchOption pending (length read ≤ size (from.remaining delegate))
      (λ _. size (from.remaining delegate_after) + length read < size (from.remaining delegate))

-- the lists of characters that continue did not fit after what was buffered
pub record DidNotFit {I : Type 0} (gives : I → Option ℕ → I → Type 0) (has_class_form : ℕ → Bool) (d : Reading)
    (delegate : I) (waiting : WaitingList) : Type 0 where
  pub read : List ℕ
  pub delegate_after : I
  pub run : Yields gives delegate read delegate_after
  pub continuing : AllPass (continues has_class_form d) read
  pub too_long : buffer_limit < item_count waiting + length (expand d read)

-- the first member of the list of a character came; the others and the lists of the characters that continue it are
-- buffered in order; then one after a boundary was read, or None
pub record ReadsChunk {I : Type 0} (from : Source I)
    (has_class_form : ℕ → Bool) (d : Reading) (character : ℕ) (delegate : I) (first : ℕ) (pending : Option ℕ)
    (delegate_after : I) (waiting_after : WaitingList) : Type 0 where
  pub others : List ℕ
  pub members : d.list character ≡ first ∷ others
  pub read : List ℕ
  pub run : YieldsThen from.next_gives delegate read pending delegate_after
  pub continuing : AllPass (continues has_class_form d) read
  pub at_boundary : IfSome pending (λ c. continues has_class_form d c ≡ false)
  pub text : ordered_text waiting_after ≡ order d (others ++ expand d read)
  pub settled : unordered_text waiting_after ≡ []
  pub ready : IsReadyAfter from.can_next from.remaining pending delegate_after
  pub fewer : MatchOption pending (length read ≤ size (from.remaining delegate))
      (λ _. size (from.remaining delegate_after) + length read < size (from.remaining delegate))

-- the list of a character has this first member, the others are buffered in order, and what was read after it does not
-- continue it
pub record IsShortChunk (has_class_form : ℕ → Bool) (d : Reading) (character : ℕ) (following : Option ℕ) (first : ℕ)
    (waiting_after : WaitingList) : Type 0 where
  pub others : List ℕ
  pub list : d.list character ≡ first ∷ others
  pub at_boundary : IfSome following (λ c. continues has_class_form d c ≡ false)
  pub text : ordered_text waiting_after ≡ order d others
  pub settled : unordered_text waiting_after ≡ []
  pub classes : AgreesWith d waiting_after

-- the others and the lists of the characters that continue did not fit
pub record ChunkDidNotFit {I : Type 0} (gives : I → Option ℕ → I → Type 0) (has_class_form : ℕ → Bool) (d : Reading)
    (character : ℕ) (delegate : I) : Type 0 where
  pub read : List ℕ
  pub delegate_after : I
  pub run : Yields gives delegate read delegate_after
  pub continuing : AllPass (continues has_class_form d) read
  pub too_long : buffer_limit < length (d.list character) - 1 + length (expand d read)

-- the same using data, from the delegate as it was before `last` was read from it
abbrev pub ReadsOnAfter : {I : Type 0} → Source I → Characters
    → IgnoredCharacters → Option ℕ → I → WaitingList → Option ℕ → I → WaitingList → Type 0
ReadsOnAfter {I = I} from s ignored last delegate waiting pending delegate_after waiting_after =
    (before : I) → HasRead from.next_gives from.remaining before last delegate → ReadsOn from (has_class_form s)
    (reading_by s ignored []) before waiting pending delegate_after waiting_after

-- what was read from it before and what is buffered suit the data
pub record CanReadOn {I : Type 0} (from : Source I) (s : Characters) (ignored : IgnoredCharacters)
    (first : Option PendingChar) (delegate : I) (waiting : WaitingList) : Type 0 where
  pub ready : IsReadyAfter from.can_next from.remaining (character_of first) delegate
  pub words : HasOwnWords s first
  pub classes : AgreesWith (reading_by s ignored []) waiting

-- it was read on, and what is pending and what is buffered suit the data
pub record ReadsOnTo {I : Type 0} (from : Source I) (s : Characters) (ignored : IgnoredCharacters) (last : Option ℕ)
    (delegate : I) (waiting : WaitingList) (pending : Option PendingChar) (delegate_after : I)
    (waiting_after : WaitingList) : Type 0 where
  pub read : ReadsOnAfter from s ignored last delegate waiting (character_of pending) delegate_after waiting_after
  pub words : HasOwnWords s pending
  pub classes : AgreesWith (reading_by s ignored []) waiting_after

abbrev pub DidNotFitAfter : {I : Type 0} → (I → Option ℕ → I → Type 0) → (I → Count) → Characters
    → IgnoredCharacters → Option ℕ → I → WaitingList → Type 0
DidNotFitAfter {I = I} gives left s ignored last delegate waiting =
    (before : I) → HasRead gives left before last delegate → DidNotFit gives (has_class_form s)
    (reading_by s ignored []) before waiting

abbrev pub ReadsChunkAfter : {I : Type 0} → Source I → Characters
    → IgnoredCharacters → ℕ → Option ℕ → I → ℕ → Option ℕ → I → WaitingList → Type 0
ReadsChunkAfter {I = I} from s ignored c last delegate first pending delegate_after waiting_after =
    (before : I) → HasRead from.next_gives from.remaining before last delegate → ReadsChunk from (has_class_form s)
    (reading_by s ignored []) c before first pending delegate_after waiting_after

abbrev pub ChunkDidNotFitAfter : {I : Type 0} → (I → Option ℕ → I → Type 0) → (I → Count) → Characters
    → IgnoredCharacters → ℕ → Option ℕ → I → Type 0
ChunkDidNotFitAfter {I = I} gives left s ignored c last delegate =
    (before : I) → HasRead gives left before last delegate → ChunkDidNotFit gives (has_class_form s)
    (reading_by s ignored []) c before
