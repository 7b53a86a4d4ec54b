-- The written conditions, with the numbers and in the order of `docs/CONDITIONS.md`, what is required of which data, and
-- the first of a list of conditions that fails.
use Rattle.std.specs.Prelude.{◌≡◌, ℕ, ◌+◌, ◌<◌, ◌≤◌, Bool, true, false, if◌then◌else◌, List, [], ◌∷◌, ◌++◌, All}
use Rattle.std.specs.Prelude.{Option, Some, None, IfSome}
use Rattle.std.specs.Char.{IsScalar}
use Rattle.normalizer_tables.specs.declared.condition.Condition.{Condition}
use Rattle.normalizer_tables.specs.declared.condition.Condition.TheVariants.{ItemLimit, CapLimit, ReplacementCharacter}
use Rattle.normalizer_tables.specs.declared.condition.Condition.TheVariants.{Surrogates, PastTheEnd, Hangul, Words}
use Rattle.normalizer_tables.specs.declared.condition.Condition.TheVariants.{Members, Order, Passthrough}
use Rattle.normalizer_tables.specs.declared.condition.Condition.TheVariants.{Pairs, RoundTrip, SafeBeginning, Results}
use Rattle.normalizer_tables.specs.declared.condition.Condition.TheVariants.{FdfaForms, Steps, SurrogateClasses}
use Rattle.normalizer_tables.specs.declared.condition.Condition.TheVariants.{WordClasses, PairOrder}
use Rattle.normalizer_tables.specs.Characters.{word_of, list_of}
pub use Rattle.normalizer_tables.specs.conditions.CharacterConditions.{IsFlaggedReplacement, IsOrderedList}
pub use Rattle.normalizer_tables.specs.conditions.CharacterConditions.{IsPlainStarter, IsSoundClass}
pub use Rattle.normalizer_tables.specs.conditions.CharacterConditions.{IsSoundHangul, IsSoundWord, ReadsToItself}
pub use Rattle.normalizer_tables.specs.conditions.CharacterConditions.{is_surrogate}
pub use Rattle.normalizer_tables.specs.conditions.CharacterConditions.{item_count}
use Rattle.normalizer_tables.specs.conditions.Loaded.{Loaded}
use Rattle.normalizer_tables.specs.conditions.PairConditions.{AreSoundPairs, HasOrderedLists, IsComposablePair}
use Rattle.normalizer_tables.specs.conditions.PairConditions.{KeepsBoundary, KeepsRoundTrip}
use Rattle.normalizer_tables.specs.conditions.StepConditions.{AvoidsFdfa, HasSoundStep}
use Rattle.normalizer_tables.specs.Words.{is_class_form}

-- the most items that the tables may have together
abbrev pub item_limit : ℕ
item_limit = 0x1FFF

-- the greatest `passthrough_cap`
abbrev pub cap_limit : ℕ
cap_limit = 0x0300

-- the number of a condition. What is required for classes alone, or for pairs alone, has that of the whole.
abbrev pub number_of : Condition → ℕ
number_of ItemLimit = 1
number_of CapLimit = 2
number_of ReplacementCharacter = 3
number_of Surrogates = 4
number_of PastTheEnd = 5
number_of Hangul = 6
number_of Words = 7
number_of Members = 8
number_of Order = 9
number_of Passthrough = 10
number_of Pairs = 11
number_of RoundTrip = 12
number_of SafeBeginning = 13
number_of Results = 14
number_of FdfaForms = 15
number_of Steps = 16
number_of SurrogateClasses = 4
number_of WordClasses = 7
number_of PairOrder = 11

-- the conditions on data for decomposing text: 1 to 10
abbrev pub decomposing_conditions : List Condition
decomposing_conditions =
    ItemLimit ∷ CapLimit ∷ ReplacementCharacter ∷ Surrogates ∷ PastTheEnd ∷ Hangul ∷ Words ∷ Members ∷ Order
    ∷ Passthrough ∷ []

-- the conditions on pairs with these data: 11 to 14, for the mapper's data 11 to 13
abbrev pub pair_conditions : Bool → List Condition
pair_conditions is_mapper = Pairs ∷ RoundTrip ∷ SafeBeginning ∷ (if is_mapper then [] else Results ∷ [])

-- the conditions on data for composing text: 1 to 14, for the mapper's data 1 to 13
abbrev pub composing_conditions : Bool → List Condition
composing_conditions is_mapper = decomposing_conditions ++ pair_conditions is_mapper

-- the conditions on canonical data, pairs and supplement: 1 to 16
abbrev pub every_condition : List Condition
every_condition = composing_conditions false ++ FdfaForms ∷ Steps ∷ []

-- the conditions on canonical data that a caller may pass in unchecked: all on data for decomposing text but the one on
-- the cap
abbrev pub nfd_conditions : List Condition
nfd_conditions =
    ItemLimit ∷ ReplacementCharacter ∷ Surrogates ∷ PastTheEnd ∷ Hangul ∷ Words ∷ Members ∷ Order ∷ Passthrough ∷ []

-- the conditions on data for single decomposition steps: 1, 5 to 9, 15 and 16
abbrev pub step_conditions : List Condition
step_conditions = ItemLimit ∷ PastTheEnd ∷ Hangul ∷ Words ∷ Members ∷ Order ∷ FdfaForms ∷ Steps ∷ []

-- the conditions on data of which only classes are read: parts of 4, 5 and 7
abbrev pub class_conditions : List Condition
class_conditions = SurrogateClasses ∷ PastTheEnd ∷ WordClasses ∷ []

-- what is said of all that was loaded, and of each character
pub record Statement : Type 1 where
  pub of_all : Type 0
  pub of_each : ℕ → Type 0

abbrev all : Type 0 → Statement
all A = record { of_all = A; of_each = λ n. Unit {0} }

abbrev each : (ℕ → Type 0) → Statement
each P = record { of_all = Unit {0}; of_each = P }

-- What a condition says; of pairs and a supplement that weren't loaded, it says nothing. The last three are the parts of
-- 4, 7 and 11 for classes alone, or for pairs alone.
unfoldable pub says : Loaded → Condition → Statement
says d ItemLimit = all (item_count d.characters.tables + item_count d.characters.supplementary ≤ item_limit)
says d CapLimit = all (d.characters.decompositions.cap ≤ cap_limit)
says d ReplacementCharacter = all (IsFlaggedReplacement d.characters)
says d Surrogates = all ((n : ℕ) → is_surrogate n ≡ true → word_of d.characters n ≡ 0xC000FFFD)
says d PastTheEnd = all (is_class_form d.characters.decompositions.table.past ≡ false)
says d Hangul = all ((n : ℕ) → IsSoundHangul d.characters n)
says d Words = each (λ n. IsSoundWord d.characters n)
says d Members = each (λ n. All (ReadsToItself d.characters) (list_of d.characters [] n))
says d Order = each (λ n. IsOrderedList d.characters n)
says d Passthrough = each (λ n. n < d.bounds.decomposition → IsPlainStarter d.characters n)
says d Pairs = all (IfSome d.pairs (λ pairs. AreSoundPairs pairs × All (IsComposablePair d.characters) pairs))
says d RoundTrip = each (λ n. IfSome d.pairs (λ pairs. KeepsRoundTrip d.characters d.bounds pairs n))
says d SafeBeginning = each (λ n. IfSome d.pairs (λ pairs. KeepsBoundary d.characters d.bounds pairs n))
says d Results = all (IfSome d.pairs (λ pairs. All (HasOrderedLists d.characters []) pairs))
says d FdfaForms = record {
  of_all = (n : ℕ) → (IsScalar n → ⊥) → AvoidsFdfa d.characters n;
  of_each = λ n. AvoidsFdfa d.characters n;
}
says d Steps = each (λ n. IfSome d.supplement (λ t. HasSoundStep d.characters t n))
says d SurrogateClasses = all ((n : ℕ) → is_surrogate n ≡ true → is_class_form (word_of d.characters n) ≡ false)
says d WordClasses = each (λ n. IsSoundClass n (word_of d.characters n))
says d PairOrder = all (IfSome d.pairs AreSoundPairs)

-- a condition is met if both that it says are so
abbrev pub IsMet : Loaded → Condition → Type 0
IsMet d c = (says d c).of_all × ((n : ℕ) → IsScalar n → (says d c).of_each n)

-- no condition of the list fails, or this one does, and none before it
unfoldable pub IsFirstFailing : {C : Type 0} → (C → Type 0) → List C → Option C → Type 0
IsFirstFailing holds conditions None = All holds conditions
IsFirstFailing {C} holds conditions (Some c) =
    (before : List C) × (after : List C) × (conditions ≡ before ++ c ∷ after) × All holds before × (¬ holds c)
