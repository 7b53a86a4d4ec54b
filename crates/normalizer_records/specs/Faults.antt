-- What is wrong with records, by the records alone.
use Rattle.std.specs.Prelude.{◌≡◌, ◌≢◌, ℕ, ◌<◌, Bool, true, false, not, ◌&&◌, ◌||◌, ◌⊎◌, ◌==◌, nat_lt, List, [], ◌∷◌}
use Rattle.std.specs.Prelude.{◌++◌, length, map, All, AllPairs, Contains, IsSomeAnd, count_by, Option, Some, None}
use Rattle.std.specs.Prelude.{is_some, if◌then◌else◌}
use Rattle.std.specs.List.{list_any}
use Rattle.std.specs.Int.{is_in_range}
use Rattle.normalizer_tables.specs.Hangul.{is_hangul_syllable}
use Rattle.normalizer_tables.specs.SpecialLists.{fixed_list_of, fdfa_list}
use Rattle.normalizer_records.specs.declared.records.BuildError.{BuildError}
use Rattle.normalizer_records.specs.declared.records.BuildError.TheVariants.{Order, Fixed, Class, Mapping, Chain}
use Rattle.normalizer_records.specs.declared.records.BuildError.TheVariants.{Length, Pair}
use Rattle.normalizer_records.specs.RecordValue.{RecordValue, Status, MapsTo, IsIgnored, IsDisallowed, Uts46RecordValue}
use Rattle.normalizer_records.specs.Meaning.{canonical_list, chain_limit, class_of, compatibility_list, entry_of}
use Rattle.normalizer_records.specs.Meaning.{mapper_list, mapping_of, pairs_of, status_of}

-- Order

-- the records are sorted, without duplicates, by character
abbrev pub AreRising : List RecordValue → Type 0
AreRising records = AllPairs (λ r s. r.c < s.c) records

-- the records of the mapper are sorted, without duplicates, by character
abbrev pub AreMapperRising : List Uts46RecordValue → Type 0
AreMapperRising uts46 = AllPairs (λ r s. r.c < s.c) uts46

-- the records, or those of the mapper, aren't sorted, without duplicates
unfoldable pub HasOrderFault : List RecordValue → List Uts46RecordValue → Type 0
HasOrderFault records uts46 = ¬ (AreRising records × AreMapperRising uts46)

-- Fixed

-- U+FFFD, the block Hangul Jamo, and the Hangul syllables: no record may be of them
unfoldable pub is_fixed : ℕ → Bool
is_fixed c = (c == 0xFFFD) || is_in_range 0x1100 0x11FF c || is_hangul_syllable c

-- the mapper disallows the character
abbrev pub is_disallowed : Status → Bool
is_disallowed IsDisallowed = true
is_disallowed IsIgnored = false
is_disallowed (MapsTo mapping) = false

-- the mapper may have records of the two Hangul fillers, and disallow U+FFFD
unfoldable pub is_fixed_for_mapper : Uts46RecordValue → Bool
is_fixed_for_mapper r =
    is_fixed r.c && not (is_in_range 0x115F 0x1160 r.c) && not ((r.c == 0xFFFD) && is_disallowed r.status)

-- some record is of a fixed character
unfoldable pub has_fixed_fault : List RecordValue → List Uts46RecordValue → Bool
has_fixed_fault records uts46 = list_any (λ r. is_fixed r.c) records || list_any is_fixed_for_mapper uts46

-- Mapping

-- the mapping has U+0000
abbrev pub has_zero : List ℕ → Bool
has_zero mapping = list_any (λ m. m == 0) mapping

-- a character that is second in no recorded pair: U+FFFD, or of the block Hangul Jamo
unfoldable pub is_never_second : ℕ → Bool
is_never_second c = (c == 0xFFFD) || is_in_range 0x1100 0x11FF c

-- a canonical mapping is of at most two characters
unfoldable pub is_bad_canonical : List ℕ → Bool
is_bad_canonical [] = false
is_bad_canonical (first ∷ []) = false
is_bad_canonical (first ∷ second ∷ []) = is_never_second second
is_bad_canonical (first ∷ second ∷ third ∷ rest) = true

-- a compatibility mapping of at most 18, and neither has U+0000
unfoldable pub is_bad_mapping : RecordValue → Bool
is_bad_mapping r =
    has_zero r.mapping || (if r.compatibility then nat_lt 18 (length r.mapping) else is_bad_canonical r.mapping)

-- the mapper maps to something, and not to U+0000
abbrev pub is_bad_status : Status → Bool
is_bad_status (MapsTo []) = true
is_bad_status (MapsTo (m ∷ mapping)) = has_zero (m ∷ mapping)
is_bad_status IsIgnored = false
is_bad_status IsDisallowed = false

-- some record has a bad mapping
unfoldable pub has_mapping_fault : List RecordValue → List Uts46RecordValue → Bool
has_mapping_fault records uts46 = list_any is_bad_mapping records || list_any (λ r. is_bad_status r.status) uts46

-- Chain

-- some record is of the character
abbrev pub IsRecorded : List RecordValue → ℕ → Type 0
IsRecorded records c = is_some (entry_of records c) ≡ true

-- the next character, if there is one, is in the mapping of c
abbrev pub LeadsTo : List RecordValue → ℕ → List ℕ → Type 0
LeadsTo records c [] = Unit {0}
LeadsTo records c (next ∷ rest) = Contains (mapping_of records c) next

-- the characters of records, each with the next one's character in its mapping
unfoldable pub IsChain : List RecordValue → List ℕ → Type 0
IsChain records [] = Unit {0}
IsChain records (c ∷ rest) = IsRecorded records c × LeadsTo records c rest × IsChain records rest

-- a chain of more than 16 records
unfoldable pub HasChainFault : List RecordValue → Type 0
HasChainFault records = (chain : List ℕ) × IsChain records chain × (chain_limit < length chain)

-- c is on such a chain
unfoldable pub IsOnLongChain : List RecordValue → ℕ → Type 0
IsOnLongChain records c =
    (before after : List ℕ) × IsChain records (before ++ c ∷ after) × (chain_limit < length (before ++ c ∷ after))

-- what the mapper maps c to
abbrev pub mapped_to : Option Status → List ℕ
mapped_to None = []
mapped_to (Some IsIgnored) = []
mapped_to (Some IsDisallowed) = []
mapped_to (Some (MapsTo mapping)) = mapping

-- the class and the lists of c are checked: neither it nor what the mapper maps it to is on such a chain
pub record IsAsked (records : List RecordValue) (uts46 : List Uts46RecordValue) (c : ℕ) : Type 0 where
  pub off_chain : ¬ IsOnLongChain records c
  pub mapped_off_chain : All (λ m. ¬ IsOnLongChain records m) (mapped_to (status_of uts46 c))

-- Class

-- the list is the fixed one of c, and the classes of c and of the members are its
abbrev pub IsFixedForm : List RecordValue → ℕ → List ℕ → Type 0
IsFixedForm records c list =
    fixed_list_of c
    ≡ Some (record { list = list; class = class_of records c; member_classes = map (class_of records) list })

-- the list begins with a mark, by the recorded classes
abbrev pub begins_with_mark : List RecordValue → List ℕ → Bool
begins_with_mark records [] = false
begins_with_mark records (c ∷ list) = nat_lt 0 (class_of records c)

-- a list other than the character alone, and not its fixed one
abbrev pub IsFreeForm : List RecordValue → ℕ → List ℕ → Type 0
IsFreeForm records c list = (list ≢ c ∷ []) × (¬ IsFixedForm records c list)

-- such a list begins with a mark, or is of a character that is one itself
abbrev pub IsWrong : List RecordValue → ℕ → Bool → List ℕ → Type 0
IsWrong records c is_mark list = ((is_mark ≡ true) ⊎ (begins_with_mark records list ≡ true)) × IsFreeForm records c list

-- the character is a mark by its recorded class (D107)
abbrev pub is_mark : List RecordValue → ℕ → Bool
is_mark records c = nat_lt 0 (class_of records c)

-- class 255; or a class above 0 and a mapping; or the canonical or the compatibility list begins with a mark
unfoldable pub HasWrongOwnClass : List RecordValue → ℕ → Type 0
HasWrongOwnClass records c =
    (class_of records c ≡ 255)
    ⊎ (IsWrong records c (is_mark records c) (canonical_list records c)
    ⊎ IsWrong records c (is_mark records c) (compatibility_list records c))

-- that, or the mapper's list begins with a mark, if it doesn't ignore the character
unfoldable pub HasWrongClass : List RecordValue → List Uts46RecordValue → ℕ → Type 0
HasWrongClass records uts46 c =
    HasWrongOwnClass records c ⊎ IsSomeAnd (mapper_list records uts46 c) (IsWrong records c false)

-- some character has such a class or such a list
unfoldable pub HasClassFault : List RecordValue → List Uts46RecordValue → Type 0
HasClassFault records uts46 = (c : ℕ) × IsAsked records uts46 c × HasWrongClass records uts46 c

-- Length

-- longer than 17, or than 16 with a character past U+FFFF
abbrev pub is_long : List ℕ → Bool
is_long list = nat_lt 17 (length list) || (nat_lt 16 (length list) && list_any (λ c. nat_lt 0xFFFF c) list)

-- no word can state the length of the list; that of U+FDFA needs none
abbrev pub IsTooLong : List ℕ → Type 0
IsTooLong list = (is_long list ≡ true) × (list ≢ fdfa_list)

-- the canonical or the compatibility list is
unfoldable pub HasLongOwnList : List RecordValue → ℕ → Type 0
HasLongOwnList records c = IsTooLong (canonical_list records c) ⊎ IsTooLong (compatibility_list records c)

-- one of these, or the mapper's
unfoldable pub HasLongList : List RecordValue → List Uts46RecordValue → ℕ → Type 0
HasLongList records uts46 c = HasLongOwnList records c ⊎ IsSomeAnd (mapper_list records uts46 c) IsTooLong

-- some character has such a list
unfoldable pub HasLengthFault : List RecordValue → List Uts46RecordValue → Type 0
HasLengthFault records uts46 = (c : ℕ) × IsAsked records uts46 c × HasLongList records uts46 c

-- Pair

-- two records have a pair of the same two characters
unfoldable pub HasPairFault : List RecordValue → Type 0
HasPairFault records = (first second : ℕ) × (1 < count_by (λ p. (p.0 == second) && (p.1 == first)) (pairs_of records))

-- All

-- what each error says of the records by themselves: nothing if it is of the data that are packed, or of allocations
unfoldable pub HasFault : List RecordValue → List Uts46RecordValue → BuildError → Type 0
HasFault records uts46 Order = HasOrderFault records uts46
HasFault records uts46 Fixed = has_fixed_fault records uts46 ≡ true
HasFault records uts46 Class = HasClassFault records uts46
HasFault records uts46 Mapping = has_mapping_fault records uts46 ≡ true
HasFault records uts46 Chain = HasChainFault records
HasFault records uts46 Length = HasLengthFault records uts46
HasFault records uts46 Pair = HasPairFault records
HasFault records uts46 _ = ⊥

-- the faults, in the order in which they are reported
abbrev pub faults : List BuildError
faults = Order ∷ Fixed ∷ Class ∷ Mapping ∷ Chain ∷ Length ∷ Pair ∷ []

-- the first of a list of which P holds, or there is none
abbrev pub IsFirstWith : {X : Type 0} → (X → Type 0) → List X → Option X → Type 0
IsFirstWith P xs None = All (λ x. ¬ P x) xs
IsFirstWith {X} P xs (Some x) =
    (before : List X) × (after : List X) × (xs ≡ before ++ x ∷ after) × All (λ y. ¬ P y) before × P x

-- the first fault of the records; none if nothing is wrong
unfoldable pub IsFirstRefusal : List RecordValue → List Uts46RecordValue → Option BuildError → Type 0
IsFirstRefusal records uts46 r = IsFirstWith (HasFault records uts46) faults r
