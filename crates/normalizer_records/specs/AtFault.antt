-- Which record is at fault, if records are refused.
use Rattle.std.specs.Prelude.{◌≡◌, ℕ, Bool, true, false, nat_lt, List, [], ◌∷◌, ◌++◌, map, All, IsSomeAnd, count_by, ◌==◌}
use Rattle.std.specs.Prelude.{◌<◌, ◌&&◌, ◌⊎◌, Option, Some, None, if◌then◌else◌}
use Rattle.std.specs.Option.{option_map}
use Rattle.normalizer_tables.specs.Pairs.{Pair}
use Rattle.normalizer_records.specs.declared.at_fault.RecordAtFault.{RecordAtFault}
use Rattle.normalizer_records.specs.declared.at_fault.RecordAtFault.TheVariants.{OfCharacter, OfMapper}
use Rattle.normalizer_records.specs.declared.at_fault.Refusal.{Refusal}
use Rattle.normalizer_records.specs.declared.records.BuildError.{BuildError}
use Rattle.normalizer_records.specs.declared.records.BuildError.TheVariants.{Order, Fixed, Class, Mapping, Chain}
use Rattle.normalizer_records.specs.declared.records.BuildError.TheVariants.{Length, Memory, Pair as SamePair}
use Rattle.normalizer_records.specs.RecordValue.{RecordValue, Uts46RecordValue}
use Rattle.normalizer_records.specs.Faults.{HasLongOwnList, HasWrongOwnClass, IsAsked, IsFirstRefusal, IsFirstWith}
use Rattle.normalizer_records.specs.Faults.{IsOnLongChain, IsTooLong, IsWrong, is_bad_mapping, is_bad_status, is_fixed}
use Rattle.normalizer_records.specs.Faults.{is_fixed_for_mapper}
use Rattle.normalizer_records.specs.Meaning.{mapper_list, pair_of_record, pairs_of}

-- the character of the first element with P, or that there is none
unfoldable pub IsCharacterOfFirst : {X : Type 0} → (X → ℕ) → (X → Type 0) → List X → Option ℕ → Type 0
IsCharacterOfFirst key P xs None = IsFirstWith P xs None
IsCharacterOfFirst {X} key P xs (Some c) = (x : X) × IsFirstWith P xs (Some x) × (key x ≡ c)

-- the key of the first element of which a test says yes; none if it says no of all
unfoldable pub IsFirstFound : {X : Type 0} → (X → ℕ) → (X → Bool → Type 0) → List X → Option ℕ → Type 0
IsFirstFound key says xs None = All (λ x. says x false) xs
IsFirstFound {X} key says xs (Some c) =
    (x : X) × (before after : List X) × (xs ≡ before ++ x ∷ after) × All (λ y. says y false) before × says x true
    × (key x ≡ c)

-- the character of a record at fault
abbrev pub character_of : RecordAtFault → ℕ
character_of (OfCharacter c) = c
character_of (OfMapper c) = c

-- the first number that isn't greater than the one before it
unfoldable pub first_not_rising : List ℕ → Option ℕ
first_not_rising [] = None
first_not_rising (x ∷ []) = None
first_not_rising (x ∷ y ∷ rest) = if nat_lt x y then first_not_rising (y ∷ rest) else Some y

-- the record of the one character, or the mapper's record of the other
unfoldable pub first_of : Option ℕ → Option ℕ → Option RecordAtFault
first_of None mapped = option_map OfMapper mapped
first_of (Some c) mapped = Some (OfCharacter c)

-- the first record that doesn't rise, those of the mapper after the others
unfoldable pub first_out_of_order : List RecordValue → List Uts46RecordValue → Option RecordAtFault
first_out_of_order records uts46 =
    first_of (first_not_rising (map (λ r. r.c) records)) (first_not_rising (map (λ r. r.c) uts46))

-- two records have the pair
abbrev pub IsTwice : List Pair → Pair → Type 0
IsTwice pairs p = 1 < count_by (λ q. (q.0 == p.0) && (q.1 == p.1)) pairs

-- the record shows the fault
unfoldable pub ShowsFault : List RecordValue → List Uts46RecordValue → BuildError → RecordValue → Type 0
ShowsFault records uts46 Fixed r = is_fixed r.c ≡ true
ShowsFault records uts46 Class r = IsAsked records uts46 r.c × HasWrongOwnClass records r.c
ShowsFault records uts46 Mapping r = is_bad_mapping r ≡ true
ShowsFault records uts46 Chain r = IsOnLongChain records r.c
ShowsFault records uts46 Length r = IsAsked records uts46 r.c × HasLongOwnList records r.c
ShowsFault records uts46 SamePair r = IsSomeAnd (pair_of_record r) (IsTwice (pairs_of records))
ShowsFault records uts46 _ r = ⊥

-- the mapper's record does: the list that it states is wrong or too long
unfoldable pub MapperShowsFault : List RecordValue → List Uts46RecordValue → BuildError → Uts46RecordValue → Type 0
MapperShowsFault records uts46 Fixed r = is_fixed_for_mapper r ≡ true
MapperShowsFault records uts46 Class r =
    IsAsked records uts46 r.c × IsSomeAnd (mapper_list records uts46 r.c) (IsWrong records r.c false)
MapperShowsFault records uts46 Mapping r = is_bad_status r.status ≡ true
MapperShowsFault records uts46 Length r =
    IsAsked records uts46 r.c × IsSomeAnd (mapper_list records uts46 r.c) IsTooLong
MapperShowsFault records uts46 _ r = ⊥

-- the first record that shows the fault, those of the mapper after the others; none if no single record does
unfoldable pub IsFirstShowing : List RecordValue → List Uts46RecordValue → BuildError → Option RecordAtFault → Type 0
IsFirstShowing records uts46 e (Some (OfCharacter c)) =
    (r : RecordValue) × IsFirstWith (ShowsFault records uts46 e) records (Some r) × (r.c ≡ c)
IsFirstShowing records uts46 e (Some (OfMapper c)) =
    IsFirstWith (ShowsFault records uts46 e) records None
    × ((r : Uts46RecordValue) × IsFirstWith (MapperShowsFault records uts46 e) uts46 (Some r) × (r.c ≡ c))
IsFirstShowing records uts46 e None =
    IsFirstWith (ShowsFault records uts46 e) records None × IsFirstWith (MapperShowsFault records uts46 e) uts46 None

-- the first record at fault, if records are refused with the error
unfoldable pub IsFirstAtFault : List RecordValue → List Uts46RecordValue → BuildError → Option RecordAtFault → Type 0
IsFirstAtFault records uts46 Order o = o ≡ first_out_of_order records uts46
IsFirstAtFault records uts46 e o = IsFirstShowing records uts46 e o

-- the first refusal, with the first record at fault, unless memory ran out
abbrev pub IsRefusal : List RecordValue → List Uts46RecordValue → Refusal → Type 0
IsRefusal records uts46 r =
    (r.error ≡ Memory)
    ⊎ (IsFirstRefusal records uts46 (Some r.error) × IsFirstAtFault records uts46 r.error r.at_fault)
