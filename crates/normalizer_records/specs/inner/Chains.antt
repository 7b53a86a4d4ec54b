-- How many records lead on from a character, and to it.
use Rattle.std.specs.Prelude.{◌≡◌, ◌↔◌, ℕ, zero, suc, ◌⊎◌, Bool, true, nat_lt, List, [], ◌∷◌, length, Contains, IsTrue}
use Rattle.std.specs.Prelude.{if◌then◌else◌}
use Rattle.std.specs.BTreeSet.{BTreeSet, contains}
use Rattle.std.specs.List.{list_any}
use Rattle.std.specs.Ordering.{nat_cmp}
use Rattle.normalizer_records.specs.RecordValue.{RecordValue}
use Rattle.normalizer_records.specs.Meaning.{mapping_of}
use Rattle.normalizer_records.specs.Faults.{IsRecorded}

-- the set has the characters of P, and no others
abbrev pub IsSetOf : (ℕ → Type 0) → BTreeSet ℕ → Type 0
IsSetOf P set = (c : ℕ) → IsTrue (contains nat_cmp set c) ↔ P c

-- this many records lead on from c, each to the next, the last to one that is recorded
unfoldable pub LeadsOn : List RecordValue → ℕ → ℕ → Type 0
LeadsOn records zero c = IsRecorded records c
LeadsOn records (suc n) c = (d : ℕ) × Contains (mapping_of records c) d × LeadsOn records n d

-- this many records lead to c, each from the one before
unfoldable pub IsLedTo : List RecordValue → ℕ → ℕ → Type 0
IsLedTo records zero c = IsRecorded records c
IsLedTo records (suc n) c = (b : ℕ) × Contains (mapping_of records b) c × IsLedTo records n b

-- P, or n + k records lead to c and on from it, at most n of them on
unfoldable pub IsBetween : List RecordValue → Type 0 → ℕ → ℕ → ℕ → Type 0
IsBetween records P zero k c = P ⊎ (LeadsOn records zero c × IsLedTo records k c)
IsBetween records P (suc n) k c = IsBetween records P n (suc k) c ⊎ (LeadsOn records (suc n) c × IsLedTo records k c)

-- a record leads on from c
abbrev pub leads_on : List RecordValue → ℕ → Bool
leads_on records c = nat_lt 0 (length (mapping_of records c))

-- a mapping, if a record leads on from one of its members
abbrev pub leading : List RecordValue → List ℕ → List ℕ
leading records mapping = if list_any (leads_on records) mapping then mapping else []

-- the set has each character to which this many records lead, if one leads on from it
abbrev pub HasLed : List RecordValue → ℕ → BTreeSet ℕ → Type 0
HasLed records n set = (c : ℕ) → IsLedTo records n c → leads_on records c ≡ true → IsTrue (contains nat_cmp set c)

-- the character of a record that leads to one of the set
abbrev pub beginning : BTreeSet ℕ → RecordValue → List ℕ
beginning set r = if list_any (contains nat_cmp set) r.mapping then r.c ∷ [] else []
