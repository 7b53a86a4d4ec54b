-- What a record says: a character with its class and mapping, and what the mapper does with a character.
use Rattle.std.specs.Prelude.{ℕ, Bool, List}

-- an empty mapping is none
pub record RecordValue : Type 0 where
  pub c : ℕ
  pub class : ℕ
  pub mapping : List ℕ
  pub compatibility : Bool
  pub excluded : Bool

-- what the mapper does with a character (UTS #46, section 4)
pub data Status : Type 0 where
  MapsTo : List ℕ → Status
  IsIgnored : Status
  IsDisallowed : Status

-- a record of the mapper: a character and what it does with it
pub record Uts46RecordValue : Type 0 where
  pub c : ℕ
  pub status : Status
