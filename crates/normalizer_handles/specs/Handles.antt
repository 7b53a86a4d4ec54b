-- What a handle has.
use Rattle.std.specs.Prelude.{◌≡◌, ◌⊎◌, ⊤, Option, Some, None, Result, Ok, Err}
use Rattle.std.specs.Arc.{arc_value}
use Rattle.normalizer_handles.specs.declared.fault.Fault.{Fault}
use Rattle.normalizer_handles.specs.declared.fault.Fault.TheVariants.{Memory, NotOpen}
use Rattle.normalizer_handles.specs.declared.handle.Handle.{Handle}
use Rattle.normalizer_handles.specs.declared.normalizers.Normalizers.{Normalizers}
use Rattle.normalizer_handles.specs.declared.owner.Owner.{Owner}

-- the normalizers that an owner has a share in
abbrev pub owned_by : Owner → Normalizers
owned_by o = arc_value o.normalizers

-- the same of an owner that there may be
abbrev pub held_in : Option Owner → Option Normalizers
held_in None = None
held_in (Some o) = Some (owned_by o)

-- the normalizers of a handle, if it is open
abbrev pub held_normalizers : Handle → Option Normalizers
held_normalizers h = held_in h.slot.value

-- a handle has the normalizers of another, or what it had before
abbrev pub Shares : (from before after : Option Normalizers) → Result ⊤ Fault → Type 0
Shares from before after (Ok done) = (n : Normalizers) × (from ≡ Some n) × (after ≡ Some n)
Shares from before after (Err fault) = (after ≡ before) × ((fault ≡ Memory) ⊎ ((from ≡ None) × (fault ≡ NotOpen)))
