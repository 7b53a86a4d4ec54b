-- What a slot owns may go to another thread.
use mir.Raw.{raw}
use base.Shift.{Keyless}
use denote.Memory.{lone}
use denote.Param.Send.{AllSend, sendable}
use denote.RawPtr.{Ptr}
use denote.Struct.Owning.{fields}
use Rattle.std.specs.Prelude.{Option, Some, None}
use Rattle.std.specs.Global.{Global}
use Rattle.std.proofs.Crossing as std
use Rattle.std_alloc.proofs.SendSync.{lies}
use Rattle.std_heap.specs.contracts.GlobalAllocator.TheImpl.{ghosts}
use Rattle.normalizer_handles.specs.Slots.{slot_owns}
use Rattle.normalizer_handles.specs.contracts.owner.Owner.{the_row}
use Rattle.normalizer_handles.specs.contracts.slot.Slot as Slots
use Rattle.normalizer_handles.proofs.owner.Owner.TheSendSync as owner

pub fields_send : AllSend (fields Slots.the_type)
fields_send = search sendable

pub owned_crosses : (at : Ptr) (alloc : Global) (value : Option the_row.Denot)
    → Keyless (slot_owns (ghosts.dealloc_token alloc) at value)
owned_crosses at alloc None = tt
owned_crosses at alloc (Some x) = (lies the_row owner.the_send at x, std.frees.frees alloc (raw (lone the_row.mir)) at)
