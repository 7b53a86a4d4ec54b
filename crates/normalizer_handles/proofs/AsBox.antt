-- A slot that is full, and its parts, own what a box at the same types owns.
use mir.Syntax.{impl, tnil, dnil}
use mathlib.Core.List.{[]}
use denote.Signature.{Slot, plain}
use Rattle.std_alloc.proofs.BoxSteps.Form.{Bx}
use Rattle.std_heap.specs.contracts.Global as Heap
use Rattle.std_heap.specs.contracts.GlobalAllocator.TheImpl.{ghosts, dict}
use Rattle.std_heap.proofs.Global.TheLaws as heap
use Rattle.normalizer_handles.specs.contracts.owner.Owner as Owner
use Rattle.normalizer_handles.proofs.owner.Owner.TheLaws as owner
use Rattle.normalizer_handles.specs.contracts.box_parts.Parts as Parts
use Rattle.normalizer_handles.specs.contracts.slot.Slot as Slots

abbrev pub E : Bx
E =
    record {
      row = Owner.the_row;
      laws = owner.the_row_laws;
      al = record { row = Heap.the_row; laws = heap.the_row_laws; g = ghosts; d = dict; drops = impl [] tnil dnil };
    }

abbrev pub FromParts : Slot 0
FromParts = plain (λ _. Parts.the_row Owner.the_row Heap.the_row ghosts)

abbrev pub FromSlot : Slot 0
FromSlot = plain (λ _. Slots.the_row)
