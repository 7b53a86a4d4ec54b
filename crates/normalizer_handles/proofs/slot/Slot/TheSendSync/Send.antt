use denote.Param.Send.{IsSend, owning_send}
use Rattle.normalizer_handles.specs.contracts.slot.Slot as Slots
use Rattle.normalizer_handles.proofs.Crosses.{fields_send, owned_crosses}

pub send : IsSend Slots.the_row
send = owning_send Slots.the_type fields_send (λ d. owned_crosses d.at d.alloc d.value) (λ k x w. tt)
