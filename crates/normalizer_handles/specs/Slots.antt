-- What a slot owns: a box, or nothing.
use Rattle.std.specs.Prelude.{Option, Some, None}
use base.Fml.{Fml, ftrue}
use base.Stored.{Coded}
use mir.Syntax.{Ty}
use denote.RawPtr.{Ptr}
use Rattle.std.specs.Coded.{coded_option}
use Rattle.std.specs.Box.Ownership.{box_owns}
use Rattle.normalizer_handles.specs.contracts.owner.Owner.{the_row}

abbrev pub slot_owns : (holds : Ty → Ptr → Fml) → Ptr → Option the_row.Denot → Fml
slot_owns holds at None = ftrue
slot_owns holds at (Some x) = box_owns holds the_row at x

abbrev pub slot_coded : Coded (Option the_row.Denot)
slot_coded = coded_option the_row.coded
