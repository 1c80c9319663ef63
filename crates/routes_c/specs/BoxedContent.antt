-- The memory that a handle owns.
use Rattle.std.specs.Prelude.{Option, None, Some}
use Rattle.std.specs.Coded.{Coded, coded_option}
use base.Fml.{Fml, ftrue}
use denote.RawPtr.{Ptr}
use Rattle.std.specs.Box.Ownership.{box_owns}
use Rattle.std.specs.Global.{Global}
use Rattle.std_heap.specs.contracts.GlobalAllocator.TheImpl.{ghosts}
use Rattle.routes_c.specs.contracts.content.Content.{the_row}

-- the content at the pointer with the right to free its memory, or nothing
abbrev pub held_owns : Global → Ptr → Option the_row.Denot → Fml
held_owns alloc p None = ftrue
held_owns alloc p (Some c) = box_owns (ghosts.dealloc_token alloc) the_row p c

abbrev pub held_coded : Coded (Option the_row.Denot)
held_coded = coded_option the_row.coded
