-- The session that C's pointer owns.
--     session_coded      how a session is told in a field that the machine does not store
--     may_free      the right to free a block of the heap, whichever value of its handle is passed
--     owner_owns      nothing, or the session at the pointer with that right
use mir.Syntax.{Ty}
use base.Fml.{Fml, ftrue}
use base.Stored.{Coded}
use denote.RawPtr.{Ptr}
use Rattle.std.specs.{Prelude.{Option, Some, None}, Box.Ownership.box_owns}
use Rattle.std_heap.specs.contracts.GlobalAllocator.TheImpl.{ghosts}
use Rattle.session.specs.contracts.session.Session as Session

abbrev pub session_coded : Coded Session.the_row.Denot
session_coded = Session.the_row.coded

abbrev pub may_free : Ty → Ptr → Fml
may_free = ghosts.dealloc_token (record { memory = record { seal = tt } })

abbrev pub owner_owns : Ptr → Option Session.the_row.Denot → Fml
owner_owns p None = ftrue
owner_owns p (Some s) = box_owns may_free Session.the_row p s
