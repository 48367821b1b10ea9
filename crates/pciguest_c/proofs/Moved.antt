-- Sessions that move between a box and the pointer that C holds: what the walks of these moves share.
--     Passed R, passed_laws      a type as a call is passed it, with its laws
--     drops      what drops the heap's handle: nothing
--     some_of      what is there, where something is
--     keyless      what such a pointer owns may go to another thread
use mathlib.Core.List.{[], ◌∷◌}
use mathlib.Core.Path.{refl}
use mir.Raw.{raw}
use mir.Syntax.{Dict, impl, tcons, tnil, dnil}
use base.Shift.{Keyless}
use denote.Exit.{no}
use denote.Memory.{lone}
use denote.Param.{arg, layout}
use denote.Param.Laws.{Laws, arg_laws}
use denote.Param.Send.{IsSend}
use denote.RattleType.{RattleType}
use denote.RawPtr.{Ptr}
use Rattle.std.specs.Prelude.{◌≡◌, Option, Some, None, IsSome, true, false}
use Rattle.std_alloc.proofs.SendSync.{lies}
use Rattle.std_heap.proofs.Handle.{handle}
use Rattle.pciguest_c.specs.Owning.{owner_owns}
use Rattle.std.proofs.Crossing as crossing
use Rattle.std_heap.specs.contracts.Global as Heap
use Rattle.session.specs.contracts.session.Session as Session

abbrev pub Passed : RattleType → RattleType
Passed R = arg (raw (layout R)) no R

abbrev pub passed_laws : (R : RattleType) → Laws R → raw (raw (layout R)) ≡ raw (layout R) → Laws (Passed R)
passed_laws R = arg_laws (raw (layout R)) no R

abbrev pub drops : Dict
drops = impl ("pciguest_c::Destruct++none::drop" ∷ []) (tcons (layout (Passed Heap.the_row)) tnil) dnil

pub some_of : {T : Type 0} (o : Option T) → IsSome o → (m : T) × (o ≡ Some m)
some_of None wrong = absurd (let no : false ≡ true = wrong in cc)
some_of (Some m) is = (m, refl)

pub keyless : IsSend Session.the_row → (p : Ptr) (value : Option Session.the_row.Denot) → Keyless (owner_owns p value)
keyless send p None = tt
keyless send p (Some s) = (lies Session.the_row send p s, crossing.frees.frees handle (raw (lone Session.the_row.mir)) p)
