-- The slot and region that a guest's address decodes to.
--     Decodes own space addr o      what a function with these copies decodes
--     LandsIn      a slot with a function whose copies decode the address
--     target_in      a port or an address in memory
use Rattle.std.specs.Prelude.{ℕ, List, Option, Some, ◌≡◌, map, slice_get}
use Rattle.model_registers.specs.{EndpointTable.opened, OwnCopies.{OwnCopies, HoldsOwn, bare}, Decoding.{Space, io, memory, Function, Hit, lone_claim}}
use Rattle.model_guests.specs.Accesses.{Target, port, address}
use Rattle.bars.specs.Hits.{hit_in}
use Rattle.monitor.specs.declared.guest.AssignedFunction.{AssignedFunction}

abbrev pub Decodes : OwnCopies → Space → ℕ → Option Hit → Type 0
Decodes own space addr o =
    (f : Function) → HoldsOwn f.file own → map bare f.decl.regions ≡ map opened own.bases → o ≡ lone_claim f space addr

-- as a slot, a region and the offset in it
pub record LandsIn (slots : List (Option AssignedFunction)) (space : Space) (addr : ℕ) (l : ℕ × ℕ × ℕ) : Type 0 where
  pub held : AssignedFunction
  pub there : slice_get slots l.0 ≡ Some (Some held)
  pub decodes : Decodes held.own space addr (Some (hit_in l.1 l.2))

abbrev pub target_in : Space → ℕ → Target
target_in io addr = port addr
target_in memory addr = address addr
