-- The addresses of a function's regions in a handoff, and the functions that may be assigned to guests over it: PCI Local
-- Bus 3.0, chapter 6.2.5.
--     base_in s p r      the address in a region's base address register in the handoff
--     opens_region s p r      the function's Command enables the region's space in the handoff
--     closed_given w s      the regions of assigned functions that Command disables, in path order, then by register
--     HandoffFault, first_fault w s      a problem of the audit, or a disabled region; the first of them
--     CanBeGiven w s      there is no such fault
--     HasOpenRegions s p, AreServed s gs      all regions of the function are enabled; this holds for each function in a slot
use Rattle.std.specs.Prelude.{List, [], ◌∷◌, ◌≡◌, ℕ, Bool, Option, Some, None, filter, IsTrue}
use Rattle.lists.specs.Elements.{Each, first_of_two}
use Rattle.model_registers.specs.{Declarations.{Region, Endpoint}, Decoding.{space_of, base, is_open}}
use Rattle.model_board.specs.{Paths.Path, AtReset.board_at, Ports.file_at, Routing.routing, State.State}
use Rattle.model_set_up.specs.PlacedRegions.{PlacedRegion}
use Rattle.model_findings.specs.{OpenRegions.closed_regions, Problems.{Problem, problems}, Witnesses.IsInOrder}
use Rattle.model_guests.specs.{Text.Text, World.{World, declared}, Guests.{GuestsNow, path_in}}
use Rattle.model_handoff.specs.Handoffs.{is_given}

abbrev pub base_in : State → Path → Region → ℕ
base_in s p r = base (file_at s.functions p) r.index r.kind

abbrev pub opens_region : State → Path → Region → Bool
opens_region s p r = is_open (file_at s.functions p) (space_of r.kind)

-- ---- functions that may be assigned

abbrev pub closed_given : World → State → List PlacedRegion
closed_given w s = filter (λ q. is_given w q.path) (closed_regions (routing s.functions))

-- a disabled region is refusal 206, and comes after all problems: a guest would see a hit there that the board doesn't
-- serve. The space isn't enabled for the guest, because that could add a second claimant, or an address that no bridge
-- forwards: the audit would then describe a state other than the handoff.
pub data HandoffFault : Type 0 where
  in_disorder : Problem → HandoffFault
  closed_region : PlacedRegion → HandoffFault

abbrev pub first_problem : List Problem → Option HandoffFault
first_problem [] = None
first_problem (p ∷ ps) = Some (in_disorder p)

abbrev pub first_closed : List PlacedRegion → Option HandoffFault
first_closed [] = None
first_closed (q ∷ qs) = Some (closed_region q)

abbrev pub first_fault : World → State → Option HandoffFault
first_fault w s = first_of_two (first_problem (problems s.functions)) (first_closed (closed_given w s))

pub record CanBeGiven (w : World) (s : State) : Type 0 where
  pub order : IsInOrder s.functions
  pub none_closed : closed_given w s ≡ []

-- ---- the guests' functions

abbrev pub HasOpenRegions : State → Path → Type 0
HasOpenRegions s p = (d : Endpoint) → declared (board_at s.functions) p ≡ Some d
    → Each (λ r. IsTrue (opens_region s p r)) d.regions

abbrev pub AreServed : State → GuestsNow → Type 0
AreServed s gs = (name : Text) (n : ℕ) (p : Path) → path_in gs name n ≡ Some p → HasOpenRegions s p
