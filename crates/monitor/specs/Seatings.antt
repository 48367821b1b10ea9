-- Assigning an unassigned function of the board to a guest.
--     gift_nth w p i n      the function at the path is assigned to slot n of guest i, by the guest's name
--     assign_error_number      the number of a refusal
--     fault_told      the number with which an assignment is refused
--     IsEndpointAt      the function at an index is an endpoint, and has the path
--     has_index i gs      a slot of any guest has the function at an index
--     is_closed_base, is_closed_slot      Command doesn't open the space of the region that begins at a register
--     ComesIn      the function at the path, at reset, as it is kept in a slot
--     MakesGift      the reply to an assignment in a world that is kept, and the function in the slot unless it is refused
use Rattle.std.specs.{Prelude.{ℕ, List, Bool, false, ◌≡◌, not, Option, None, Some, Result, Ok, Err, slice_get, ⊤}, List.list_any, Option.option_map_or}
use Rattle.bars.specs.declared.region.BarWithBase.{BarWithBase}
use Rattle.model_registers.specs.{Declarations.Endpoint, EndpointTable.BaseAddress, Decoding.{opens_space, space_of}}
use Rattle.model_board.specs.{Paths.Path, Board.{endpoint}, AtReset.board_at, Ports.file_at, State.{State}}
use Rattle.model_guests.specs.{Slots.reset_function, World.declared, WorldNow.WorldNow}
use Rattle.model_handoff.specs.Giving.{Gift, give_fault}
use Rattle.monitor.specs.{declared.{guest.{AssignedFunction.AssignedFunction, Guest.Guest}, slots.assign_error.AssignError.{AssignError, TheVariants.{PastSlots, NoEndpoint, HasGuest, SlotTaken, ClosedRegion}}}, ByIndex.name_nth, InSlots.is_at, Keeping.IsSlot}

abbrev pub gift_nth : WorldNow → Path → ℕ → ℕ → Gift
gift_nth w p i n = record { path = p; to = name_nth w i; slot = n }

abbrev pub assign_error_number : AssignError → ℕ
assign_error_number PastSlots = 303
assign_error_number NoEndpoint = 303
assign_error_number HasGuest = 602
assign_error_number SlotTaken = 602
assign_error_number ClosedRegion = 206

abbrev pub fault_told : {A : Type 0} → Result A AssignError → Option ℕ
fault_told {A} (Ok a) = None
fault_told {A} (Err why) = Some (assign_error_number why)

pub record IsEndpointAt (s : State) (p : Path) (i : ℕ) : Type 0 where
  pub d : Endpoint
  pub declares : declared (board_at s.functions) p ≡ Some d
  pub there : slice_get s.functions i ≡ Some (record { path = p; decl = endpoint d; file = file_at s.functions p })

abbrev pub has_index : ℕ → List Guest → Bool
has_index i gs = list_any (λ (g : Guest). list_any (is_at i) g.slots.items) gs

abbrev pub is_closed_base : ℕ → BaseAddress → Bool
is_closed_base command b = not (opens_space command (space_of b.kind))

abbrev pub is_closed_slot : ℕ → Option BarWithBase → Bool
is_closed_slot command o = option_map_or (λ (r : BarWithBase). not (opens_space command (space_of r.decl.kind))) o false

abbrev pub ComesIn : WorldNow → Path → Result AssignedFunction AssignError → Type 0
ComesIn w p (Ok held) = IsSlot w.handoff (Some p) (reset_function (declared (board_at w.handoff.functions) p)) (Some held)
ComesIn w p (Err why) = ⊤

pub record MakesGift (w : WorldNow) (p : Path) (i n : ℕ) (r : Result AssignedFunction AssignError) : Type 0 where
  pub fault : fault_told r ≡ give_fault w (gift_nth w p i n)
  pub comes : ComesIn w p r
