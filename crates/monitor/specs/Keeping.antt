-- The world that the monitor keeps: the board has all registers except the guests' own copies, which the guests have.
--     IsHeld      a function in a slot: its index on the board, its regions with their bases at handoff, and the guest's copies
--     IsSlot, AreSlots, IsGuest, AreGuests      all functions in slots are held so, slot by slot and guest by guest
--     IsKept      the board is in the one state that agrees with the guests over the handoff
--     IsSound      a host and guests keep the world that they show, whose guests can be saved and have lawful names
use Rattle.std.specs.Prelude.{List, [], ◌∷◌, ◌≡◌, Option, None, Some, IsTrue, ⊤, map, slice_get}
use Rattle.lists.specs.Elements.{Each}
use Rattle.model_registers.specs.{EndpointTable.opened, OwnCopies.{HoldsOwn, bare}, Decoding.{Function, base_address}}
use Rattle.model_board.specs.{Paths.Path, Board.endpoint, AtReset.board_at, Ports.file_at, State.State}
use Rattle.model_guests.specs.{Text.Text, Slots.Slots, World.is_name, Guests.{GuestNow, GuestsNow}, WorldNow.{WorldNow, board_state}}
use Rattle.model_handoff.specs.{Kept.IsLawfulOver, ViewLaws.with_seated_reset}
use Rattle.model_images.specs.SavedLaws.{CanBeSaved}
use Rattle.bars.specs.Slots.{bases_from}
use Rattle.host_bridge.specs.HostState.{HostState}
use Rattle.monitor.specs.{declared.guest.{AssignedFunction.AssignedFunction, Guest.Guest}, Views.world_shown}

-- for the function f of the path p
pub record IsHeld (s : State) (p : Path) (f : Function) (h : AssignedFunction) : Type 0 where
  pub row : slice_get (board_at s.functions) h.index ≡ Some (record { path = p; decl = endpoint f.decl })
  pub placed : bases_from 0 h.placed ≡ map (base_address (file_at s.functions p)) f.decl.regions
  pub regions : map bare f.decl.regions ≡ map opened h.own.bases
  pub own : HoldsOwn f.file h.own

abbrev pub IsSlot : State → Option Path → Option Function → Option AssignedFunction → Type 0
IsSlot s None None None = ⊤
IsSlot s (Some p) (Some f) (Some h) = IsHeld s p f h
IsSlot s q f o = ⊥

abbrev pub AreSlots : State → List (Option Path) → Slots → List (Option AssignedFunction) → Type 0
AreSlots s [] [] [] = ⊤
AreSlots s (q ∷ qs) (f ∷ fs) (o ∷ os) = IsSlot s q f o × AreSlots s qs fs os
AreSlots s qs fs os = ⊥

pub record IsGuest (s : State) (name : Text) (w : GuestNow) (g : Guest) : Type 0 where
  pub name_is : w.name ≡ name
  pub latch : w.lone.latch ≡ g.latch
  pub slots : AreSlots s w.paths w.lone.slots g.slots.items

abbrev pub AreGuests : State → List Text → GuestsNow → List Guest → Type 0
AreGuests s [] [] [] = ⊤
AreGuests s (t ∷ ts) (w ∷ ws) (g ∷ gs) = IsGuest s t w g × AreGuests s ts ws gs
AreGuests s ts ws gs = ⊥

-- `board_state` says that bridges, unassigned functions, bus numbers and routing registers are as they were at handover.
-- In the handoff, functions in slots are at reset: the board can't show any other values that they had there.
pub record IsKept (w : WorldNow) (h : HostState) (names : List Text) (gs : List Guest) : Type 0 where
  pub lawful : IsLawfulOver w
  pub clear : w.handoff.latch ≡ 0
  pub at_reset : with_seated_reset w.handoff w.guests ≡ w.handoff
  pub agrees : h.state ≡ board_state w
  pub guests : AreGuests w.handoff names w.guests gs

pub record IsSound (h : HostState) (names : List Text) (gs : List Guest) : Type 0 where
  pub kept : IsKept (world_shown h names gs) h names gs
  pub savable : CanBeSaved (world_shown h names gs)
  pub lawful_names : Each (λ n. IsTrue (is_name n)) names
