-- The effect of a guest's access on a board after a consistent handoff: PCI Local Bus 3.0, chapters 3.2.2.3.2 and
-- 6.2.5; PCI-to-PCI Bridge Architecture 1.2, chapters 3 and 4.
--     space_reply, after_space_write      an access to the claimant of an address in a space, regardless of CONFIG_ADDRESS
--     RegionIsClaimed      a byte of an enabled region is claimed at its address in the handoff, by that region only
--     HasSlot      a slot of a guest, with its path and its function
--     HitReachesOver      a hit in a served function corresponds to a byte of such a region, in the same byte lanes
--     RegionReads, RegionWrites      an access there reads and changes the guest's own file
--     HitActs      so a guest's access that hits a region has the effect of accessing its byte at the handoff's address
--     CycleReads, CycleWrites      so does a configuration cycle to the function's BDF in the handoff
--     MemoryBySpace, PortsBySpace      these are the accesses of the board at its memory addresses and ordinary ports
--     ServedAtFirst, ServedAfterEvents, ServedAfterMoves      assigned functions are served, whatever guests do
--     FaultDecides      functions may be assigned if and only if there is no fault
use Rattle.std.specs.Prelude.{List, [], ◌∷◌, ◌≡◌, ℕ, ◌<◌, ◌+◌, ◌%◌, Bool, Some, None, IsTrue, ◌↔◌}
use Rattle.lists.specs.Elements.{IsIn}
use Rattle.model_registers.specs.{Registers.{config, block, read, write, all_bytes, number}, OwnCopies.forwarded_byte_enables, Declarations.{Region, Endpoint}, Decoding.{Space, io, memory, space_of, Function, Hit, lone_claim}, DecodingLaws.IsHitIn}
use Rattle.model_board.specs.{Paths.Path, Board.endpoint, AtReset.board_at, State.{BoardFunction, State}, Claims.{Claim, claims, first_claim}, Ports.{claim_reply, after_claim_write, config_reply, after_config_write, port_target, ordinary, port_reply, after_port_write, memory_reply, after_memory_write}, Routing.routing}
use Rattle.model_findings.specs.{Found.{current_bdf, IsNumbered}, Orderly.{IsOrderly, IsStateOfBoard}}
use Rattle.model_guests.specs.{Accesses.Event, Text.Text, World.World, Guests.{GuestsNow, guests_at_first, path_in, function_in, with_guest, after_guest_event, Move, after_move}, Seated.AreSeated, AgreedBoard.state_over, ChangeLaws.with_slot_changed}
use Rattle.model_handoff.specs.{Handoffs.IsHandoff, Regions.{base_in, opens_region, closed_given, first_fault, CanBeGiven, AreServed}}

abbrev pub space_reply : State → Space → ℕ → ℕ → ℕ
space_reply s space a w = claim_reply s.functions w (first_claim s.functions space a)

abbrev pub after_space_write : State → Space → ℕ → ℕ → ℕ → State
after_space_write s space a w v =
    record s { functions = after_claim_write s.functions w v (first_claim s.functions space a) }

-- one claim, and no other
pub record IsClaimedAlone (fs : List BoardFunction) (space : Space) (a : ℕ) (c : Claim) : Type 0 where
  pub first : first_claim fs space a ≡ Some c
  pub alone : claims fs space a ≡ c ∷ []

abbrev pub claim_in_region : Path → Region → ℕ → Claim
claim_in_region p r k = record { path = p; index = r.index; offset = k }

-- for any endpoint of the board, whatever guests did
abbrev pub RegionIsClaimed : Type 0
RegionIsClaimed = (s : State) → IsStateOfBoard s.functions → IsOrderly (routing s.functions)
    → (gs : GuestsNow) → AreSeated (board_at s.functions) gs
    → (p : Path) (d : Endpoint) → IsIn (record { path = p; decl = endpoint d }) (board_at s.functions)
    → (r : Region) → IsIn r d.regions → IsTrue (opens_region s p r) → (k : ℕ) → k < r.size
    → IsClaimedAlone (state_over s gs).functions (space_of r.kind) (base_in s p r + k) (claim_in_region p r k)

pub record HasSlot (gs : GuestsNow) (name : Text) (n : ℕ) (p : Path) (f : Function) : Type 0 where
  pub path : path_in gs name n ≡ Some p
  pub function : function_in gs name n ≡ Some f

-- for the function f at p, where n is the guest's address
pub record ReachesOver (s : State) (gs : GuestsNow) (p : Path) (f : Function) (space : Space) (n : ℕ) (h : Hit)
    : Type 0 where
  pub region : Region
  pub declared : IsIn region f.decl.regions
  pub hit : IsHitIn space n region h
  pub claimed : IsClaimedAlone (state_over s gs).functions space (base_in s p region + h.offset)
      (record { path = p; index = h.index; offset = h.offset })
  pub lanes : (base_in s p region + h.offset) % 4 ≡ n % 4

abbrev pub HitReachesOver : Type 0
HitReachesOver = (s : State) → IsStateOfBoard s.functions → IsOrderly (routing s.functions)
    → (gs : GuestsNow) → AreSeated (board_at s.functions) gs → AreServed s gs
    → (name : Text) (k : ℕ) (p : Path) (f : Function) → HasSlot gs name k p f
    → (space : Space) (n : ℕ) (h : Hit) → lone_claim f space n ≡ Some h → ReachesOver s gs p f space n h

-- ---- regions

abbrev pub RegionReads : Type 0
RegionReads = (s : State) → IsHandoff s → IsOrderly (routing s.functions)
    → (gs : GuestsNow) → AreSeated (board_at s.functions) gs
    → (name : Text) (n : ℕ) (p : Path) (f : Function) → HasSlot gs name n p f
    → (r : Region) → IsIn r f.decl.regions → IsTrue (opens_region s p r) → (k : ℕ) → k < r.size → (w : ℕ)
    → space_reply (state_over s gs) (space_of r.kind) (base_in s p r + k) w ≡ number f.file (block r.index k) w

abbrev pub RegionWrites : Type 0
RegionWrites = (s : State) → IsStateOfBoard s.functions → IsOrderly (routing s.functions)
    → (gs : GuestsNow) → AreSeated (board_at s.functions) gs
    → (name : Text) (n : ℕ) (p : Path) (f : Function) → HasSlot gs name n p f
    → (r : Region) → IsIn r f.decl.regions → IsTrue (opens_region s p r) → (k : ℕ) → k < r.size → (w v : ℕ)
    → after_space_write (state_over s gs) (space_of r.kind) (base_in s p r + k) w v
    ≡ state_over s (with_guest (with_slot_changed (write (all_bytes w) v (block r.index k)) n) name gs)

-- w bytes at the board's address for a hit in the guest's function in slot k
pub record ActsOver (s : State) (gs : GuestsNow) (name : Text) (k : ℕ) (f : Function) (space : Space) (h : Hit)
    (address w v : ℕ) : Type 0 where
  pub reads : space_reply (state_over s gs) space address w ≡ number f.file (block h.index h.offset) w
  pub writes : after_space_write (state_over s gs) space address w v
      ≡ state_over s (with_guest (with_slot_changed (write (all_bytes w) v (block h.index h.offset)) k) name gs)

abbrev pub HitActs : Type 0
HitActs = (s : State) → IsHandoff s → IsOrderly (routing s.functions)
    → (gs : GuestsNow) → AreSeated (board_at s.functions) gs → AreServed s gs
    → (name : Text) (k : ℕ) (p : Path) (f : Function) → HasSlot gs name k p f
    → (space : Space) (n : ℕ) (h : Hit) → lone_claim f space n ≡ Some h
    → (reach : ReachesOver s gs p f space n h)
    × ((w v : ℕ) → ActsOver s gs name k f space h (base_in s p reach.region + h.offset) w v)

abbrev pub MemoryBySpace : Type 0
MemoryBySpace = (s : State) (a w v : ℕ)
    → (memory_reply s a w ≡ space_reply s memory a w)
    × (after_memory_write s a w v ≡ after_space_write s memory a w v)

abbrev pub PortsBySpace : Type 0
PortsBySpace = (s : State) (a w v : ℕ) → port_target s.latch a w ≡ ordinary
    → (port_reply s a w ≡ space_reply s io a w) × (after_port_write s a w v ≡ after_space_write s io a w v)

-- ---- configuration

-- through the bytes that the guest has no copies of
abbrev pub CycleReads : Type 0
CycleReads = (s : State) → IsHandoff s → IsNumbered s.functions
    → (gs : GuestsNow) → AreSeated (board_at s.functions) gs
    → (name : Text) (n : ℕ) (p : Path) (f : Function) → HasSlot gs name n p f → (off : ℕ) (ons : List Bool)
    → config_reply (state_over s gs).functions (current_bdf s.functions p) off (forwarded_byte_enables (config off) ons)
    ≡ read f.file (config off) (forwarded_byte_enables (config off) ons)

abbrev pub CycleWrites : Type 0
CycleWrites = (s : State) → IsStateOfBoard s.functions → IsNumbered s.functions
    → (gs : GuestsNow) → AreSeated (board_at s.functions) gs
    → (name : Text) (n : ℕ) (p : Path) (f : Function) → HasSlot gs name n p f → (off : ℕ) (ons : List Bool) (v : ℕ)
    → after_config_write (state_over s gs).functions (current_bdf s.functions p) off (forwarded_byte_enables (config off) ons) v
    ≡ (state_over s (with_guest (with_slot_changed (write ons v (config off)) n) name gs)).functions

-- ---- served functions

abbrev pub ServedAtFirst : Type 0
ServedAtFirst = (w : World) (s : State) → IsStateOfBoard s.functions → closed_given w s ≡ []
    → AreServed s (guests_at_first w)

abbrev pub ServedAfterEvents : Type 0
ServedAfterEvents = (s : State) (gs : GuestsNow) → AreServed s gs → (name : Text) (e : Event)
    → AreServed s (after_guest_event name e gs)

abbrev pub ServedAfterMoves : Type 0
ServedAfterMoves = (s : State) (gs : GuestsNow) → AreServed s gs → (m : Move) → AreServed s (after_move gs m)

abbrev pub FaultDecides : Type 0
FaultDecides = (w : World) (s : State) → (first_fault w s ≡ None) ↔ CanBeGiven w s
