-- The description of a function of the board, as C receives it: PCI Local Bus 3.0, chapter 6; PCI-to-PCI Bridge
-- Architecture 1.2, chapter 3.
--     region_row b, no_region      a base address register with its region, and where none begins
--     region_rows r      those of the six base address registers; a bridge has none
--     window_row w, window_rows r      a window, and a bridge's windows for ports, memory and prefetchable memory
--     text_room, zero_padded_text t      a text at the front of the bytes that are there for it, the others 0
--     function_row f i, function_told w f      the description of a function, with its interrupt
--     slot_asked w guest slot      the function in a slot of a guest by its index, or why there is none
use Rattle.std.specs.{Prelude.{◌==◌, ◌-◌, ◌++◌, ℕ, List, [], ◌∷◌, map, length, replicate, find, is_some, Option, Some, None, Result}, Option.option_map_or}
use Rattle.model_registers.specs.{Declarations.registers_of, Decoding.space_of, EndpointTable.BaseAddress}
use Rattle.model_board.specs.{Windows.Window, Routing.{Ranges, regions, windows}}
use Rattle.model_guests.specs.{Text.Text, PathTexts.path_text, WorldNow.{WorldNow, board_state}}
use Rattle.model_handoff.specs.{GuestRegions.is_prefetchable, Functions.{LiveFunction, Assignment, slot_answer}}
use Rattle.monitor.specs.ByIndex.{name_nth}
use Rattle.pciguest_c.specs.{InterruptsTold.interrupt_of, QueriesTold.{one_if, space_number}, declared.{values.interrupts.Interrupt.Interrupt, values.function_row.{RegionRow.RegionRow, WindowRow.WindowRow, FunctionTold.FunctionTold}}}

abbrev pub no_region : RegionRow
no_region = record { first = 0; size = 0; space = 0; prefetchable = 0; is_64_bit = 0 }

-- a region of 64 bits takes two registers
abbrev pub region_row : BaseAddress → RegionRow
region_row b = record {
  first = b.base;
  size = b.size;
  space = space_number (space_of b.kind);
  prefetchable = one_if (is_prefetchable b.kind);
  is_64_bit = one_if (registers_of b.kind == 2);
}

abbrev pub region_row_at : List BaseAddress → ℕ → RegionRow
region_row_at bs n = option_map_or region_row (find (λ (b : BaseAddress). b.index == n) bs) no_region

abbrev pub region_rows : Ranges → List RegionRow
region_rows (regions bs) = map (region_row_at bs) (0 ∷ 1 ∷ 2 ∷ 3 ∷ 4 ∷ 5 ∷ [])
region_rows (windows wio wmem wpref) = replicate 6 no_region

abbrev pub window_row : Option Window → WindowRow
window_row None = record { first = 0; last = 0; is_there = 0 }
window_row (Some w) = record { first = w.first; last = w.last; is_there = 1 }

abbrev pub window_rows : Ranges → List WindowRow
window_rows (regions bs) = replicate 3 (window_row None)
window_rows (windows wio wmem wpref) = window_row wio ∷ window_row wmem ∷ window_row wpref ∷ []

abbrev pub bridge_flag : Ranges → ℕ
bridge_flag (regions bs) = 0
bridge_flag (windows wio wmem wpref) = 1

-- the longest text of a path has 79 bytes
abbrev pub text_room : ℕ
text_room = 80

abbrev pub zero_padded_text : Text → List ℕ
zero_padded_text t = t ++ replicate (text_room - length t) 0

abbrev pub function_row : LiveFunction → Interrupt → FunctionTold
function_row f interrupt = record {
  path = zero_padded_text (path_text f.path);
  path_length = length (path_text f.path);
  bus = f.at.bus;
  device = f.at.part.device;
  function = f.at.part.function;
  vendor_id = f.identity.vendor;
  device_id = f.identity.device;
  revision_id = f.identity.revision;
  class_code = f.identity.class;
  subsystem_vendor_id = f.identity.subvendor;
  subsystem_id = f.identity.subsystem;
  is_bridge = bridge_flag f.ranges;
  regions = region_rows f.ranges;
  windows = window_rows f.ranges;
  is_given = one_if (is_some f.seat);
  guest = option_map_or (λ (s : Assignment). s.guest) f.seat 0;
  slot = option_map_or (λ (s : Assignment). s.slot) f.seat 0;
  interrupt = interrupt;
  reserved = replicate 4 0;
}

abbrev pub function_told : WorldNow → LiveFunction → FunctionTold
function_told w f = function_row f (interrupt_of w f)

abbrev pub slot_asked : WorldNow → ℕ → ℕ → Result LiveFunction ℕ
slot_asked w guest slot = slot_answer (board_state w) w.guests (name_nth w guest) slot
