-- Worked examples: the reports on functions of the main board, after set-up and one move.
--     moved      the second function of guest a, in slot 3 of guest b
--     guests_moved, main_now      the guests after the move; the state of the board then
--     first_told, bridge_told, third_told      an endpoint, a bridge, and the moved function
--     ToldFunctions      these reports, by index and by slot, and the refusals
use Rattle.std.specs.Prelude.{[], ◌∷◌, ◌≡◌, ℕ, true, false, Option, Some, None, Ok, Err, codes}
use Rattle.model_registers.specs.Declarations.{io_kind, mem32, mem64}
use Rattle.model_board.specs.{Windows.Window, Cycles.BusAddress, Routing.{regions, windows}, State.State, Examples.{part, main_board, main_apertures}}
use Rattle.model_set_up.specs.SetUp.{set_up_state}
use Rattle.model_guests.specs.{AgreedBoard.state_over, Examples.{main_world, on_bus_0, behind}, Guests.{GuestsNow, guests_at_first, Move, after_move}}
use Rattle.model_handoff.specs.Functions.{Identity, LiveFunction, function_nth, slot_answer}

abbrev pub moved : Move
moved = record { from = codes "a"; slot = 1; to = codes "b"; target = 3 }

abbrev pub guests_moved : GuestsNow
guests_moved = after_move (guests_at_first main_world) moved

abbrev pub main_now : State
main_now = state_over (set_up_state main_board main_apertures) guests_moved

-- all with Vendor ID 1234h and no subsystem
abbrev pub identity_told : ℕ → ℕ → Identity
identity_told device class =
    record { vendor = 0x1234; device = device; revision = 0; class = class; subvendor = 0; subsystem = 0 }

abbrev pub number_told : ℕ → ℕ → BusAddress
number_told bus d = record { bus = bus; part = part d 0 }

abbrev pub window_told : ℕ → ℕ → Option Window
window_told first last = Some (record { first = first; last = last })

abbrev pub first_told : LiveFunction
first_told = record {
  path = on_bus_0 1;
  at = number_told 0 1;
  identity = identity_told 1 0xff0000;
  ranges = regions (
      record { index = 0; kind = io_kind; size = 32; base = 0x2000 }
      ∷ record { index = 1; kind = mem32 false; size = 4096; base = 0xc0100000 } ∷ []);
  seat = Some (record { guest = 0; slot = 0 });
}

abbrev pub bridge_told : LiveFunction
bridge_told = record {
  path = on_bus_0 2;
  at = number_told 0 2;
  identity = identity_told 2 0x060400;
  ranges = windows (window_told 0x1000 0x1fff) (window_told 0xc0000000 0xc00fffff)
      (window_told 0x400000000 0x400ffffff);
  seat = None;
}

abbrev pub third_told : LiveFunction
third_told = record {
  path = behind 2 1;
  at = number_told 1 1;
  identity = identity_told 4 0xff0000;
  ranges = regions (record { index = 0; kind = mem64 true; size = 0x1000000; base = 0x400000000 } ∷ []);
  seat = Some (record { guest = 1; slot = 3 });
}

pub record ToldFunctions : Type 0 where
  pub first : function_nth main_now guests_moved 0 ≡ Some first_told
  pub bridge : function_nth main_now guests_moved 1 ≡ Some bridge_told
  pub third : function_nth main_now guests_moved 3 ≡ Some third_told
  pub no_more : function_nth main_now guests_moved 4 ≡ None
  pub stayed : slot_answer main_now guests_moved (codes "a") 0 ≡ Ok first_told
  pub came : slot_answer main_now guests_moved (codes "b") 3 ≡ Ok third_told
  -- the slot that the function left, and a slot of no guest
  pub left : slot_answer main_now guests_moved (codes "a") 1 ≡ Err 601
  pub past : slot_answer main_now guests_moved (codes "a") 32 ≡ Err 303
