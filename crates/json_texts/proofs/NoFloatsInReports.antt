-- The value has no float, so what is written of it is its compact text.
use Rattle.std.{proofs.Common.{◌≡◌, ℕ, ◌+◌, List, [], ◌∷◌, Bool, true, false, ◌||◌, ◌==◌, map, Option, Some, None, refl, ap₂}, specs.{Prelude.{nat_lt, if◌then◌else◌}, Option.option_map_or}}
use Rattle.serde_json.specs.{Data.{Data, null}, View.items_of, Written.{has_float, items_have_float}}
use Rattle.model_registers.specs.{BridgeTable.{Window}, Decoding.{Function}, Capabilities.{listed}}
use Rattle.model_board.specs.{Paths.Path, Board.{Decl, endpoint, bridge}, State.{BoardFunction}}
use Rattle.model_set_up.specs.{FunctionTable.{BusRange, TableRow}, SetUpWrites.{RegisterValues, to_endpoint, to_bridge, FunctionProgram}}
use Rattle.model_guests.specs.World.{Guest}
use Rattle.model_handoff.specs.FoundReport.{SetUpBoard}
use Rattle.bridge_forward.specs.Lending.{endpoint_nth}
use Rattle.json_texts.specs.{ReportValue.{region_value, capability_value, slot_values, guest_value}, FoundValue.{pin_route_or_null, open_window_or_null, region_values_if_endpoint, windows_of_bridge_or_null, capability_values_nth, found_buses, decl_value, function_values, found_value}}

-- ---- lists of values, and null where there is none

module _ {A : Type 0} (f : A → Data) (none : (x : A) → has_float (f x) ≡ false) where
  pub none_mapped : (xs : List A) → items_have_float (items_of (map f xs)) ≡ false
  none_mapped [] = refl
  none_mapped (x ∷ xs) = ap₂ (λ a b. a || b) (none x) (none_mapped xs)

  pub none_in_option : (o : Option A) → has_float (option_map_or f o null) ≡ false
  none_in_option None = refl
  none_in_option (Some x) = none x

none_in_slots : (n : ℕ) (ps : List Path) → items_have_float (items_of (slot_values n ps)) ≡ false
none_in_slots n [] = refl
none_in_slots n (p ∷ ps) = none_in_slots (n + 1) ps

-- ---- parts of a function

either : (b : Bool) (d e : Data) → has_float d ≡ false → has_float e ≡ false → has_float (if b then d else e) ≡ false
either true d e h k = h
either false d e h k = k

none_in_interrupt : (p : Path) (pin : ℕ) → has_float (pin_route_or_null p pin) ≡ false
none_in_interrupt p pin = either (pin == 0 || nat_lt 4 pin) _ _ refl refl

none_in_window : (w : Window) → has_float (open_window_or_null w) ≡ false
none_in_window w = either (nat_lt w.last w.first) _ _ refl refl

none_in_regions : (w : RegisterValues) → items_have_float (items_of (region_values_if_endpoint w)) ≡ false
none_in_regions (to_endpoint command bases) = none_mapped region_value (λ r. refl) bases
none_in_regions (to_bridge w) = refl

none_in_windows : (w : RegisterValues) → has_float (windows_of_bridge_or_null w) ≡ false
none_in_windows (to_endpoint command bases) = refl
none_in_windows (to_bridge w) = rw (none_in_window w.io, none_in_window w.mem, none_in_window w.pref) refl

none_in_buses : (bus : ℕ) (behind : Option BusRange) → has_float (found_buses bus behind) ≡ false
none_in_buses bus None = refl
none_in_buses bus (Some behind) = refl

-- ---- functions, guests, and the whole

none_declared : (o : Option Function) → items_have_float (items_of (option_map_or (λ (e : Function). map capability_value (listed e.decl)) o [])) ≡ false
none_declared None = refl
none_declared (Some e) = none_mapped capability_value (λ c. refl) (listed e.decl)

none_in_function : (bus : ℕ) (behind : Option BusRange) (p : Path) (d : Decl) (fs : List BoardFunction) (n : ℕ) (w : RegisterValues) → has_float (decl_value bus behind p d (capability_values_nth fs n) w) ≡ false
none_in_function bus behind p (endpoint d) fs n w = rw (none_declared (endpoint_nth fs n), none_in_interrupt p d.pin, none_in_regions w) refl
none_in_function bus behind p (bridge d) fs n w = rw (none_in_buses bus behind, none_in_windows w) refl

none_in_functions : (fs : List BoardFunction) (n : ℕ) (rs : List TableRow) (ss : List FunctionProgram) → items_have_float (items_of (function_values fs n rs ss)) ≡ false
none_in_functions fs n [] ss = refl
none_in_functions fs n (r ∷ rs) [] = refl
none_in_functions fs n (r ∷ rs) (s ∷ ss) = ap₂ (λ a b. a || b) (none_in_function r.bus r.behind r.path r.decl fs n s.writes) (none_in_functions fs (n + 1) rs ss)

none_in_guest : (g : Guest) → has_float (guest_value g) ≡ false
none_in_guest g = rw (none_in_slots 0 g.slots) refl

none_in_guests : (gs : List Guest) → items_have_float (items_of (map guest_value gs)) ≡ false
none_in_guests gs = none_mapped guest_value none_in_guest gs

pub none_in_report : (fs : List BoardFunction) (s : SetUpBoard) → has_float (found_value fs s) ≡ false
none_in_report fs s = rw (none_in_functions fs 0 s.functions s.plan.settings, none_in_guests s.guests) refl
