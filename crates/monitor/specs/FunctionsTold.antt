-- The code's description of a function of the board.
--     seat_named, function_named      an assignment and a function, from the code's types
--     seat_kept i k gs      the assignment of the function at an index, among kept guests of which the first has index k
use Rattle.std.specs.Prelude.{ℕ, ◌+◌, List, [], ◌∷◌, Option, None, option_map, position}
use Rattle.lists.specs.Elements.{first_of_two}
use Rattle.paths.specs.BusAddresses.{bus_address_of}
use Rattle.bridge_forward.specs.ByIndex.{ranges_told}
use Rattle.findings.specs.Identities.{identity_told}
use Rattle.monitor.specs.{declared.{guest.Guest.Guest, slots.assignment.Assignment.Assignment, queries.functions.LiveFunction.LiveFunction}, InSlots.is_at}
use Rattle.model_handoff.specs.Functions as model

abbrev pub seat_named : Assignment → model.Assignment
seat_named s = record { guest = s.guest; slot = s.slot }

abbrev pub seat_kept : ℕ → ℕ → List Guest → Option model.Assignment
seat_kept i k [] = None
seat_kept i k (g ∷ gs) =
    first_of_two (option_map (λ (n : ℕ). record { guest = k; slot = n }) (position (is_at i) g.slots.items))
    (seat_kept i (k + 1) gs)

abbrev pub function_named : LiveFunction → model.LiveFunction
function_named f = record {
  path = f.path;
  at = bus_address_of f.at;
  identity = identity_told f.identity;
  ranges = ranges_told f.ranges;
  seat = option_map seat_named f.seat;
}
