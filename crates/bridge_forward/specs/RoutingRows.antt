-- The routing registers of a function, in the terms of the formal model: PCI Local Bus 3.0, chapter 6.2.5; PCI-to-PCI
-- Bridge Architecture 1.2, chapter 4.
--     window_of, base_of      a window, and a region with its base
--     named_ranges      the regions of an endpoint, or the windows of a bridge
--     secondary_of, secondary_bus_nth      the Secondary Bus Number of a bridge; of the bridge at an index of the list
--     primary_of, primary_bus_nth      the Primary Bus Number of a bridge; of the bridge at an index of the list
use Rattle.std.specs.{Prelude.{List, ℕ, Option, Some, None, map, option_map, slice_get}, Option.option_map_or}
use Rattle.model_registers.specs.{Registers.{config, File, number}, EndpointTable.BaseAddress}
use Rattle.model_board.specs.{Board.{Decl, endpoint, bridge}, State.BoardFunction, Cycles.secondary_register}
use Rattle.bars.specs.Kinds.{kind_of}
use Rattle.bridge_forward.specs.declared.{routing.{Window.Window, Ranges.{Ranges, TheVariants.{Regions, Windows}}}, routing_region.RoutingRegion.RoutingRegion}
use Rattle.model_registers.specs.Windows as model
use Rattle.model_board.specs.Routing as routing

abbrev pub window_of : Window → model.Window
window_of w = record { first = w.first; last = w.last }

abbrev pub base_of : RoutingRegion → BaseAddress
base_of r = record { index = r.index; kind = kind_of r.kind; size = r.size; base = r.base }

abbrev pub named_ranges : Ranges → routing.Ranges
named_ranges (Regions rs) = routing.regions (map base_of rs.items)
named_ranges (Windows wio wmem wpref) =
    routing.windows (option_map window_of wio) (option_map window_of wmem) (option_map window_of wpref)

abbrev pub secondary_of : Decl → File → Option ℕ
secondary_of (endpoint d) file = None
secondary_of (bridge d) file = Some (secondary_register file)

abbrev pub secondary_bus_nth : List BoardFunction → ℕ → Option ℕ
secondary_bus_nth fs i = option_map_or (λ (f : BoardFunction). secondary_of f.decl f.file) (slice_get fs i) None

abbrev pub primary_of : Decl → File → Option ℕ
primary_of (endpoint d) file = None
primary_of (bridge d) file = Some (number file (config 0x18) 1)

abbrev pub primary_bus_nth : List BoardFunction → ℕ → Option ℕ
primary_bus_nth fs i = option_map_or (λ (f : BoardFunction). primary_of f.decl f.file) (slice_get fs i) None
