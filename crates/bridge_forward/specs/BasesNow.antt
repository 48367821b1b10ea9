-- The current addresses of one function's regions: PCI Local Bus 3.0, chapter 6.2.5.
--     bases_of      the regions of an endpoint, by register; a bridge has none
--     bases_nth      the regions of the function at an index of the list
use Rattle.std.specs.{Prelude.{List, [], ℕ, map, slice_get}, Option.option_map_or}
use Rattle.model_registers.specs.{Registers.File, EndpointTable.BaseAddress, Decoding.base_address}
use Rattle.model_board.specs.{Board.{Decl, endpoint, bridge}, State.BoardFunction}

abbrev pub bases_of : Decl → File → List BaseAddress
bases_of (endpoint d) file = map (base_address file) d.regions
bases_of (bridge d) file = []

abbrev pub bases_nth : List BoardFunction → ℕ → List BaseAddress
bases_nth fs i = option_map_or (λ (f : BoardFunction). bases_of f.decl f.file) (slice_get fs i) []
