-- A row of the program's table, in the terms of the formal model: PCI Local Bus 3.0, chapters 6.2.1 and 6.2.5.
--     regions_of      the regions at base address registers, without their cells
--     decl_of      the parts of a declaration that were found
--     range_of, ended      the buses behind a bridge; the same with another last number
use Rattle.std.specs.Prelude.{List, ℕ, Option, Some, None, map}
use Rattle.model_registers.specs.{Declarations.{Bar, Region, Endpoint, plain_endpoint, plain_bridge}, EndpointTable.opened}
use Rattle.model_board.specs.Board.{Decl, endpoint, bridge}
use Rattle.model_set_up.specs.FunctionTable.{BusRange}
use Rattle.bars.specs.Resets.{at_reset}
use Rattle.headers.specs.Decodes.{io_decode_of, pref_decode_of}
use Rattle.bus_scan.specs.declared.table.Enumerated.{Enumerated, TheVariants.{Endpoint as FoundEndpoint, Bridge as FoundBridge}}

abbrev pub regions_of : List (Option Bar) → List Region
regions_of bars = map opened (at_reset bars)

abbrev pub with_identity : ℕ → ℕ → ℕ → List Region → Endpoint
with_identity vendor device pin regions = record (plain_endpoint vendor device 0) { pin = pin; regions = regions }

abbrev pub decl_of : ℕ → ℕ → Enumerated → Decl
decl_of vendor device (FoundEndpoint pin bars) = endpoint (with_identity vendor device pin (regions_of bars))
decl_of vendor device (FoundBridge secondary subordinate io pref) =
    bridge (plain_bridge vendor device 0 (io_decode_of io) (pref_decode_of pref))

abbrev pub range_of : Enumerated → Option BusRange
range_of (FoundEndpoint pin bars) = None
range_of (FoundBridge secondary subordinate io pref) = Some (record { first = secondary; last = subordinate })

-- the same buses with another last number
abbrev pub ended : ℕ → Option BusRange → Option BusRange
ended last None = None
ended last (Some range) = Some (record range { last = last })
