-- Whether firmware sees a function at a physical number. PCI Local Bus 3.0, chapter 6.1 (Vendor ID: 0xffff is that of
-- no vendor, and is what a read shows where nothing answers).
--     vendor_id fs at      the Vendor ID that a configuration read shows there
--     is_present fs at     that number is some vendor's
--     function_0 d      function 0 of a device on bus 0
--     devices_below fs n      how many of the devices 0 to n - 1 on bus 0 show a function 0
use Rattle.std.specs.Prelude.{ℕ, zero, suc, ◌+◌, ◌==◌, if◌then◌else◌, List, Bool, not}
use Rattle.model_registers.specs.ByteEnables.{lanes}
use Rattle.model_board.specs.{State.BoardFunction, Cycles.BusAddress, Ports.config_reply}

abbrev pub vendor_id : List BoardFunction → BusAddress → ℕ
vendor_id fs at = config_reply fs at 0 (lanes 3)

abbrev pub is_present : List BoardFunction → BusAddress → Bool
is_present fs at = not (vendor_id fs at == 0xffff)

abbrev pub function_0 : ℕ → BusAddress
function_0 d = record { bus = 0; part = record { device = d; function = 0 } }

abbrev pub devices_below : List BoardFunction → ℕ → ℕ
devices_below fs zero = 0
devices_below fs (suc d) = devices_below fs d + (if is_present fs (function_0 d) then 1 else 0)
