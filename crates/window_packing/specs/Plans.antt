-- Conversions between the code's types and those of the definitions (placement is this project's own rule).
--     named_pool, named_placed      a pool; a region's register or a window
--     placed_named      a region's register or a window, from the definitions' word
--     fault_of      what is wrong where a pool doesn't fit
--     IsRefusal b a f      memory is out, or f has the number of the first rule that the board breaks
--     writes_of      what is written into a function
use Rattle.std.specs.Prelude.{◌≡◌, ◌⊎◌, Some}
use Rattle.model_registers.specs.DeclarationRules.{first_broken}
use Rattle.model_board.specs.Board.{Board}
use Rattle.model_set_up.specs.{Pools.{io_pool, mem_pool, pref_pool}, Placement.{a_region, a_window}, SetUpWrites.{to_endpoint, to_bridge, placement_rules}}
use Rattle.bars.specs.Slots.{bases_from}
use Rattle.bus_scan.specs.{declared.fault.Fault.{Fault, TheVariants.{IoPool, MemoryPool, PrefetchablePool, Memory}}, Faults.number_of}
use Rattle.window_packing.specs.declared.{pool.Pool.Pool, layout_row.Placed.Placed, function_program.RegisterValues.RegisterValues}
use Rattle.model_set_up.specs.Pools as pools
use Rattle.model_set_up.specs.Placement as placement
use Rattle.model_set_up.specs.SetUpWrites as set_up
use Rattle.window_packing.specs.declared.pool.Pool.TheVariants as pool
use Rattle.window_packing.specs.declared.layout_row.Placed.TheVariants as placed
use Rattle.window_packing.specs.declared.function_program.RegisterValues.TheVariants as writes

abbrev pub named_pool : Pool → pools.Pool
named_pool pool.Io = io_pool
named_pool pool.Mem = mem_pool
named_pool pool.Pref = pref_pool

abbrev pub fault_of : Pool → Fault
fault_of pool.Io = IoPool
fault_of pool.Mem = MemoryPool
fault_of pool.Pref = PrefetchablePool

-- the first rule of placement, by number
abbrev pub IsRefusal : Board → pools.Apertures → Fault → Type 0
IsRefusal b a f = (f ≡ Memory) ⊎ (first_broken (placement_rules b a) ≡ Some (number_of f))

abbrev pub named_placed : Placed → placement.Placed
named_placed (placed.Region index) = a_region index
named_placed placed.Window = a_window

abbrev pub placed_named : placement.Placed → Placed
placed_named (a_region index) = placed.Region index
placed_named a_window = placed.Window

abbrev pub writes_of : RegisterValues → set_up.RegisterValues
writes_of (writes.Endpoint command bases) = to_endpoint command (bases_from 0 bases)
writes_of (writes.Bridge io mem pref) = to_bridge (record { io = io; mem = mem; pref = pref })
