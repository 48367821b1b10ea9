-- The BDF of a function, in the terms of the formal model.
use Rattle.model_board.specs.Cycles.{BusAddress}
use Rattle.paths.specs.declared.bdf.Bdf.{Bdf}

abbrev pub bus_address_of : Bdf → BusAddress
bus_address_of b = record { bus = b.bus; part = record { device = b.device; function = b.function } }
