-- The identification of a function as a scan reads it, in the program's types: PCI Local Bus 3.0, chapters 6.2.1 and 6.2.4.
--     seen_of      identity, header and pin of a function, with or without the multifunction bit
use Rattle.std.specs.Prelude.{Bool}
use Rattle.model_board.specs.Board.{Decl, endpoint, bridge}
use Rattle.bus_scan.specs.declared.probed_header.{ProbedHeader.ProbedHeader, Layout.TheVariants.{Endpoint as EndpointLayout, Bridge as BridgeLayout}}

abbrev pub seen_of : Bool → Decl → ProbedHeader
seen_of multifunction (endpoint d) = record {
  vendor = d.vendor;
  device = d.device;
  is_multifunction = multifunction;
  layout = EndpointLayout d.pin;
}
seen_of multifunction (bridge d) = record {
  vendor = d.vendor;
  device = d.device;
  is_multifunction = multifunction;
  layout = BridgeLayout;
}
